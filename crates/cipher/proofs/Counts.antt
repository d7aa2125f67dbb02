-- No two counts have one nonce.
use Rattle.std.proofs.Common.{◌≡◌, ℕ, ◌^◌, ◌<◌, List, sym, ap, ◌∙◌}
use Rattle.std.specs.Int.{w32, from_le_bytes}
use Rattle.std.proofs.lemmas.Nat.{from_le_bytes-to_le_bytes_4}
use Rattle.std.proofs.lemmas.List.{append_cancel_left}
use Rattle.cipher.specs.Nonces.{count_bytes, nonce_of}

count_bytes_apart : (a b : ℕ) → a < 2 ^ 32 → b < 2 ^ 32 → count_bytes a ≡ count_bytes b → a ≡ b
count_bytes_apart a b h k e = sym (from_le_bytes-to_le_bytes_4 a h) ∙ ap (from_le_bytes w32) e ∙ from_le_bytes-to_le_bytes_4 b k

pub nonces_apart : (name : List ℕ) (a b : ℕ) → a < 2 ^ 32 → b < 2 ^ 32 → nonce_of name a ≡ nonce_of name b → a ≡ b
nonces_apart name a b h k e = count_bytes_apart a b h k (append_cancel_left name (count_bytes a) (count_bytes b) e)
