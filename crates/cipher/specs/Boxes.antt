-- What holds of the boxes under one key and one nonce.
use Rattle.std.specs.Prelude.{◌≡◌, ℕ, ◌+◌, List, length}
use Rattle.engine.specs.Strings.{Bytes}
use Rattle.sponge.specs.Blocks.{rate, sealed_box}

pub record Boxes (rule : List ℕ → List ℕ) (key nonce : List ℕ) : Type 0 where
  -- a box has 16 bytes more than its message
  pub long : (ad m : List ℕ) → Bytes ad → Bytes m → length (sealed_box rule key nonce ad m) ≡ length m + rate
  -- no two messages have one box
  pub apart : (ad m m' : List ℕ) → Bytes ad → Bytes m → Bytes m' → sealed_box rule key nonce ad m ≡ sealed_box rule key nonce ad m' → m ≡ m'
