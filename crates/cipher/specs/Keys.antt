-- Keys.
use Rattle.std.specs.Prelude.{◌≡◌, ℕ, List, length, Ok, Err, Result, ◌≢◌}
use Rattle.engine.specs.Refusals.{number}
use Rattle.engine.specs.declared.refusal.Refusal.{Refusal}
use Rattle.cipher.specs.declared.key.Key.{Key}

-- how many bytes a key has
abbrev pub key_length : ℕ
key_length = 32

-- a key's string
abbrev pub key_bytes : Key → List ℕ
key_bytes k = k.bytes

-- a string made into a key; one that is not 32 bytes is refused with 3
abbrev pub KeyMade : List ℕ → Result Key Refusal → Type 0
KeyMade s (Ok k) = (length s ≡ key_length) × (key_bytes k ≡ s)
KeyMade s (Err e) = (length s ≢ key_length) × (number e ≡ 3)
