-- Strings of bytes, and the width of a state.
use Rattle.std.specs.Prelude.{◌≡◌, ℕ, suc, ◌<◌, List, [], ◌∷◌, ◌++◌, length, replicate, bit_xor, slice_index, slice_set}

-- how many bytes a state has
abbrev pub width : ℕ
width = 48

-- each number of a string is a byte
abbrev pub Bytes : List ℕ → Type 0
Bytes s = (i : ℕ) → slice_index s i < 256

-- a string that can stand in a state: 48 bytes
pub record Whole (s : List ℕ) : Type 0 where
  pub long : length s ≡ width
  pub bytes : Bytes s

-- the state of zeros
abbrev pub zeros : List ℕ
zeros = replicate width 0

-- a string whose byte at one place is changed by xor with b
abbrev pub xored : List ℕ → ℕ → ℕ → List ℕ
xored s place b = slice_set s place (bit_xor (slice_index s place) b)

-- the bytes of a string xored in, the first at a place and each other at the next; what lies past the last place is left out
unfoldable pub xored_from : List ℕ → ℕ → List ℕ → List ℕ
xored_from s place [] = s
xored_from s place (b ∷ m) = xored_from (xored s place b) (suc place) m

-- the front of a string is m
abbrev pub BeginsWith : List ℕ → List ℕ → Type 0
BeginsWith m s = (rest : List ℕ) × (s ≡ m ++ rest)
