-- Bytes written in hex digits: 0 to 9 and a to f.
use Rattle.std.specs.Prelude.{ℕ, ◌+◌, ◌/◌, ◌%◌, cond, List, [], ◌∷◌, nat_lt}
use Rattle.std.specs.List.{flat_map}

-- the character of a digit below 16: '0' is 48, and 'a', the digit ten, is 97
abbrev pub digit : ℕ → ℕ
digit d = cond (nat_lt d 10) (48 + d) (87 + d)

-- a byte's two digits, the high one first
abbrev pub pair : ℕ → List ℕ
pair b = digit (b / 16) ∷ digit (b % 16) ∷ []

-- the digits of a string of bytes
abbrev pub hex : List ℕ → List ℕ
hex s = flat_map pair s
