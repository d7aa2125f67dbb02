-- A state as a string of 48 bytes, and the permutation as a rule on such strings.
use Rattle.std.specs.Prelude.{◌≡◌, ℕ, zero, suc, ◌+◌, ◌*◌, ◌/◌, ◌%◌, ◌^◌, ◌<◌, ◌≤◌, ◌≢◌, List, map, length, Some, None, Ok, Err, Option, Result, slice_index}
use Rattle.std.specs.List.{range_with_len}
use Rattle.engine.specs.Refusals.{number}
use Rattle.engine.specs.Strings.{width, xored}
use Rattle.engine.specs.declared.refusal.Refusal.{Refusal}
use Rattle.gimli.specs.Permutation.{row, permutation}
use Rattle.gimli.specs.declared.state.State.{State}

-- row 0, row 1, row 2
abbrev pub row_of : State → ℕ → List ℕ
row_of s zero = s.top
row_of s (suc zero) = s.middle
row_of s (suc (suc i)) = s.bottom

-- the byte at a place: word s(i,j) begins at place 16 i + 4 j, its lowest byte first
abbrev pub byte_at : State → ℕ → ℕ
byte_at s place = slice_index (row_of s (place / 16)) (place % 16 / 4) / 2 ^ (8 * (place % 4)) % 256

-- the string of a state
unfoldable pub string : State → List ℕ
string s = map (byte_at s) (range_with_len 0 width)

-- the word that begins at a place of a string
abbrev pub word_at : List ℕ → ℕ → ℕ
word_at m place = slice_index m place + slice_index m (place + 1) * 256 + slice_index m (place + 2) * 65536 + slice_index m (place + 3) * 16777216

-- the state of a string
unfoldable pub state : List ℕ → State
state m = record { top = row (λ j. word_at m (4 * j)); middle = row (λ j. word_at m (16 + 4 * j)); bottom = row (λ j. word_at m (32 + 4 * j)) }

-- from_bytes: a state of a string of 48 bytes, and of no other
abbrev pub FromBytes : List ℕ → Option State → Type 0
FromBytes m None = length m ≢ width
FromBytes m (Some s) = (length m ≡ width) × (s ≡ state m)

-- xor_byte of a state: done to its string within it; past it refused with 1, and the state is as it was
abbrev pub StateXored : State → ℕ → ℕ → Result Unit Refusal → State → Type 0
StateXored before place b (Ok x) after = (place < width) × (string after ≡ xored (string before) place b)
StateXored before place b (Err e) after = (width ≤ place) × (number e ≡ 1) × (after ≡ before)

-- what the permutation does to a string
unfoldable pub gimli : List ℕ → List ℕ
gimli m = string (permutation (state m))
