-- The Gimli permutation: 24 rounds on a state of three rows of four words.
use Rattle.std.specs.Prelude.{◌≡◌, ℕ, zero, suc, ◌-◌, ◌%◌, ◌^◌, ◌<◌, cond, List, [], ◌∷◌, length, ◌==◌, bit_and, bit_or, bit_xor, slice_index}
use Rattle.gimli.specs.Words.{shifted, rotated}
use Rattle.gimli.specs.declared.state.State.{State}

-- a column: its words of row 0, row 1 and row 2
abbrev pub Column : Type 0
Column = ℕ × ℕ × ℕ

-- the SP-box, from a column to a column
unfoldable pub sp_box : Column → Column
sp_box (w0, w1, w2) =
    let x = rotated 24 w0 in
    let y = rotated 9 w1 in
    let z = w2 in
    (bit_xor (bit_xor z y) (shifted 3 (bit_and x y)), bit_xor (bit_xor y x) (shifted 1 (bit_or x z)), bit_xor (bit_xor x (shifted 1 z)) (shifted 2 (bit_and y z)))

-- a row from its four words
abbrev pub row : (ℕ → ℕ) → List ℕ
row word = word 0 ∷ word 1 ∷ word 2 ∷ word 3 ∷ []

-- a row has four words of 32 bits
pub record WholeRow (r : List ℕ) : Type 0 where
  pub long : length r ≡ 4
  pub words : (j : ℕ) → slice_index r j < 2 ^ 32

-- what the code's types say of a state
pub record Whole (s : State) : Type 0 where
  pub top : WholeRow s.top
  pub middle : WholeRow s.middle
  pub bottom : WholeRow s.bottom

-- column j of a state
abbrev pub column : State → ℕ → Column
column s j = (slice_index s.top j, slice_index s.middle j, slice_index s.bottom j)

-- a state from its four columns
abbrev pub from_columns : (ℕ → Column) → State
from_columns c = record { top = row (λ j. (c j).0); middle = row (λ j. (c j).1); bottom = row (λ j. (c j).2) }

-- the SP-box on each column
unfoldable pub columns : State → State
columns s = from_columns (λ j. sp_box (column s j))

-- words 0 and 1 of the top row exchanged, and words 2 and 3
unfoldable pub small_swap : State → State
small_swap s = record { top = slice_index s.top 1 ∷ slice_index s.top 0 ∷ slice_index s.top 3 ∷ slice_index s.top 2 ∷ []; middle = s.middle; bottom = s.bottom }

-- words 0 and 2 of the top row exchanged, and words 1 and 3
unfoldable pub big_swap : State → State
big_swap s = record { top = slice_index s.top 2 ∷ slice_index s.top 3 ∷ slice_index s.top 0 ∷ slice_index s.top 1 ∷ []; middle = s.middle; bottom = s.bottom }

-- the constant of round r xored into word 0 of the top row
unfoldable pub add_constant : ℕ → State → State
add_constant r s = record { top = bit_xor (slice_index s.top 0) (bit_xor 0x9e377900 r) ∷ slice_index s.top 1 ∷ slice_index s.top 2 ∷ slice_index s.top 3 ∷ []; middle = s.middle; bottom = s.bottom }

-- round r: the columns; then the small swap and the constant if r is a multiple of 4, the big swap if r leaves 2
unfoldable pub round : ℕ → State → State
round r s =
    cond (r % 4 == 0) (add_constant r (small_swap (columns s)))
    (cond (r % 4 == 2) (big_swap (columns s)) (columns s))

-- the first n rounds, which are numbered from 24 down
unfoldable pub first_rounds : ℕ → State → State
first_rounds zero s = s
first_rounds (suc n) s = round (24 - n) (first_rounds n s)

unfoldable pub permutation : State → State
permutation s = first_rounds 24 s
