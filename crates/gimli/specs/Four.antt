-- A number below four is one of four; a row of four words is known by them.
use Rattle.std.specs.Prelude.{◌≡◌, ℕ, zero, suc, ◌^◌, ◌<◌, List, [], ◌∷◌, length, slice_index, refl}
use Rattle.std.proofs.Common.{arith}
use Rattle.gimli.specs.Permutation.{row, WholeRow}

pub by_four : (P : ℕ → Type 0) → P 0 → P 1 → P 2 → P 3 → (m : ℕ) → m < 4 → P m
by_four P p0 p1 p2 p3 zero h = p0
by_four P p0 p1 p2 p3 (suc zero) h = p1
by_four P p0 p1 p2 p3 (suc (suc zero)) h = p2
by_four P p0 p1 p2 p3 (suc (suc (suc zero))) h = p3
by_four P p0 p1 p2 p3 (suc (suc (suc (suc m)))) h = absurd (omega arith)

-- a list of four is the row of its words
pub row_of_four : (r : List ℕ) → length r ≡ 4 → row (λ j. slice_index r j) ≡ r
row_of_four (a ∷ b ∷ c ∷ d ∷ []) e = refl
row_of_four [] e = absurd (omega arith)
row_of_four (a ∷ []) e = absurd (omega arith)
row_of_four (a ∷ b ∷ []) e = absurd (omega arith)
row_of_four (a ∷ b ∷ c ∷ []) e = absurd (omega arith)
row_of_four (a ∷ b ∷ c ∷ d ∷ x ∷ r) e = absurd (omega arith)

pub row_at : (word : ℕ → ℕ) (j : ℕ) → j < 4 → slice_index (row word) j ≡ word j
row_at word = by_four (λ j. slice_index (row word) j ≡ word j) refl refl refl refl

pub row_whole : (word : ℕ → ℕ) → ((j : ℕ) → word j < 2 ^ 32) → WholeRow (row word)
row_whole word fits = record { long = refl; words = words }
  where
    words : (j : ℕ) → slice_index (row word) j < 2 ^ 32
    words zero = fits 0
    words (suc zero) = fits 1
    words (suc (suc zero)) = fits 2
    words (suc (suc (suc zero))) = fits 3
    words (suc (suc (suc (suc j)))) = omega arith
