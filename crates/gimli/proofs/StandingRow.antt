-- The top row that stands still: what is written at places j xor k, and what another k makes of it.
use Rattle.std.proofs.Common.{◌≡◌, ℕ, ◌<◌, List, [], ◌∷◌, length, get_or, set, refl, ap, ◌∙◌, subst}
use lib.Bits.{bit_xor, xor_lt}
use Rattle.gimli.specs.Four.{by_four, row_of_four}
use Rattle.gimli.specs.StringsLemmas.{same_state}
use Rattle.gimli.specs.Permutation.{row}
use Rattle.gimli.specs.Standing.{meant}
use Rattle.gimli.specs.declared.standing.Standing.{Standing}

-- the row that is meant by a stored one
abbrev pub read_at : ℕ → List ℕ → List ℕ
read_at k t = row (λ j. get_or t (bit_xor j k) 0)

pub stays_below : (j k : ℕ) → j < 4 → k < 4 → bit_xor j k < 4
stays_below j k h l = xor_lt 2 j k h l

-- what holds of every row of four words and every k
for_rows : (P : ℕ → List ℕ → Type 0) → ((a b c d : ℕ) → P 0 (a ∷ b ∷ c ∷ d ∷ []) × P 1 (a ∷ b ∷ c ∷ d ∷ []) × P 2 (a ∷ b ∷ c ∷ d ∷ []) × P 3 (a ∷ b ∷ c ∷ d ∷ [])) → (k : ℕ) (t : List ℕ) → k < 4 → length t ≡ 4 → P k t
for_rows P all k t h long =
    let each = all (get_or t 0 0) (get_or t 1 0) (get_or t 2 0) (get_or t 3 0) in
    subst (P k) (row_of_four t long) (by_four (λ k. P k (row (λ j. get_or t j 0))) each.0 each.1 each.2 each.3 k h)

-- four words written where the columns' top words stand
pub written : (k : ℕ) (t : List ℕ) (p0 p1 p2 p3 x0 x1 x2 x3 : ℕ) → k < 4 → length t ≡ 4 → p0 ≡ bit_xor 0 k → p1 ≡ bit_xor 1 k → p2 ≡ bit_xor 2 k → p3 ≡ bit_xor 3 k → read_at k (set (set (set (set t p0 x0) p1 x1) p2 x2) p3 x3) ≡ x0 ∷ x1 ∷ x2 ∷ x3 ∷ []
written k t p0 p1 p2 p3 x0 x1 x2 x3 h long e0 e1 e2 e3 =
    ap (λ (p : ℕ). read_at k (set (set (set (set t p x0) p1 x1) p2 x2) p3 x3)) e0
    ∙ ap (λ (p : ℕ). read_at k (set (set (set (set t k x0) p x1) p2 x2) p3 x3)) e1
    ∙ ap (λ (p : ℕ). read_at k (set (set (set (set t k x0) (bit_xor 1 k) x1) p x2) p3 x3)) e2
    ∙ ap (λ (p : ℕ). read_at k (set (set (set (set t k x0) (bit_xor 1 k) x1) (bit_xor 2 k) x2) p x3)) e3
    ∙ for_rows (λ k t. read_at k (set (set (set (set t k x0) (bit_xor 1 k) x1) (bit_xor 2 k) x2) (bit_xor 3 k) x3) ≡ x0 ∷ x1 ∷ x2 ∷ x3 ∷ [])
    (λ a b c d. (refl, refl, refl, refl)) k t h long

-- a word xored into the top word of column 0
pub first_xored : (k : ℕ) (t : List ℕ) (p w : ℕ) → k < 4 → length t ≡ 4 → p ≡ k → read_at k (set t p (bit_xor (get_or t p 0) w)) ≡ bit_xor (get_or t k 0) w ∷ get_or t (bit_xor 1 k) 0 ∷ get_or t (bit_xor 2 k) 0 ∷ get_or t (bit_xor 3 k) 0 ∷ []
first_xored k t p w h long e =
    ap (λ (p : ℕ). read_at k (set t p (bit_xor (get_or t p 0) w))) e
    ∙ for_rows (λ k t. read_at k (set t k (bit_xor (get_or t k 0) w)) ≡ bit_xor (get_or t k 0) w ∷ get_or t (bit_xor 1 k) 0 ∷ get_or t (bit_xor 2 k) 0 ∷ get_or t (bit_xor 3 k) 0 ∷ [])
    (λ a b c d. (refl, refl, refl, refl)) k t h long

-- k xor 1 stands for the small swap, k xor 2 for the big one
pub small_swapped : (k : ℕ) (t : List ℕ) → k < 4 → read_at (bit_xor k 1) t ≡ get_or t (bit_xor 1 k) 0 ∷ get_or t k 0 ∷ get_or t (bit_xor 3 k) 0 ∷ get_or t (bit_xor 2 k) 0 ∷ []
small_swapped k t = by_four (λ k. read_at (bit_xor k 1) t ≡ get_or t (bit_xor 1 k) 0 ∷ get_or t k 0 ∷ get_or t (bit_xor 3 k) 0 ∷ get_or t (bit_xor 2 k) 0 ∷ []) refl refl refl refl k

pub big_swapped : (k : ℕ) (t : List ℕ) → k < 4 → read_at (bit_xor k 2) t ≡ get_or t (bit_xor 2 k) 0 ∷ get_or t (bit_xor 3 k) 0 ∷ get_or t k 0 ∷ get_or t (bit_xor 1 k) 0 ∷ []
big_swapped k t = by_four (λ k. read_at (bit_xor k 2) t ≡ get_or t (bit_xor 2 k) 0 ∷ get_or t (bit_xor 3 k) 0 ∷ get_or t k 0 ∷ get_or t (bit_xor 1 k) 0 ∷ []) refl refl refl refl k

-- at k = 0 the words stand where they are meant
pub at_rest : (s : Standing) → s.k ≡ 0 → length s.stored.top ≡ 4 → meant s ≡ s.stored
unfolding meant
at_rest s e long = same_state (ap (λ (k : ℕ). read_at k s.stored.top) e ∙ row_of_four s.stored.top long) refl refl
