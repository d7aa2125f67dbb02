-- Six groups of four rounds are the 24 rounds, whatever they are rounds of.
use Rattle.std.proofs.Common.{◌≡◌, ℕ, zero, suc, ◌+◌, ◌*◌, ◌<◌, List, [], ◌∷◌, get_or, ap, ◌∙◌, arith}

-- the first round of each group
abbrev pub numbers : List ℕ
numbers = 24 ∷ 20 ∷ 16 ∷ 12 ∷ 8 ∷ 4 ∷ []

-- a group behind the first n groups is the first n + 1 groups; `first k` are the first k rounds
pub record Groups {S : Type 0} (four first : ℕ → S → S) (s : S) : Type 0 where
  pub one : four 24 (first 0 s) ≡ first 4 s
  pub two : four 20 (first 4 s) ≡ first 8 s
  pub three : four 16 (first 8 s) ≡ first 12 s
  pub fourth : four 12 (first 12 s) ≡ first 16 s
  pub five : four 8 (first 16 s) ≡ first 20 s
  pub six : four 4 (first 20 s) ≡ first 24 s

module _ {S : Type 0} (four first : ℕ → S → S) (s : S) (groups : Groups four first s) where
  pub group_more : (n : ℕ) → n < 6 → four (get_or numbers n 0) (first (4 * n) s) ≡ first (4 * (n + 1)) s
  group_more zero h = groups.one
  group_more (suc zero) h = groups.two
  group_more (suc (suc zero)) h = groups.three
  group_more (suc (suc (suc zero))) h = groups.fourth
  group_more (suc (suc (suc (suc zero)))) h = groups.five
  group_more (suc (suc (suc (suc (suc zero))))) h = groups.six
  group_more (suc (suc (suc (suc (suc (suc n)))))) h = absurd (omega arith)

  -- one turn of the loop over the groups: t is what the first n groups left, and u is t after one more
  pub turn : (n : ℕ) (t u : S) → n < 6 → t ≡ first (4 * n) s → u ≡ four (get_or numbers n 0) t → u ≡ first (4 * (n + 1)) s
  turn n t u h before now = now ∙ ap (four (get_or numbers n 0)) before ∙ group_more n h
