-- Past a byte of a block: within it the next place, and at its end the rule.
use Rattle.std.proofs.Common.{◌≡◌, ℕ, ◌+◌, ◌%◌, ◌<◌, Bool, cond, ◌≢◌, List, ap, ◌∙◌, inl, inr, arith, eq-eqb, ne_eqb}
use Rattle.std.proofs.lemmas.Bool.{cases_eq}
use Rattle.sponge.specs.Blocks.{rate}
use Rattle.sponge.specs.Steps.{State, at, advanced}

module _ (rule : List ℕ → List ℕ) (s : List ℕ) (i : ℕ) where
  pub advanced_end : i + 1 ≡ rate → advanced rule (at s i) ≡ at (rule s) 0
  advanced_end e = ap (λ (b : Bool). cond b (at (rule s) 0) (at s (i + 1))) (eq-eqb (i + 1) rate e)

  pub advanced_within : i + 1 ≢ rate → advanced rule (at s i) ≡ at s (i + 1)
  advanced_within e = ap (λ (b : Bool). cond b (at (rule s) 0) (at s (i + 1))) (ne_eqb (i + 1) rate e)

-- the place past a byte is one of the block, so reading it modulo the rate leaves it
pub advanced_read : (rule : List ℕ → List ℕ) (s t : List ℕ) (i r : ℕ) → at s r ≡ advanced rule (at t (i % rate)) → at s (r % rate) ≡ advanced rule (at t (i % rate))
advanced_read rule s t i r e =
    let below : r < rate =
    elim (cases_eq (i % rate + 1) rate) [
      | inl f ↦ let g : r ≡ 0 = ap (λ (p : State). p.place) (e ∙ advanced_end rule t (i % rate) f) in omega arith
      | inr f ↦ let g : r ≡ i % rate + 1 = ap (λ (p : State). p.place) (e ∙ advanced_within rule t (i % rate) f) in omega arith
    ] in
    let same : r % rate ≡ r = omega arith in
    ap (λ (j : ℕ). at s j) same ∙ e
