use Rattle.std.proofs.Common.{◌≡◌, ℕ, suc, ◌-◌, sym, refl, ap, ◌∙◌, arith, rules}
use Rattle.gimli.specs.Permutation.{round, first_rounds, permutation}
use Rattle.gimli.specs.Standing.{meant as meant_of, next_k, k_after}
use Rattle.gimli.proofs.StandingRow.{at_rest}
use Rattle.gimli.proofs.standing.standing_permutation.Goals as goal

pub loop-number-init : goal.loop-number-init
unfolding first_rounds
loop-number-init c = (omega arith, omega arith, refl, c.new-standing.ensures.k, search rules)

pub loop-number-preserved : goal.loop-number-preserved
unfolding first_rounds
loop-number-preserved c =
    let n = c.loop-number.number in
    let (above, within, meant, k, long) = c.loop-number.invariant in
    let start = meant_of c.new-standing.result in
    let made = c.round-standing.ensures in
    let more : 25 - (n - 1) ≡ suc (25 - n) = omega arith in
    let number : n - 1 ≡ 24 - (25 - n) = omega arith in (
      omega arith,
      omega arith,
      rw more (made.meant ∙ ap (round (n - 1)) meant ∙ ap (λ (r : ℕ). round r (first_rounds (25 - n) start)) number),
      rw more (made.k ∙ ap (next_k (n - 1)) k ∙ ap (λ (r : ℕ). next_k r (k_after (25 - n))) number),
      search rules,
    )

pub returns : goal.returns
unfolding permutation
returns c =
    let (above, within, meant, k, long) = c.loop-number.invariant in
    let all : 25 - c.loop-number.number ≡ 24 = omega arith in
    let rest : c.loop-number.standing.k ≡ 0 = k ∙ ap k_after all in
    record {
      value = sym (at_rest c.loop-number.standing rest long) ∙ meant ∙ ap (λ n. first_rounds n (meant_of c.new-standing.result)) all ∙ ap (first_rounds 24) c.new-standing.ensures.meant;
      k = rest;
    }
