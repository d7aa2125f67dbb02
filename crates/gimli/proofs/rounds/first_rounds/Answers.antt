use Rattle.std.proofs.Common.{◌≡◌, ℕ, suc, ◌-◌, min, refl, ap, ◌∙◌, ⊎_elim, arith}
use Rattle.std.proofs.lemmas.Bool.{cases_lt}
use Rattle.gimli.specs.Permutation.{round, first_rounds}
use Rattle.gimli.proofs.rounds.first_rounds.Goals as goal

pub loop-number-init : goal.loop-number-init
unfolding first_rounds
loop-number-init c =
    let left = c.into_iter-number-iterator.result in
    let same = c.into_iter-number-iterator.ensures.into_iter_gives in
    let take = c.take-number-items.ensures in
    let start : left.iter.iter.start ≡ 1 = rw (same, take.source, c.rev.ensures.source) refl in
    let end : left.iter.iter.end ≡ 25 = rw (same, take.source, c.rev.ensures.source) refl in
    let count : left.n ≡ c.args.n = rw (same, take.count) refl in
    (start, omega (arith, end), omega (arith, end), omega (arith, end, count), rw end refl)

pub loop-number-preserved : goal.loop-number-preserved
unfolding first_rounds
loop-number-preserved c =
    let ((start, (some, here, next)), count) = c.in-Some.ensures.steps in
    let (from, above, within, taken, s) = c.loop-number.invariant in
    let before = c.loop-number.number-iterator.iter.iter.end in
    let after = c.next.new.self.iter.iter.end in
    let more : 25 - after ≡ suc (25 - before) = omega (arith, next, within) in
    let number : c.in-Some.number ≡ 24 - (25 - before) = omega (arith, here, next, within) in (
      start ∙ from,
      omega (arith, some, from, next),
      omega (arith, next, within),
      omega (arith, count, next, taken),
      rw more (c.round-s.ensures ∙ ap (round c.in-Some.number) s ∙ ap (λ (r : ℕ). round r (first_rounds (25 - before) c.args.s)) number),
    )

pub returns : goal.returns
returns c =
    let (from, above, within, taken, s) = c.loop-number.invariant in
    let left = c.loop-number.number-iterator in
    let all : 25 - left.iter.iter.end ≡ min c.args.n 24 =
    ⊎_elim
    (λ some. omega (arith, c.in-None.ensures.steps some, from, above, within, taken))
    (λ none. omega (arith, none, above, within, taken))
    (cases_lt 0 left.n) in
    s ∙ ap (λ (n : ℕ). first_rounds n c.args.s) all
