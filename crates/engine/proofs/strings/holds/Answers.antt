use Rattle.std.proofs.Common.{◌≡◌, ◌≢◌, ℕ, ◌<◌, ◌≤◌, Bool, true, false, eqb, not, List, length, get_or, drop, Ok, Err, Result, sym, ◌∙◌, arith, rules}
use Rattle.std.specs.Result.{result_eq}
use Rattle.std.proofs.lemmas.List.Prefix.{front_fits, front_reads, front_from_reads}
use Rattle.std.proofs.lemmas.Grind.{common_steps}
use borrow.Author.Count.{below_more}
use Rattle.engine.specs.Answers.{Read}
use Rattle.engine.specs.Strings.{width}
use Rattle.engine.specs.declared.refusal.Refusal.{Refusal}
use Rattle.engine.proofs.strings.holds.Goals as goal

same : (s : List ℕ) (place b : ℕ) (eq : Refusal → Refusal → Bool) (r : Result ℕ Refusal) → Read s place r → not (result_eq eqb eq r (Ok b)) ≡ false → (place < width) × (get_or s place 0 ≡ b)
same s place b eq (Ok x) read e = (read.0, grind (arith, common_steps))
same s place b eq (Err x) read e = absurd (cc)

other : (s : List ℕ) (place b : ℕ) (eq : Refusal → Refusal → Bool) (r : Result ℕ Refusal) → Read s place r → not (result_eq eqb eq r (Ok b)) ≡ true → place < length s → length s ≡ width → get_or s place 0 ≢ b
other s place b eq (Ok x) read e inside long = grind (arith, common_steps)
other s place b eq (Err x) read e inside long = absurd (omega (arith, read.0))

pub loop-place-preserved : goal.loop-place-preserved
loop-place-preserved g c =
    let s = g.E.Engine.meaning c.args.engine.now in
    let i = c.loop-place.place in
    let (inside, here) = same s i (get_or c.args.string.now i 0) _ c.byte.result c.byte.ensures (sym c.ne.ensures ∙ c.if-ne.false) in
    (omega (arith, inside), below_more (λ k. get_or s k 0 ≡ get_or c.args.string.now k 0) i c.loop-place.invariant.1 here)

pub returns-then-ne : goal.returns-then-ne
returns-then-ne g c =
    let s = g.E.Engine.meaning c.args.engine.now in
    let m = c.args.string.now in
    let i = c.loop-place.place in
    let long = (g.met.E.Engine.whole c.args.engine.now).long in (
      λ e. absurd (cc),
      λ begins.
          absurd (other s i (get_or m i 0) _ c.byte.result c.byte.ensures (sym c.ne.ensures ∙ c.if-ne.true)
          (omega (arith, front_fits s m begins.0 begins.1)) long (front_reads 0 s m begins.0 begins.1 i c.loop-place-test.true)),
    )

pub returns : goal.returns
returns g c =
    let s = g.E.Engine.meaning c.args.engine.now in
    let m = c.args.string.now in
    let fits : length m ≤ length s = omega (arith, c.loop-place.invariant.0, (g.met.E.Engine.whole c.args.engine.now).long) in
    (λ _. (drop (length m) s, front_from_reads 0 s m fits (λ k h. c.loop-place.invariant.1 k (omega arith))), λ _. search rules)
