use Rattle.std.proofs.Common.{◌≡◌, vec_items, length, sym, ◌∙◌, subst, arith}
use Rattle.std.proofs.lemmas.List.{take-append-le, take_all}
use Rattle.runs.specs.Runs.{Outcome}
use Rattle.bench_console.specs.Consoles.{list_string}
use Rattle.bench_console.proofs.Reach.{ran-le-length}
use Rattle.bench_console.proofs.console.run_on.Goals as goal

pub invariant_of-result : goal.invariant_of-result
invariant_of-result g c = record { within = omega (arith, ran-le-length _ c.run-ran.ensures.outcome, c.as_mut_slice.ensures.len) }

pub returns : goal.returns
returns g c =
    let slice = c.as_mut_slice.ensures in
    let after = c.run-ran.new.script in
    let left = c.run-ran.new.book in
    let long : length after ≡ c.args.steps.len = c.run-ran.auto.script ∙ slice.len in
    let ran : Outcome g.E.Engine.rule list_string c.args.book (vec_items c.args.steps) c.run-ran.result.ran left after =
    subst (λ xs. Outcome g.E.Engine.rule list_string c.args.book xs c.run-ran.result.ran left after) slice.value c.run-ran.ensures.outcome in
    (left, subst (Outcome g.E.Engine.rule list_string c.args.book (vec_items c.args.steps) c.run-ran.result.ran left) (sym (take-append-le c.args.steps.len after _ (omega arith) ∙ take_all c.args.steps.len after (omega arith))) ran)
