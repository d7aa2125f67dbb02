use Rattle.std.proofs.Common.{refl, arith}
use Rattle.std.proofs.Output.{has_written_append, has_written_of_eq}
use Rattle.bench_console.proofs.Lines.{lines_at}
use Rattle.bench_console.proofs.answers.LinesDisplay.fmt.Goals as goal

pub loop-before-preserved : goal.loop-before-preserved
loop-before-preserved g c =
    λ plain. let before = c.loop-before.invariant plain in
    has_written_of_eq _ _ _ _ _ (lines_at c.args.self.now.0.now c.loop-before.before _ (omega arith) c.step-item.is)
    (has_written_append _ _ _ _ _ _ before (c.in_ok-write.ensures.writes before.plain refl))
