use Rattle.std.proofs.Common.{take}
use Rattle.std.specs.Fmt.{IsPlainFormatter, HasWritten}
use Rattle.bench_console.specs.Answers.{lines}
use Rattle.bench_console.proofs.answers.LinesDisplay.fmt.Given as goal

abbrev pub invariant-loop-before : goal.invariant-loop-before
invariant-loop-before g l = IsPlainFormatter l.initial.f → HasWritten g.W.Write.write_str_gives l.initial.f (lines 1 (take l.before l.step-items)) l.f
