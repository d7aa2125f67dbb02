use Rattle.runs.proofs.Progress.{Come}
use Rattle.runs.proofs.run.run_calls.Given as goal

abbrev pub invariant-loop-at : goal.invariant-loop-at
invariant-loop-at g l = Come g.E.Engine.meaning g.E.Engine.rule g.L.ItemList.string l.fn.book l.fn.engine l.fn.script l.script l.at l.stage l.book
