use Rattle.runs.proofs.Progress.{at_start, all_ran}
use Rattle.runs.proofs.Onward.{come_further, come_halted}
use Rattle.runs.proofs.run.run_calls.Goals as goal

pub loop-at-init : goal.loop-at-init
loop-at-init g c = at_start _ _ _ _ _ _

pub loop-at-preserved : goal.loop-at-preserved
loop-at-preserved g c = come_further c.loop-at.invariant c.loop-at-test.true _ c.in-Ok.ensures

pub returns-in-Err : goal.returns-in-Err
returns-in-Err g c = come_halted c.loop-at.invariant c.loop-at-test.true c.in-Err.field-0 c.in-Err.ensures

pub returns : goal.returns
returns g c = all_ran c.loop-at.invariant c.loop-at.auto.at-end c.loop-at-test.false
