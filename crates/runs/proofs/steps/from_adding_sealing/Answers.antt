use Rattle.std.proofs.Common.{rules}
use Rattle.runs.proofs.Moves.{after_close}
use Rattle.runs.proofs.steps.from_adding_sealing.Goals as goal

pub returns-in-Close : goal.returns-in-Close
returns-in-Close g c = let closes = after_close g.E.Engine.meaning g.E.Engine.rule in rw c.in-Close.is (search (rules, closes))
