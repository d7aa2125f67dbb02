use Rattle.std.proofs.Common.{◌≡◌, ℕ, ◌<◌, ◌≤◌, get_or}
use Rattle.engine.specs.Strings.{width}
use Rattle.engine.proofs.strings.holds.Given as goal

-- the front of the string is held
abbrev pub invariant-loop-place : goal.invariant-loop-place
invariant-loop-place g l =
    (l.place ≤ width) × ((k : ℕ) → k < l.place → get_or (g.E.Engine.meaning l.engine) k 0 ≡ get_or l.string k 0)
