use Rattle.std.proofs.Common.{◌≡◌}
use Rattle.engine.specs.Strings.{width, xored_from}
use Rattle.engine.proofs.strings.xor_string.Given as goal

-- what is left of the string still goes in, from where the loop stands
abbrev pub invariant-loop-p : goal.invariant-loop-p
invariant-loop-p g l =
    let meaning = g.E.Engine.meaning in
    let at = l.p-iterator in
    (at.a.end ≡ width) × (xored_from (meaning l.engine) at.a.start at.b.rest.now ≡ xored_from (meaning l.initial.engine) l.place l.string)
