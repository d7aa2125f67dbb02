use Rattle.std.proofs.Common.{◌≡◌, ◌-◌, ◌++◌, length, take}
use Rattle.sponge.specs.Steps.{standing, squeeze_bytes, squeeze_state}
use Rattle.sponge.proofs.sponge.Sponge.squeeze.Given as goal

-- the bytes so far, and those to come, are all; what is left leads to where all lead
abbrev pub invariant-loop-b : goal.invariant-loop-b
invariant-loop-b g l =
    let e = g.E.Engine in
    let n = length l.initial.out in
    let start = standing e.meaning l.initial.self in
    let here = standing e.meaning l.self in
    (take l.b-index l.out ++ squeeze_bytes e.rule (n - l.b-index) here ≡ squeeze_bytes e.rule n start)
    × (squeeze_state e.rule (n - l.b-index) here ≡ squeeze_state e.rule n start)
