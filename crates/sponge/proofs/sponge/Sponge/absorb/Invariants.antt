use Rattle.std.proofs.Common.{◌≡◌, drop}
use Rattle.sponge.specs.Steps.{standing, absorb_piece}
use Rattle.sponge.proofs.sponge.Sponge.absorb.Given as goal

-- what is left of the piece leads to where the whole piece leads
abbrev pub invariant-loop-b : goal.invariant-loop-b
invariant-loop-b g l =
    let e = g.E.Engine in
    absorb_piece e.rule (standing e.meaning l.self) (drop l.b-index l.piece) ≡ absorb_piece e.rule (standing e.meaning l.initial.self) l.piece
