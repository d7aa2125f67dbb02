use Rattle.std.proofs.Common.{refl, ◌∙◌}
use Rattle.sponge.proofs.Absorbing.{next_byte, no_byte, absorbs}
use Rattle.sponge.proofs.sponge.Sponge.absorb.Goals as goal

pub loop-b-preserved : goal.loop-b-preserved
loop-b-preserved g c =
    next_byte g.E.Engine.rule c.args.piece.now c.loop-b.b-index _ _ _ c.loop-b-test.true refl c.absorb_byte.ensures.state ∙ c.loop-b.invariant

pub returns : goal.returns
returns g c =
    let rule = g.E.Engine.rule in
    absorbs rule _ _ _ (no_byte rule c.args.piece.now c.loop-b.b-index _ c.loop-b-test.false ∙ c.loop-b.invariant)
