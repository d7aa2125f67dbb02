use Rattle.std.proofs.Common.{◌∙◌, arith}
use Rattle.sponge.proofs.Absorbing.{next_byte, no_byte}
use Rattle.digest.proofs.feeding.Feeding.feed_item.Goals as goal

pub loop-place-preserved : goal.loop-place-preserved
loop-place-preserved g c =
    let read = rw c.unwrap.ensures at c.byte.ensures in
    next_byte g.E.Engine.rule (g.I.Item.bytes c.args.item.now) c.loop-place.place _ _ _ read.0 read.1 c.absorb_byte.ensures.state ∙ c.loop-place.invariant

pub returns : goal.returns
returns g c =
    no_byte g.E.Engine.rule (g.I.Item.bytes c.args.item.now) c.loop-place.place _ (omega arith) ∙ c.loop-place.invariant
