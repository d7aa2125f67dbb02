use Rattle.std.proofs.Common.{◌≡◌, drop}
use Rattle.sponge.specs.Steps.{standing, absorb_piece}
use Rattle.digest.proofs.feeding.Feeding.feed_item.Given as goal

-- what is left of the item leads to where the whole item leads
abbrev pub invariant-loop-place : goal.invariant-loop-place
invariant-loop-place g l =
    let e = g.E.Engine in
    let s = g.I.Item.bytes l.item in
    absorb_piece e.rule (standing e.meaning l.self.sponge) (drop l.place s) ≡ absorb_piece e.rule (standing e.meaning l.initial.self.sponge) s
