use Rattle.std.proofs.Common.{◌≡◌, drop}
use Rattle.std.specs.List.{flat_map}
use Rattle.sponge.specs.Steps.{standing, absorb_piece}
use Rattle.digest.proofs.feeding.Feeding.feed_list.Given as goal

-- what is left of the list leads to where the whole list leads
abbrev pub invariant-loop-item : goal.invariant-loop-item
invariant-loop-item g l =
    let e = g.E.Engine in
    let strings = flat_map g.I.Item.bytes in
    absorb_piece e.rule (standing e.meaning l.self.sponge) (strings (drop l.item-index l.items))
    ≡ absorb_piece e.rule (standing e.meaning l.initial.self.sponge) (strings l.items)
