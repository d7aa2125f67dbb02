use Rattle.std.proofs.Common.{◌≡◌, ℕ, ◌+◌, ◌<◌, List, ◌++◌, length, get_or, drop, sym, ap, ◌∙◌}
use Rattle.std.specs.List.{flat_map}
use Rattle.std.proofs.lemmas.List.{at_drop_more, at_drop_all}
use Rattle.sponge.specs.Steps.{State, standing, absorb_piece}
use Rattle.sponge.proofs.Absorbing.{absorbs, absorb_piece_append}
use Rattle.digest.specs.Told.{told}
use Rattle.digest.proofs.feeding.Feeding.feed_list.Goals as goal

-- one item more taken in
next_item : {I : Type 0} (rule : List ℕ → List ℕ) (bytes : I → List ℕ) (items : List I) (i : ℕ) (x : I) (p q : State) → i < length items → x ≡ get_or items i x → q ≡ absorb_piece rule p (bytes x) → absorb_piece rule q (flat_map bytes (drop (i + 1) items)) ≡ absorb_piece rule p (flat_map bytes (drop i items))
next_item {I = I} rule bytes items i x p q within read taken =
    let rest = flat_map bytes (drop (i + 1) items) in
    ap (λ (s : State). absorb_piece rule s rest) taken
    ∙ sym (absorb_piece_append rule p (bytes x) rest)
    ∙ ap (λ (y : I). absorb_piece rule p (bytes y ++ rest)) read
    ∙ sym (at_drop_more (λ (xs : List I). absorb_piece rule p (flat_map bytes xs)) items i x within)

pub loop-item-preserved : goal.loop-item-preserved
loop-item-preserved g c =
    next_item g.E.Engine.rule g.I.Item.bytes c.args.items.now c.loop-item.item-index _ _ _ c.loop-item-test.true c.item-item.is c.feed_item.ensures
    ∙ c.loop-item.invariant

pub returns-clause-fed : goal.returns-clause-fed
returns-clause-fed g c m fed =
    let e = g.E.Engine in
    let bytes = g.I.Item.bytes in
    let items = c.args.items.now in
    let here = standing e.meaning c.loop-item.self.sponge in
    let none = at_drop_all (λ (xs : List g.row.I.Denot). absorb_piece e.rule here (flat_map bytes xs)) items c.loop-item.item-index c.loop-item-test.false in
    (absorbs e.rule _ _ _ (sym none ∙ c.loop-item.invariant)).piecewise _ m fed

pub returns-clause-told : goal.returns-clause-told
returns-clause-told g c = told g.I.Item.bytes g.met.I.Item.nonempty g.met.I.Item.prefix_free c.args.items.now
