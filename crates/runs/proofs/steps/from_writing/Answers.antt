use Rattle.std.proofs.Common.{◌≡◌, vec_items, refl, ◌∙◌, rules}
use Rattle.std.proofs.lemmas.List.{with_items_is}
use Rattle.std.specs.Vec.{with_items}
use Rattle.cipher.specs.Sealings.{Wrote}
use Rattle.runs.proofs.Moves.{at_write, after_write, at_finish, length_or_refusal}
use Rattle.runs.proofs.steps.from_writing.Goals as goal

pub returns-in-Write : goal.returns-in-Write
returns-in-Write g c =
    let meaning = g.E.Engine.meaning in
    let rule = g.E.Engine.rule in
    let s = c.args.sealing in
    let t = c.write-sealing.result.0 in
    let r = c.write-sealing.result.1 in
    let piece = vec_items c.in-Write.piece in
    let before = vec_items c.in-Write.buffer in
    let after = c.write-sealing.new.buffer in
    let filled : vec_items (with_items c.in-Write.buffer after) ≡ after = with_items_is c.in-Write.buffer after (c.write-sealing.auto.buffer ∙ c.as_mut_slice.ensures.len) in
    let wrote : Wrote meaning rule s piece before t r after = rw (← c.as_slice.ensures.value, ← c.as_mut_slice.ensures.value) c.write-sealing.ensures in
    rw (c.in-Write.is, c.from.ensures) record {
      table = refl;
      sound = λ M h. rw filled (at_write meaning rule M s t piece before after r wrote);
      holds = λ M h. rw filled (after_write meaning rule M s t piece before after r h wrote);
      cleared = tt;
      replied = length_or_refusal r;
      asks = refl;
      uses = refl;
    }

pub returns-in-Finish : goal.returns-in-Finish
returns-in-Finish g c = let finishes = at_finish g.E.Engine.meaning g.E.Engine.rule in rw c.in-Finish.is (search (rules, finishes))
