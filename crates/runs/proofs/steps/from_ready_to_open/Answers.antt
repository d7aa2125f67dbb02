use Rattle.std.proofs.Common.{◌≡◌, vec_items, refl, ◌∙◌}
use Rattle.std.proofs.lemmas.List.{with_items_is}
use Rattle.std.specs.Vec.{with_items}
use Rattle.cipher.specs.Openings.{Opens}
use Rattle.runs.specs.Stages.{keyed}
use Rattle.runs.proofs.Moves.{at_open, length_or_refusal}
use Rattle.runs.proofs.steps.from_ready_to_open.Goals as goal

pub returns-in-Open : goal.returns-in-Open
returns-in-Open g c =
    let meaning = g.E.Engine.meaning in
    let rule = g.E.Engine.rule in
    let box = vec_items c.in-Open.sealed in
    let before = vec_items c.in-Open.buffer in
    let after = c.open-engine.new.buffer in
    let r = c.open-engine.result.1 in
    let filled : vec_items (with_items c.in-Open.buffer after) ≡ after = with_items_is c.in-Open.buffer after (c.open-engine.auto.buffer ∙ c.as_mut_slice.ensures.len) in
    rw (c.in-Open.is, c.from.ensures) record {
      table = refl;
      sound = λ M h.
          let opens : Opens rule (keyed meaning rule M) box before after r = rw (← c.as_slice.ensures.value, ← c.as_mut_slice.ensures.value) (c.open-engine.ensures.opens (keyed meaning rule M) h) in
          rw filled (at_open meaning rule M box before after r opens);
      holds = λ M h. tt;
      cleared = c.open-engine.ensures.cleared;
      replied = length_or_refusal r;
      asks = refl;
      uses = refl;
    }
