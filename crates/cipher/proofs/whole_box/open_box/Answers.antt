use Rattle.std.proofs.Common.{◌≡◌, ◌≢◌, ℕ, ◌-◌, List, ◌++◌, length, take, drop, replicate, sym, refl, ap, ◌∙◌, inl, inr, arith}
use Rattle.std.proofs.lemmas.List.{length-drop, length-take-le, take-append-drop}
use Rattle.engine.specs.Strings.{Bytes}
use Rattle.sponge.specs.Blocks.{rate}
use Rattle.cipher.proofs.Messages.{bytes_take, opens, is_box, no_box}
use Rattle.cipher.proofs.whole_box.open_box.Goals as goal

-- a string of a text and a tag
joined : (z text end : List ℕ) (n : ℕ) → text ≡ take n z → end ≡ drop n z → z ≡ text ++ end
joined z text end n e f = sym (ap (λ (x : List ℕ). x ++ end) e ∙ ap (λ (x : List ℕ). take n z ++ x) f ∙ take-append-drop n z)

pub returns-in_default-clause-opens : goal.returns-in_default-clause-opens
returns-in_default-clause-opens g c =
    let met = g.met.E.Engine in
    opens g.E.Engine.rule met.keeps _ _ _ _ _ (met.whole c.args.closed.sponge.engine) (λ i. omega (arith, c.type_inv.sealed i))
    (λ s w start. inl (record { number_is = refl; short = c.in_default.ensures.cases; buffer = refl }))

pub returns-then-buffer-text-clause-opens : goal.returns-then-buffer-text-clause-opens
returns-then-buffer-text-clause-opens g c =
    let met = g.met.E.Engine in
    let (front, back, long) = c.in-Some.ensures.cases in
    opens g.E.Engine.rule met.keeps _ _ _ _ _ (met.whole c.args.closed.sponge.engine) (λ i. omega (arith, c.type_inv.sealed i))
    (λ s w start. inr (inl (record { number_is = refl; long = omega arith; short = omega arith; buffer = refl })))

pub returns-then-not-equal-clause-opens : goal.returns-then-not-equal-clause-opens
returns-then-not-equal-clause-opens g c =
    let met = g.met.E.Engine in
    let (front, back, long) = c.in-Some.ensures.cases in
    let sealed = c.args.sealed.now in
    let before = c.args.buffer.now in
    let after = c.decipher.new.buffer in
    let text = c.in-Some.text.now in
    let end = c.in-Some.sealed_tag.now in
    let n = length sealed - rate in
    let bytes : Bytes sealed = λ i. omega (arith, c.type_inv.sealed i) in
    let short : length end ≡ rate = ap length back ∙ length-drop n sealed ∙ omega arith in
    let other : c.end-engine.new.tag ≢ end = λ e. cc (c.if-not-equal.ensures.1 e) in
    let fits : length text ≡ n = omega arith in
    opens g.E.Engine.rule met.keeps _ _ _ _ _ (met.whole c.args.closed.sponge.engine) bytes
    (λ s w start. inr (inr (record {
      number_is = refl;
      long = omega arith;
      room = omega arith;
      none = no_box g.E.Engine.rule met.keeps s w sealed bytes _ _ text end before after _ start (joined sealed text end n front back) c.decipher.ensures c.end-engine.ensures.tag short other;
      buffer = c.wipe.ensures ∙ ap (λ (x : List ℕ). replicate (length text) 0 ++ x) c.decipher.ensures.rest ∙ ap (λ (k : ℕ). replicate k 0 ++ drop k before) fits;
    })))

pub returns-clause-opens : goal.returns-clause-opens
returns-clause-opens g c =
    let met = g.met.E.Engine in
    let (front, back, long) = c.in-Some.ensures.cases in
    let sealed = c.args.sealed.now in
    let before = c.args.buffer.now in
    let after = c.decipher.new.buffer in
    let text = c.in-Some.text.now in
    let end = c.in-Some.sealed_tag.now in
    let m = take (length text) after in
    let bytes : Bytes sealed = λ i. omega (arith, c.type_inv.sealed i) in
    let whole : Bytes m = bytes_take (length text) after (λ i. omega (arith, c.type_inv.buffer i)) in
    let kept : length after ≡ length before = c.decipher.auto.buffer in
    let as_long : length m ≡ length text = length-take-le (length text) after (omega arith) in
    opens g.E.Engine.rule met.keeps _ _ _ _ _ (met.whole c.args.closed.sponge.engine) bytes
    (λ s w start. (
      m,
      record {
        box = is_box g.E.Engine.rule met.keeps s w sealed bytes _ _ text end before after _ start (joined sealed text end (length sealed - rate) front back) c.decipher.ensures c.end-engine.ensures.tag whole (c.if-not-equal.ensures.0 refl);
        answer = sym as_long;
        room = omega arith;
        buffer = sym (take-append-drop (length text) after) ∙ ap (λ (x : List ℕ). m ++ x) c.decipher.ensures.rest ∙ ap (λ (k : ℕ). m ++ drop k before) (sym as_long);
      },
    ))
