use Rattle.std.proofs.Common.{◌≡◌, ℕ, ◌<◌, length, take, drop, sym, ap, ◌∙◌, arith}
use Rattle.std.proofs.lemmas.List.{take_all}
use Rattle.sponge.specs.Steps.{standing, absorb_piece}
use Rattle.cipher.specs.Ciphering.{cipher_piece}
use Rattle.cipher.proofs.Buffers.{deciphered_next, rest_next, taken_next}
use Rattle.cipher.proofs.closed.Closed.decipher.Goals as goal

pub loop-i-preserved : goal.loop-i-preserved
loop-i-preserved g c =
    let e = g.E.Engine in
    let i = c.loop-i.i in
    let text = c.args.text.now in
    let before = c.args.buffer.now in
    let buffer = c.loop-i.buffer in
    let b = c.decipher_byte.result in
    let start = standing e.meaning c.args.self.sponge in
    let here = standing e.meaning c.loop-i.self.sponge in
    let there = standing e.meaning c.decipher_byte.new.self.sponge in
    let room : i < length buffer = omega arith in
    let within = c.loop-i-test.true in
    let led = c.loop-i.invariant.2 in (
      deciphered_next e.rule start here there text before buffer i b within room led c.loop-i.invariant.0 c.decipher_byte.ensures.byte,
      rest_next e.rule start here there text before buffer i b within room led c.loop-i.invariant.1,
      taken_next e.rule start here there text before buffer i b within room led c.decipher_byte.ensures.state,
    )

pub returns : goal.returns
returns g c =
    let e = g.E.Engine in
    let text = c.args.text.now in
    let buffer = c.loop-i.buffer in
    let start = standing e.meaning c.args.self.sponge in
    let end : c.loop-i.i ≡ length text = omega arith in
    let all : text ≡ take c.loop-i.i text = sym (take_all c.loop-i.i text c.loop-i-test.false) in
    record {
      piece = all ∙ c.loop-i.invariant.0 ∙ ap (λ (n : ℕ). cipher_piece e.rule start (take n buffer)) end;
      rest = ap (λ (n : ℕ). drop n buffer) (sym end) ∙ c.loop-i.invariant.1 ∙ ap (λ (n : ℕ). drop n c.args.buffer.now) end;
      state = c.loop-i.invariant.2 ∙ ap (λ (n : ℕ). absorb_piece e.rule start (take n buffer)) end;
    }
