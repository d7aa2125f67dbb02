use Rattle.std.proofs.Common.{◌≡◌, ℕ, ◌<◌, List, ◌++◌, length, take, drop, ap, ◌∙◌, arith}
use Rattle.std.proofs.lemmas.List.{take_all}
use Rattle.sponge.specs.Steps.{standing, absorb_piece}
use Rattle.cipher.specs.Ciphering.{cipher_piece}
use Rattle.cipher.proofs.Buffers.{ciphered_next, absorbed_next, ciphers}
use Rattle.cipher.proofs.closed.Closed.cipher.Goals as goal

pub loop-i-preserved : goal.loop-i-preserved
loop-i-preserved g c =
    let e = g.E.Engine in
    let i = c.loop-i.i in
    let piece = c.args.piece.now in
    let before = c.args.buffer.now in
    let buffer = c.loop-i.buffer in
    let start = standing e.meaning c.args.self.sponge in
    let here = standing e.meaning c.loop-i.self.sponge in
    let there = standing e.meaning c.cipher_byte.new.self.sponge in
    let within = c.loop-i-test.true in
    let room : i < length before = omega arith in
    let led = c.loop-i.invariant.1 in (
      ciphered_next e.rule start here there piece before buffer i _ within room led c.loop-i.invariant.0 c.cipher_byte.ensures.byte,
      absorbed_next e.rule start here there piece before buffer i 0 within room led c.cipher_byte.ensures.state,
    )

pub returns : goal.returns
returns g c =
    let e = g.E.Engine in
    let piece = c.args.piece.now in
    let before = c.args.buffer.now in
    let start = standing e.meaning c.args.self.sponge in
    let all : take c.loop-i.i piece ≡ piece = take_all c.loop-i.i piece c.loop-i-test.false in
    let end : c.loop-i.i ≡ length piece = omega arith in
    ciphers e.rule g.met.E.Engine.keeps start piece before _ _
    (record { whole = g.met.E.Engine.whole c.args.self.sponge.engine; within = omega arith })
    (λ i. omega (arith, c.type_inv.piece i))
    (
    c.loop-i.invariant.0
    ∙ ap (λ (x : List ℕ). cipher_piece e.rule start x ++ drop c.loop-i.i before) all
    ∙ ap (λ (n : ℕ). cipher_piece e.rule start piece ++ drop n before) end
    )
    (c.loop-i.invariant.1 ∙ ap (absorb_piece e.rule start) all)
