use Rattle.std.proofs.Common.{◌≡◌, take, drop}
use Rattle.sponge.specs.Steps.{standing, absorb_piece}
use Rattle.cipher.specs.Ciphering.{cipher_piece}
use Rattle.cipher.proofs.closed.Closed.decipher.Given as goal

-- the front of the buffer has the front of the text for its ciphertext, and is taken in
abbrev pub invariant-loop-i : goal.invariant-loop-i
invariant-loop-i g l =
    let e = g.E.Engine in
    let start = standing e.meaning l.initial.self.sponge in
    let front = take l.i l.buffer in
    (take l.i l.text ≡ cipher_piece e.rule start front)
    × (drop l.i l.buffer ≡ drop l.i l.initial.buffer)
    × (standing e.meaning l.self.sponge ≡ absorb_piece e.rule start front)
