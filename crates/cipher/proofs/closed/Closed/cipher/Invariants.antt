use Rattle.std.proofs.Common.{◌≡◌, ◌++◌, take, drop}
use Rattle.sponge.specs.Steps.{standing, absorb_piece}
use Rattle.cipher.specs.Ciphering.{cipher_piece}
use Rattle.cipher.proofs.closed.Closed.cipher.Given as goal

-- the front of the piece is ciphered, and taken in
abbrev pub invariant-loop-i : goal.invariant-loop-i
invariant-loop-i g l =
    let e = g.E.Engine in
    let start = standing e.meaning l.initial.self.sponge in
    let front = take l.i l.piece in
    (l.buffer ≡ cipher_piece e.rule start front ++ drop l.i l.initial.buffer)
    × (standing e.meaning l.self.sponge ≡ absorb_piece e.rule start front)
