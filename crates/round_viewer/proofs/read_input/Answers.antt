use Rattle.std.proofs.Common.{take, subst, sym, ◌∙◌, arith}
use Rattle.std.specs.Io.KnownBytes.{Consumes}
use Rattle.std.proofs.KnownBytes.{Consumes-trans}
use Rattle.std.proofs.lemmas.List.{length-take-le}
use Rattle.round_viewer.proofs.Reading.{filled_on, full, ended_at}
use borrow.Rule.Slice.PartMut.{same_len_mid}
use Rattle.round_viewer.proofs.read_input.Goals as goal

pub loop-filled-preserved : goal.loop-filled-preserved
loop-filled-preserved g c =
    let remaining = g.R.Read.remaining in
    let f = c.loop-filled.filled in
    let n = c.in_ok-got.got in (
      omega (arith, c.in_ok-got.ensures.bound),
      same_len_mid f _ c.loop-filled.buffer c.read.new.buf (omega arith) ∙ c.loop-filled.invariant.1,
      subst (Consumes (remaining c.args.input.now) (remaining c.read.new.self)) (sym (filled_on c.loop-filled.buffer c.read.new.buf f _ n (omega arith) (omega (arith, c.in_ok-got.ensures.bound))))
          (Consumes-trans _ _ _ _ _ c.loop-filled.invariant.2 c.in_ok-got.ensures.bytes.0),
    )

pub returns-then-got-eq0-clause-bytes : goal.returns-then-got-eq0-clause-bytes
returns-then-got-eq0-clause-bytes g c =
    let got = c.in_ok-got.ensures in
    let none = c.if-got-eq0.true in
    ended_at _ _ _ c.loop-filled.buffer c.read.new.buf c.loop-filled.filled _ c.in_ok-got.got 101 (omega arith) (omega (arith, got.bound)) none (omega arith) c.loop-filled.invariant.2 got.bytes.0 (got.bytes.1 none (omega arith))

pub returns-after-loop-filled-clause-bytes : goal.returns-after-loop-filled-clause-bytes
returns-after-loop-filled-clause-bytes g c =
    let f = c.loop-filled.filled in
    full _ _ (take f c.loop-filled.buffer) 101 c.loop-filled.invariant.2
    (length-take-le f c.loop-filled.buffer (omega arith) ∙ omega (arith, c.loop-filled.invariant, c.loop-filled-test.false))
