use Rattle.std.proofs.Common.{◌≡◌, suc, sym, ◌∙◌, ⊎_elim, arith}
use Rattle.std.proofs.lemmas.List.{nil_from_length}
use Rattle.engine.specs.Strings.{xored_from}
use Rattle.engine.proofs.XoredStrings.{xored_from-nil, xored_from_past, xored_from-cons}
use Rattle.engine.proofs.strings.xor_string.Goals as goal

pub loop-p-preserved : goal.loop-p-preserved
loop-p-preserved g c =
    let meaning = g.E.Engine.meaning in
    let (end, (more, here, next)) = c.in-Some.ensures.steps.0 in
    let string = c.in-Some.ensures.steps.1 in
    let s = meaning c.loop-p.engine in
    let t = meaning c.xor_byte.new.self in
    let rest = c.next.new.self.b.rest.now in
    let taken = xored_from-cons s t rest c.in-Some.p c.in-Some.b.now c.xor_byte.result (g.met.E.Engine.whole c.loop-p.engine).long c.xor_byte.ensures in
    let after : c.next.new.self.a.start ≡ suc c.in-Some.p = omega (arith, here, next) in
    (end ∙ c.loop-p.invariant.0, rw after (sym taken ∙ rw (here, ← string) c.loop-p.invariant.1))

pub returns : goal.returns
returns g c =
    let s = g.E.Engine.meaning c.loop-p.engine in
    let at = c.loop-p.p-iterator in
    let none : xored_from s at.a.start at.b.rest.now ≡ s =
    ⊎_elim
    (λ e. xored_from_past at.b.rest.now s at.a.start (omega (arith, e.1.1, c.loop-p.invariant.0, (g.met.E.Engine.whole c.loop-p.engine).long)))
    (λ e. rw (nil_from_length at.b.rest.now e.1.0) (xored_from-nil s at.a.start))
    c.in-None.ensures.steps in
    cc (none, c.loop-p.invariant.1)
