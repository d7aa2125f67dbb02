use Rattle.std.proofs.Common.{◌≡◌, length, ap, subst, arith}
use Rattle.engine.specs.Strings.{Whole}
use Rattle.sponge.specs.Blocks.{rate}
use Rattle.sponge.specs.Steps.{State, at, standing, padded}
use Rattle.cipher.proofs.Tags.{first_block, tags}
use Rattle.cipher.proofs.closed.Closed.end.Goals as goal

pub returns-clause-tag : goal.returns-clause-tag
returns-clause-tag g c =
    let e = g.E.Engine in
    let p = standing e.meaning c.args.self.sponge in
    let s = (padded e.rule p).string in
    let out = c.squeeze.new.out in
    let ended : standing e.meaning c.pad.result ≡ at s 0 = c.pad.ensures.bytewise in
    let whole : Whole s = subst Whole (ap (λ (q : State). q.string) ended) (g.met.E.Engine.whole c.pad.result.engine) in
    let long : length out ≡ rate = omega arith in
    tags e.rule p out (first_block e.rule s out whole long (c.squeeze.ensures.first s whole ended))
