use Rattle.std.proofs.Common.{rules, ◌≡◌}
use Rattle.sponge.specs.Steps.{standing, at, padded}
use Rattle.sponge.proofs.Absorbing.{pads}
use Rattle.sponge.proofs.sponge.Sponge.pad.Goals as goal

pub returns : goal.returns
returns g c =
    let e = g.E.Engine in
    let ended : at (e.meaning c.permute.new.self) 0 ≡ padded e.rule (standing e.meaning c.args.self) = search rules in
    pads e.rule _ _ ended
