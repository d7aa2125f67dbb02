use Rattle.std.proofs.Common.{◌≡◌, length, refl, rules}
use Rattle.gimli.proofs.StandingRow.{at_rest}
use Rattle.gimli.proofs.standing.Standing.new.Goals as goal

pub returns : goal.returns
returns c =
    let long : length c.args.stored.top ≡ 4 = search rules in
    record { meant = at_rest _ refl long; k = refl }
