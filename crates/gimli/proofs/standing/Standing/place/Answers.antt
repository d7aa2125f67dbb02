use Rattle.std.proofs.Common.{refl}
use Rattle.gimli.proofs.StandingRow.{stays_below}
use Rattle.gimli.proofs.standing.Standing.place.Goals as goal

pub returns : goal.returns
returns c = record { value = refl; within = stays_below c.args.j c.args.self.k c.requires c.args.self.below }
