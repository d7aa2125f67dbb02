use Rattle.std.proofs.Common.{refl}
use Rattle.gimli.specs.Permutation.{small_swap}
use Rattle.gimli.specs.Standing.{meant}
use Rattle.gimli.proofs.StandingRow.{small_swapped}
use Rattle.gimli.specs.StringsLemmas.{same_state}
use Rattle.gimli.proofs.standing.Standing.small_swap.Goals as goal

pub returns : goal.returns
unfolding meant small_swap
returns c = record { meant = same_state (small_swapped c.args.self.k c.args.self.stored.top c.args.self.below) refl refl; k = refl }
