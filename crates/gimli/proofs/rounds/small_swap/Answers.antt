use Rattle.std.proofs.Common.{refl}
use Rattle.gimli.specs.Permutation.{small_swap}
use Rattle.gimli.proofs.rounds.small_swap.Goals as goal

pub returns : goal.returns
unfolding small_swap
returns c = refl
