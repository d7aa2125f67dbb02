use Rattle.std.proofs.Common.{refl}
use Rattle.gimli.specs.Permutation.{big_swap}
use Rattle.gimli.proofs.rounds.big_swap.Goals as goal

pub returns : goal.returns
unfolding big_swap
returns c = refl
