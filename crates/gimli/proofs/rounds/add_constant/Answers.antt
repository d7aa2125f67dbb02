use Rattle.std.proofs.Common.{refl}
use Rattle.gimli.specs.Permutation.{add_constant}
use Rattle.gimli.proofs.rounds.add_constant.Goals as goal

pub returns : goal.returns
unfolding add_constant
returns c = refl
