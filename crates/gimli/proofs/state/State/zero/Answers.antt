use Rattle.std.proofs.Common.{refl}
use Rattle.gimli.specs.Strings.{string}
use Rattle.gimli.proofs.state.State.zero.Goals as goal

pub returns : goal.returns
unfolding string
returns c = refl
