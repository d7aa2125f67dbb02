use Rattle.gimli.specs.Shares.{shared_constant}
use Rattle.gimli.proofs.shares.constant.Goals as goal

pub returns : goal.returns
unfolding shared_constant
returns c = simp c.add_constant.ensures
