use Rattle.std.proofs.Common.{refl}
use Rattle.cases.proofs.Computed.{published}
use Rattle.cases.proofs.published_answers.Goals as goal

pub returns : goal.returns
returns c = record { table = published; count = refl }
