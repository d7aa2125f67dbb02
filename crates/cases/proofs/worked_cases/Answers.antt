use Rattle.std.proofs.Common.{refl}
use Rattle.cases.proofs.Computed.{table, share_terms}
use Rattle.cases.proofs.worked_cases.Goals as goal

pub returns : goal.returns
returns c = record { table = table; share_terms = share_terms; count = refl }
