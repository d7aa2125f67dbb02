use Rattle.std.proofs.Common.{rules}
use Rattle.gimli.specs.Permutation.{column}
use Rattle.gimli.specs.Shares.{share_sp_box, share_columns}
use Rattle.gimli.proofs.shares.share_columns.Goals as goal

pub returns : goal.returns
unfolding share_columns
returns c = c.from_columns.ensures (λ j. share_sp_box (column c.args.a j) (column c.args.b j)) (λ j r h post. search rules)
