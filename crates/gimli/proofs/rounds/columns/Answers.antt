use Rattle.std.proofs.Common.{rules}
use Rattle.gimli.specs.Permutation.{column, sp_box, columns}
use Rattle.gimli.proofs.rounds.columns.Goals as goal

pub returns : goal.returns
unfolding columns
returns c = c.from_columns.ensures (λ j. sp_box (column c.args.s j)) (λ j r h post. search rules)
