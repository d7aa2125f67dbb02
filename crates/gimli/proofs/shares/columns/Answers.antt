use Rattle.gimli.specs.Shares.{shared_columns}
use Rattle.gimli.proofs.shares.columns.Goals as goal

pub returns : goal.returns
unfolding shared_columns
returns c = simp (c.share_columns.ensures, c.share_columns-2.ensures, c.share_columns-3.ensures)
