use Rattle.gimli.proofs.shares.four_rounds.Goals as goal

pub returns : goal.returns
returns c = simp (c.columns-4.ensures, c.big_swaps-s.ensures, c.columns-3.ensures, c.columns-2.ensures, c.constant-s.ensures, c.small_swaps.ensures, c.columns.ensures)
