use Rattle.std.proofs.Common.{◌%◌, arith, ne_eqb}
use Rattle.gimli.specs.Permutation.{round}
use Rattle.gimli.proofs.rounds.round.Goals as goal

pub returns-in-0 : goal.returns-in-0
unfolding round
returns-in-0 c = simp (c.in-0.is, c.add_constant.ensures, c.small_swap.ensures, c.columns-s.ensures)

pub returns-in-2 : goal.returns-in-2
unfolding round
returns-in-2 c = simp (c.in-2.is, c.big_swap.ensures, c.columns-s.ensures)

pub returns-in_default : goal.returns-in_default
unfolding round
returns-in_default c =
    let no_small = ne_eqb (c.args.number % 4) 0 (omega arith) in
    let no_big = ne_eqb (c.args.number % 4) 2 (omega arith) in
    simp (no_small, no_big, c.columns-s.ensures)
