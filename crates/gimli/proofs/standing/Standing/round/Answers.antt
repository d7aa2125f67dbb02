use Rattle.std.proofs.Common.{◌%◌, ap, ◌∙◌, arith, ne_eqb}
use lib.Bits.{bit_xor}
use Rattle.gimli.specs.Permutation.{small_swap, big_swap, add_constant, round}
use Rattle.gimli.proofs.standing.Standing.round.Goals as goal

pub returns-in-0 : goal.returns-in-0
unfolding round
returns-in-0 c = record {
  meant = simp c.in-0.is (c.add_constant.ensures.meant ∙ ap (add_constant c.args.number) (c.small_swap.ensures.meant ∙ ap small_swap c.columns-s.ensures.meant));
  k = simp c.in-0.is (c.add_constant.ensures.k ∙ c.small_swap.ensures.k ∙ ap (λ k. bit_xor k 1) c.columns-s.ensures.k);
}

pub returns-in-2 : goal.returns-in-2
unfolding round
returns-in-2 c = record {
  meant = simp c.in-2.is (c.big_swap.ensures.meant ∙ ap big_swap c.columns-s.ensures.meant);
  k = simp c.in-2.is (c.big_swap.ensures.k ∙ ap (λ k. bit_xor k 2) c.columns-s.ensures.k);
}

pub returns-in_default : goal.returns-in_default
unfolding round
returns-in_default c =
    let no_small = ne_eqb (c.args.number % 4) 0 (omega arith) in
    let no_big = ne_eqb (c.args.number % 4) 2 (omega arith) in
    record { meant = simp (no_small, no_big) c.columns-s.ensures.meant; k = simp (no_small, no_big) c.columns-s.ensures.k }
