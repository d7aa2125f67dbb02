use Rattle.std.proofs.Common.{rules}
use Rattle.gimli.specs.Permutation.{small_swap}
use Rattle.gimli.specs.Shares.{shared_small_swap}
use Rattle.gimli.proofs.SharedStrings.{shares_mapped}
use Rattle.gimli.proofs.shares.small_swaps.Goals as goal

pub returns : goal.returns
unfolding shared_small_swap
returns c = shares_mapped _ _ c.args.s.share c.map.result small_swap c.map.ensures.items (λ p q x y k. search rules)
