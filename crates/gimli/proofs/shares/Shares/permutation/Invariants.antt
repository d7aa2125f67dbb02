use Rattle.std.proofs.Common.{◌≡◌, ◌*◌}
use Rattle.gimli.specs.Shares.{first_shared_rounds}
use Rattle.gimli.proofs.shares.Shares.permutation.Given as goal

abbrev pub invariant-loop-number : goal.invariant-loop-number
invariant-loop-number l = l.s.share ≡ first_shared_rounds (4 * l.number-index) l.initial.s.share
