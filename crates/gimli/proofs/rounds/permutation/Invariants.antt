use Rattle.std.proofs.Common.{◌≡◌, ◌*◌}
use Rattle.gimli.specs.Permutation.{first_rounds}
use Rattle.gimli.proofs.rounds.permutation.Given as goal

abbrev pub invariant-loop-number : goal.invariant-loop-number
invariant-loop-number l = l.s ≡ first_rounds (4 * l.number-index) l.initial.s
