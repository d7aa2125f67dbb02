use Rattle.std.proofs.Common.{◌≡◌, ◌-◌, ◌≤◌, length}
use Rattle.gimli.specs.Permutation.{first_rounds}
use Rattle.gimli.specs.Standing.{meant, k_after}
use Rattle.gimli.proofs.standing.standing_permutation.Given as goal

-- the rounds down to this number are done
abbrev pub invariant-loop-number : goal.invariant-loop-number
invariant-loop-number l =
    (1 ≤ l.number) × (l.number ≤ 25)
    × (meant l.standing ≡ first_rounds (25 - l.number) (meant l.initial.standing)) × (l.standing.k ≡ k_after (25 - l.number)) × (length l.standing.stored.top ≡ 4)
