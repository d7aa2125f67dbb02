use Rattle.std.proofs.Common.{◌≡◌, ◌+◌, ◌-◌, ◌≤◌}
use Rattle.gimli.specs.Permutation.{first_rounds}
use Rattle.gimli.proofs.rounds.first_rounds.Given as goal

-- the numbers from 24 down to the range's end have come
abbrev pub invariant-loop-number : goal.invariant-loop-number
invariant-loop-number l =
    let left = l.number-iterator in
    let numbers = left.iter.iter in
    (numbers.start ≡ 1) × (1 ≤ numbers.end) × (numbers.end ≤ 25) × (left.n + 25 ≡ l.n + numbers.end) × (l.s ≡ first_rounds (25 - numbers.end) l.initial.s)
