use Rattle.std.proofs.Common.{◌≡◌, ℕ, ◌*◌, refl, ap, ◌∙◌, arith}
use Rattle.gimli.specs.Permutation.{columns, small_swap, big_swap, add_constant, round, first_rounds, permutation}
use Rattle.gimli.specs.declared.state.State.{State}
use Rattle.gimli.proofs.Groups.{Groups, turn}
use Rattle.gimli.proofs.rounds.permutation.Goals as goal

-- four rounds from r on, where r is a multiple of 4
abbrev four : ℕ → State → State
four r s = columns (big_swap (columns (columns (add_constant r (small_swap (columns s))))))

groups : (s : State) → Groups four first_rounds s
unfolding first_rounds round
groups s = record { one = refl; two = refl; three = refl; fourth = refl; five = refl; six = refl }

pub loop-number-init : goal.loop-number-init
unfolding first_rounds
loop-number-init c = refl

pub loop-number-preserved : goal.loop-number-preserved
loop-number-preserved c =
    turn four first_rounds c.args.s (groups c.args.s) c.loop-number.number-index c.loop-number.s c.four_rounds-s.result
    c.loop-number-test.true c.loop-number.invariant c.four_rounds-s.ensures

pub returns : goal.returns
unfolding permutation
returns c =
    let all : c.loop-number.number-index ≡ 6 = omega arith in
    c.loop-number.invariant ∙ ap (λ (n : ℕ). first_rounds (4 * n) c.args.s) all
