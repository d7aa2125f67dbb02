use Rattle.std.proofs.Common.{◌≡◌, ℕ, ◌*◌, refl, ap, ◌∙◌, arith}
use Rattle.gimli.specs.Shares.{Sharing, shared_columns, shared_small_swap, shared_big_swap, shared_constant, shared_round, first_shared_rounds, shared_permutation, joined}
use Rattle.gimli.proofs.Groups.{Groups, turn}
use Rattle.gimli.proofs.Sharing.{three_shares_make_one_permutation}
use Rattle.gimli.proofs.shares.Shares.permutation.Goals as goal

-- four rounds from r on, where r is a multiple of 4
abbrev four : ℕ → Sharing → Sharing
four r s = shared_columns (shared_big_swap (shared_columns (shared_columns (shared_constant r (shared_small_swap (shared_columns s))))))

groups : (s : Sharing) → Groups four first_shared_rounds s
unfolding first_shared_rounds shared_round
groups s = record { one = refl; two = refl; three = refl; fourth = refl; five = refl; six = refl }

pub loop-number-init : goal.loop-number-init
unfolding first_shared_rounds
loop-number-init c = refl

pub loop-number-preserved : goal.loop-number-preserved
loop-number-preserved c =
    let s = c.args.self.share in
    turn four first_shared_rounds s (groups s) c.loop-number.number-index c.loop-number.s.share c.four_rounds-s.result.share
    c.loop-number-test.true c.loop-number.invariant c.four_rounds-s.ensures

pub returns : goal.returns
unfolding shared_permutation
returns c =
    let all : c.loop-number.number-index ≡ 6 = omega arith in
    let each : c.loop-number.s.share ≡ shared_permutation c.args.self.share =
    c.loop-number.invariant ∙ ap (λ (n : ℕ). first_shared_rounds (4 * n) c.args.self.share) all in
    record { each = each; joined = ap joined each ∙ three_shares_make_one_permutation c.args.self.share }
