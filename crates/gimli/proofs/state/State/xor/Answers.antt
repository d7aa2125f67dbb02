use Rattle.std.proofs.Common.{get_or, rules}
use lib.Bits.{bit_xor}
use Rattle.gimli.specs.Shares.{xor_states}
use Rattle.gimli.proofs.state.State.xor.Goals as goal

pub returns : goal.returns
unfolding xor_states
returns c =
    let a = c.args.self in
    let b = c.args.other in
    c.from_columns.ensures
    (λ j. (bit_xor (get_or a.top j 0) (get_or b.top j 0), bit_xor (get_or a.middle j 0) (get_or b.middle j 0), bit_xor (get_or a.bottom j 0) (get_or b.bottom j 0)))
    (λ j r h post. search rules)
