use Rattle.std.proofs.Common.{◌+◌, ◌*◌, arith, rules}
use Rattle.gimli.specs.Strings.{word_at, state}
use Rattle.gimli.proofs.state.State.from_bytes.Goals as goal

pub returns : goal.returns
unfolding state
returns c =
    let m = c.args.string.now in
    (omega arith, c.from_columns.ensures (λ j. (word_at m (4 * j), word_at m (16 + 4 * j), word_at m (32 + 4 * j))) (λ j r h post. search rules))
