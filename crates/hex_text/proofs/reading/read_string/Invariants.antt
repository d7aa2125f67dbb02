use Rattle.std.proofs.Common.{◌≡◌, ◌+◌, ◌*◌, ◌++◌, length, vec_items, vec_len}
use Rattle.engine.specs.Strings.{Bytes}
use Rattle.hex_text.specs.Hex.{hex}
use Rattle.hex_text.proofs.reading.read_string.Given as goal

-- the digits are those of the string so far, and what is left
abbrev pub invariant-loop-rest : goal.invariant-loop-rest
invariant-loop-rest l =
    Bytes (vec_items l.string) × (l.digits ≡ hex (vec_items l.string) ++ l.rest) × (2 * vec_len l.string + length l.rest ≡ length l.digits)

abbrev pub decreases-loop-rest : goal.decreases-loop-rest
decreases-loop-rest l = length l.rest
