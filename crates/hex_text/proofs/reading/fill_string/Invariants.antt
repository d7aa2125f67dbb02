use Rattle.std.proofs.Common.{◌≡◌, ◌++◌, take}
use Rattle.engine.specs.Strings.{Bytes}
use Rattle.hex_text.specs.Hex.{hex}
use Rattle.hex_text.proofs.reading.fill_string.Given as goal

abbrev pub invariant-loop-b : goal.invariant-loop-b
invariant-loop-b l = Bytes (take l.b-index l.string) × (l.fn.digits ≡ hex (take l.b-index l.string) ++ l.rest)
