use Rattle.std.proofs.Common.{◌≡◌, Some, ap, ◌∙◌, arith, ◌^◌, ◌-◌, false, []}
use Rattle.std.specs.Option.{option_map}
use Rattle.std.specs.Fmt.{format_spec, padded_integral, styled_digits_output}
use Rattle.std.proofs.lemmas.Fmt.{hex_byte}
use Rattle.hex_text.specs.Hex.{pair}
use Rattle.hex_text.proofs.digits.HexByteDisplay.fmt.Goals as goal

pub returns-clause-writes : goal.returns-clause-writes
returns-clause-writes g c =
    let shown : styled_digits_output c.in_radix.result c.laid_out.result ≡ Some (pair c.args.self.now.0) =
    ap (styled_digits_output c.in_radix.result) c.laid_out.ensures
    ∙ ap (option_map (padded_integral (format_spec 32 0 4 2 (2 ^ 64 - 1)) false [])) c.in_radix.ensures
    ∙ ap Some (hex_byte false _ (omega arith) ∙ ap pair (omega arith)) in
    rw shown at c.write.ensures.writes
