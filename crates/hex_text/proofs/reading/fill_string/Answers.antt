use Rattle.std.proofs.Common.{◌≡◌, ℕ, Bool, List, [], ◌∷◌, ◌++◌, length, get_or, take, Option, ◌==◌, false, sym, ap, ◌∙◌, arith}
use Rattle.std.specs.Bool.{then_some}
use Rattle.std.proofs.lemmas.Bool.Decides.{nat_tests}
use Rattle.std.proofs.lemmas.List.{length-append, length-take-le, take_all, append-nil}
use Rattle.engine.specs.Strings.{Bytes}
use Rattle.hex_text.specs.Hex.{hex}
use Rattle.hex_text.specs.Readers.{ReadsInto}
use Rattle.hex_text.proofs.Hex.{hex_long, hex_next}
use Rattle.hex_text.proofs.reading.fill_string.Goals as goal

pub returns-in_default : goal.returns-in_default
returns-in_default c = λ x whole is.
    let before = take c.loop-b.b-index c.loop-b.string in
    omega (arith, hex_long before, hex_long x, length-append (hex before) c.loop-b.rest.now, length-take-le c.loop-b.b-index c.loop-b.string (omega arith), ap length (sym is ∙ c.loop-b.invariant.1), whole.long)

pub returns-in_err-b : goal.returns-in_err-b
returns-in_err-b c =
    let before = take c.loop-b.b-index c.loop-b.string in
    let long = length-take-le c.loop-b.b-index c.loop-b.string (omega arith) in
    rw c.from_residual.ensures
    (λ x whole is. c.in_err-b.ensures (get_or x (length before) 0) (whole.bytes (length before))
    (hex_next before x c.loop-b.rest.now (sym is ∙ c.loop-b.invariant.1) (omega (arith, whole.long, long))))

left : (digits s rest : List ℕ) (n : ℕ) (o : Option Unit) → digits ≡ hex s ++ rest → length s ≡ n → Bytes s → o ≡ then_some (length rest == 0) tt → ReadsInto hex n digits o s
left digits s [] n o is long bytes e = rw e (record { long = long; bytes = bytes }, is ∙ append-nil (hex s))
left digits s (b ∷ rest) n o is long bytes e =
    let none : (length (b ∷ rest) == 0) ≡ false = grind (arith, nat_tests) in
    rw (e, none)
    (λ x whole same. omega (arith, hex_long s, hex_long x, length-append (hex s) (b ∷ rest), ap length (sym same ∙ is), whole.long, long))

pub returns : goal.returns
returns c =
    let s = c.loop-b.string in
    let all : take c.loop-b.b-index s ≡ s = take_all c.loop-b.b-index s (omega arith) in
    left c.args.digits.now s c.loop-b.rest.now (length c.args.string.now) c.then_some.result (rw all at c.loop-b.invariant.1) (omega arith) (rw all at c.loop-b.invariant.0)
    (c.then_some.ensures ∙ ap (λ (b : Bool). then_some b tt) c.is_empty.ensures)
