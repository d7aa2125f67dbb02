use Rattle.std.proofs.Common.{ℕ, ◌*◌, List, ◌≡◌, [], ◌∷◌, ◌++◌, length, get_or, vec_items, sym, ap, ap₂, ◌∙◌, arith}
use Rattle.std.proofs.lemmas.List.{length-append, append-nil, nil_from_length}
use Rattle.hex_text.specs.Hex.{pair, hex}
use Rattle.hex_text.proofs.Hex.{hex_long, hex_next, first_left, two_first, pair_taken, bytes_further}
use Rattle.hex_text.proofs.reading.read_string.Goals as goal

pub returns-then-digits-ne0 : goal.returns-then-digits-ne0
returns-then-digits-ne0 c = λ x bytes is. omega (arith, ap length is ∙ hex_long x)

pub returns-in_default-hex_byte : goal.returns-in_default-hex_byte
returns-in_default-hex_byte c =
    let s = vec_items c.loop-rest.string in
    let rest = c.loop-rest.rest.now in
    let is = c.loop-rest.invariant.1 in
    let first : get_or c.args.digits.now (2 * length s) 0 ≡ get_or rest 0 0 = first_left c.args.digits.now s rest is in
    λ x bytes same. c.in_default-hex_byte.ensures (get_or x (length s) 0) (bytes (length s))
    (ap₂ (λ (high low : ℕ). high ∷ low ∷ []) (grind (arith, first)) (grind arith)
    ∙ hex_next s x rest (sym same ∙ is) (omega (arith, hex_long s, hex_long x, length-append (hex s) rest, ap length (sym same ∙ is), c.in-len2-up.len_at_least)))

pub returns : goal.returns
returns c =
    let s = vec_items c.loop-rest.string in
    let rest = c.loop-rest.rest.now in
    let none : rest ≡ [] =
    nil_from_length rest (omega (arith, hex_long s, length-append (hex s) rest, ap length c.loop-rest.invariant.1, c.in_default.len_below)) in
    (c.loop-rest.invariant.0, c.loop-rest.invariant.1 ∙ ap (λ (l : List ℕ). hex s ++ l) none ∙ append-nil (hex s))

pub loop-rest-preserved : goal.loop-rest-preserved
loop-rest-preserved c =
    let s = vec_items c.loop-rest.string in
    let rest = c.loop-rest.rest.now in
    let b = c.in-Some.b in
    let is = c.loop-rest.invariant.1 in
    let first : get_or c.args.digits.now (2 * length s) 0 ≡ get_or rest 0 0 = first_left c.args.digits.now s rest is in
    let read : get_or rest 0 0 ∷ get_or rest 1 0 ∷ [] ≡ pair b =
    ap₂ (λ (high low : ℕ). high ∷ low ∷ []) (grind (arith, first)) (grind arith) ∙ c.in-Some.ensures.1 in
    let two = two_first rest c.in-len2-up.len_at_least in
    rw c.in_ok-push.ensures.items
    (bytes_further s b c.loop-rest.invariant.0 c.in-Some.ensures.0, pair_taken c.args.digits.now s rest _ b _ _ is two read, omega (arith, c.in_ok-push.ensures.len, ap length two, c.loop-rest.invariant.2))
