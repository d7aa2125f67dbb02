use Rattle.std.proofs.Common.{◌≡◌, ℕ, length, sym, ap, ◌∙◌, ⊎_elim, arith, eq-eqb, eqb-true}
use lib.Bits.{bit_or, bit_xor, xor_self}
use Rattle.std.proofs.lemmas.List.{nil_from_length}
use Rattle.cipher.proofs.Xor.{xor_none, or_none}
use Rattle.cipher.proofs.whole_box.equal.Goals as goal

pub loop-x-preserved : goal.loop-x-preserved
loop-x-preserved c =
    let (first, second) = c.in-Some.ensures.steps in
    let (long, none, same) = c.loop-x.invariant in
    let d = c.loop-x.differences in
    let x = c.in-Some.x.now in
    let y = c.in-Some.y.now in (
      omega (arith, ap length first, ap length second),
      λ e rest. let (d_none, x_none) = or_none d (bit_xor x y) e in none d_none (cc (first, second, xor_none x y x_none, rest)),
      λ e.
          let (d_none, left) = same e in
          let here : x ≡ y = cc (first, second, left) in
          (ap (λ (n : ℕ). bit_or n (bit_xor x y)) d_none ∙ ap (λ (n : ℕ). bit_xor n y) here ∙ xor_self y, cc (first, second, left)),
    )

pub returns : goal.returns
returns c =
    let (long, none, same) = c.loop-x.invariant in
    let d = c.loop-x.differences in
    let a = c.loop-x.x-iterator.a.rest.now in
    let b = c.loop-x.x-iterator.b.rest.now in
    let left : length a ≡ 0 = ⊎_elim (λ e. e.1.0) (λ e. long ∙ e.1.0) c.in-None.ensures.steps in
    let ends : a ≡ b = nil_from_length a left ∙ sym (nil_from_length b (sym long ∙ left)) in
    (λ e. none (eqb-true d 0 e) ends, λ e. eq-eqb d 0 (same e).0)
