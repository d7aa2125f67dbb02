-- A state of 48 bytes at a place of a block stays one as bytes are taken in.
use Rattle.std.proofs.Common.{◌≡◌, ℕ, suc, ◌+◌, ◌<◌, List, [], ◌∷◌, length, get_or, sym, ap, ◌∙◌, subst, inl, inr, arith}
use lib.Bits.{bit_xor}
use Rattle.std.proofs.lemmas.List.{length-set, get_or-set_same, get_or-set_other, get_or_past}
use Rattle.std.proofs.lemmas.Bool.{cases_eq, cases_lt}
use Rattle.engine.specs.Strings.{Bytes, Whole, xored}
use Rattle.sponge.specs.Blocks.{rate}
use Rattle.sponge.specs.Steps.{State, at, advanced, absorb_byte, absorb_piece, padded}
use Rattle.sponge.proofs.Advance.{advanced_end, advanced_within}
use Rattle.cipher.proofs.Xor.{xor_byte}

pub record Steady (p : State) : Type 0 where
  pub whole : Whole p.string
  pub within : p.place < rate

pub steady_at : (s : List ℕ) → Whole s → Steady (at s 0)
steady_at s w = record { whole = w; within = omega arith }

pub whole_xored : (s : List ℕ) (i b : ℕ) → Whole s → b < 256 → Whole (xored s i b)
whole_xored s i b w h =
    let v = xor_byte (get_or s i 0) b (w.bytes i) h in
    let long = w.long in
    record {
      long = length-set s i _ ∙ w.long;
      bytes = λ j. elim (cases_eq j i) [
        | inl e ↦ elim (cases_lt j (length s)) [
          | inl k ↦ let same : get_or (xored s i b) j 0 ≡ bit_xor (get_or s i 0) b = ap (λ (n : ℕ). get_or (xored s i b) n 0) e ∙ get_or-set_same s i _ 0 (omega arith) in omega arith
          | inr k ↦ let past : get_or (xored s i b) j 0 ≡ 0 = get_or_past (xored s i b) j 0 (simp length-set (omega arith)) in omega arith
        ]
        | inr e ↦ let other : get_or (xored s i b) j 0 ≡ get_or s j 0 = get_or-set_other s i j _ 0 e in let here = w.bytes j in omega arith
      ];
    }

module _ (rule : List ℕ → List ℕ) (keeps : (s : List ℕ) → Whole s → Whole (rule s)) where
  steady_advanced : (p : State) → Steady p → Steady (advanced rule p)
  steady_advanced p w =
      let within = w.within in
      elim (cases_eq (p.place + 1) rate) [
        | inl e ↦ subst Steady (sym (advanced_end rule p.string p.place e)) (steady_at _ (keeps _ w.whole))
        | inr e ↦ subst Steady (sym (advanced_within rule p.string p.place e)) (record { whole = w.whole; within = omega arith })
      ]

  pub steady_byte : (p : State) (b : ℕ) → Steady p → b < 256 → Steady (absorb_byte rule p b)
  steady_byte p b w h = steady_advanced _ (record { whole = whole_xored _ _ _ w.whole h; within = w.within })

  pub steady_piece : (p : State) (m : List ℕ) → Steady p → Bytes m → Steady (absorb_piece rule p m)
  steady_piece p [] w h = w
  steady_piece p (b ∷ bs) w h = steady_piece (absorb_byte rule p b) bs (steady_byte p b w (h 0)) (λ i. h (suc i))

  pub whole_padded : (p : State) → Steady p → Whole (padded rule p).string
  whole_padded p w = keeps _ (whole_xored _ _ _ (whole_xored _ _ _ w.whole (omega arith)) (omega arith))
