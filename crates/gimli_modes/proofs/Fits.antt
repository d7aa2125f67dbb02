-- The permutation keeps a state of 32-bit words one.
use Rattle.std.proofs.Common.{ℕ, zero, suc, ◌-◌, ◌%◌, ◌^◌, ◌<◌, Bool, true, false, cond, eqb, [], ◌∷◌, get_or, refl, arith}
use lib.Bits.{bit_and, bit_or, bit_xor, xor_lt}
use Rattle.gimli.specs.Four.{row_whole}
use Rattle.gimli.proofs.Words.{shifted_fits, rotated_fits}
use Rattle.gimli.specs.Words.{shifted, rotated}
use Rattle.gimli.specs.Permutation.{Whole, WholeRow, Column, column, sp_box, columns, small_swap, big_swap, add_constant, round, first_rounds, permutation}
use Rattle.gimli.specs.declared.state.State.{State}

abbrev Fitting : Column → Type 0
Fitting c = (c.0 < 2 ^ 32) × (c.1 < 2 ^ 32) × (c.2 < 2 ^ 32)

sp_box_fits : (c : Column) → Fitting c → Fitting (sp_box c)
unfolding sp_box
sp_box_fits (w0, w1, w2) (h0, h1, h2) =
    let x = rotated 24 w0 in
    let y = rotated 9 w1 in
    let fx : x < 2 ^ 32 = rotated_fits 8 24 w0 refl h0 in
    let fy : y < 2 ^ 32 = rotated_fits 23 9 w1 refl h1 in (
      xor_lt 32 (bit_xor w2 y) _ (xor_lt 32 w2 y h2 fy) (shifted_fits 3 (bit_and x y)),
      xor_lt 32 (bit_xor y x) _ (xor_lt 32 y x fy fx) (shifted_fits 1 (bit_or x w2)),
      xor_lt 32 (bit_xor x (shifted 1 w2)) _ (xor_lt 32 x (shifted 1 w2) fx (shifted_fits 1 w2)) (shifted_fits 2 (bit_and y w2)),
    )

columns_whole : (s : State) → Whole s → Whole (columns s)
unfolding columns
columns_whole s w =
    let fits : (j : ℕ) → Fitting (sp_box (column s j)) = λ j. sp_box_fits (column s j) (w.top.words j, w.middle.words j, w.bottom.words j) in
    record {
      top = row_whole (λ j. (sp_box (column s j)).0) (λ j. (fits j).0);
      middle = row_whole (λ j. (sp_box (column s j)).1) (λ j. (fits j).1);
      bottom = row_whole (λ j. (sp_box (column s j)).2) (λ j. (fits j).2);
    }

-- a row of four words that fit
four_whole : (a b c d : ℕ) → a < 2 ^ 32 → b < 2 ^ 32 → c < 2 ^ 32 → d < 2 ^ 32 → WholeRow (a ∷ b ∷ c ∷ d ∷ [])
four_whole a b c d ha hb hc hd = record { long = refl; words = words }
  where
    words : (j : ℕ) → get_or (a ∷ b ∷ c ∷ d ∷ []) j 0 < 2 ^ 32
    words zero = ha
    words (suc zero) = hb
    words (suc (suc zero)) = hc
    words (suc (suc (suc zero))) = hd
    words (suc (suc (suc (suc j)))) = omega arith

small_swap_whole : (s : State) → Whole s → Whole (small_swap s)
unfolding small_swap
small_swap_whole s w =
    let t = w.top.words in
    record { top = four_whole _ _ _ _ (t 1) (t 0) (t 3) (t 2); middle = w.middle; bottom = w.bottom }

big_swap_whole : (s : State) → Whole s → Whole (big_swap s)
unfolding big_swap
big_swap_whole s w =
    let t = w.top.words in
    record { top = four_whole _ _ _ _ (t 2) (t 3) (t 0) (t 1); middle = w.middle; bottom = w.bottom }

add_constant_whole : (r : ℕ) (s : State) → r < 2 ^ 32 → Whole s → Whole (add_constant r s)
unfolding add_constant
add_constant_whole r s h w =
    let t = w.top.words in
    let c : 0x9e377900 < 2 ^ 32 = omega arith in
    record {
      top = four_whole _ _ _ _ (xor_lt 32 (get_or s.top 0 0) (bit_xor 0x9e377900 r) (t 0) (xor_lt 32 0x9e377900 r c h)) (t 1) (t 2) (t 3);
      middle = w.middle;
      bottom = w.bottom;
    }

either_whole : (b : Bool) (s t : State) → Whole s → Whole t → Whole (cond b s t)
either_whole true s t hs ht = hs
either_whole false s t hs ht = ht

round_whole : (r : ℕ) (s : State) → r < 2 ^ 32 → Whole s → Whole (round r s)
unfolding round
round_whole r s h w =
    let c = columns_whole s w in
    either_whole (eqb (r % 4) 0) _ _ (add_constant_whole r _ h (small_swap_whole _ c))
    (either_whole (eqb (r % 4) 2) _ _ (big_swap_whole _ c) c)

first_rounds_whole : (n : ℕ) (s : State) → Whole s → Whole (first_rounds n s)
unfolding first_rounds
first_rounds_whole zero s w = w
first_rounds_whole (suc n) s w = round_whole (24 - n) (first_rounds n s) (omega arith) (first_rounds_whole n s w)

pub permutation_whole : (s : State) → Whole s → Whole (permutation s)
unfolding permutation
permutation_whole s w = first_rounds_whole 24 s w
