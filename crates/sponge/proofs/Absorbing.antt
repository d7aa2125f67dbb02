-- A string taken in byte by byte, in any pieces, is the string taken in by blocks.
use Rattle.std.proofs.Common.{◌≡◌, ℕ, zero, suc, ◌+◌, ◌*◌, ◌/◌, ◌%◌, ◌<◌, ◌≤◌, List, [], ◌∷◌, ◌++◌, length, get_or, take, drop, sym, refl, ap, ◌∙◌, inl, inr, arith}
use lib.Bits.{bit_xor}
use Rattle.engine.specs.Strings.{xored}
use Rattle.std.proofs.lemmas.List.{append-nil, append_assoc, length-drop, length_push, take_all, drop_all, drop-drop, take-append-le, drop-append-le, at_drop_more, at_drop_all}
use Rattle.std.proofs.lemmas.Bool.{cases_eq}
use Rattle.sponge.specs.Blocks.{rate, last_place, mixed, after_full, absorbed}
use Rattle.sponge.specs.Steps.{State, at, advanced, absorb_byte, absorb_piece, padded, absorbing}
use Rattle.sponge.specs.Calls.{Absorbs, Pads}
use Rattle.sponge.proofs.Advance.{advanced_end, advanced_within}

pub mixed-none : (s : List ℕ) → mixed s [] ≡ s
unfolding mixed
mixed-none s = refl

-- one byte more of a block
pub mixed_push : (s x : List ℕ) (b : ℕ) → mixed s (x ++ b ∷ []) ≡ xored (mixed s x) (length x) b
unfolding mixed
mixed_push [] [] b = refl
mixed_push [] (x ∷ xs) b = refl
mixed_push (y ∷ s) [] b = refl
mixed_push (y ∷ s) (x ∷ xs) b = ap (λ (t : List ℕ). bit_xor y x ∷ t) (mixed_push s xs b)

module _ (rule : List ℕ → List ℕ) where
  -- full blocks do not see what comes behind them
  after_full_append : (n : ℕ) (s m t : List ℕ) → rate * n ≤ length m → after_full rule n s (m ++ t) ≡ after_full rule n s m
  unfolding after_full
  after_full_append zero s m t h = refl
  after_full_append (suc n) s m t h =
      let front : take rate (m ++ t) ≡ take rate m = take-append-le rate m t (omega arith) in
      let back : drop rate (m ++ t) ≡ drop rate m ++ t = drop-append-le rate m t (omega arith) in
      ap (λ (x : List ℕ). after_full rule n (rule (mixed s x)) (drop rate (m ++ t))) front
      ∙ ap (λ (x : List ℕ). after_full rule n (rule (mixed s (take rate m))) x) back
      ∙ after_full_append n (rule (mixed s (take rate m))) (drop rate m) t (simp length-drop (omega arith))

  -- the last of several full blocks
  after_full_more : (n : ℕ) (s m : List ℕ) → after_full rule (suc n) s m ≡ rule (mixed (after_full rule n s m) (take rate (drop (rate * n) m)))
  unfolding after_full
  after_full_more zero s m = refl
  after_full_more (suc n) s m =
      let s' = rule (mixed s (take rate m)) in
      let rest : drop (rate * n) (drop rate m) ≡ drop (rate * suc n) m = drop-drop (rate * n) rate m ∙ ap (λ (k : ℕ). drop k m) (omega arith) in
      after_full_more n s' (drop rate m)
      ∙ ap (λ (x : List ℕ). rule (mixed (after_full rule n s' (drop rate m)) (take rate x))) rest

  -- s with the string m taken in by blocks, the last one not ended
  unfoldable pub by_blocks : List ℕ → List ℕ → State
  by_blocks s m = let n = length m / rate in at (mixed (after_full rule n s m) (drop (rate * n) m)) (length m % rate)

  pub by_blocks_at : (s m : List ℕ) (q r : ℕ) → length m / rate ≡ q → length m % rate ≡ r → by_blocks s m ≡ at (mixed (after_full rule q s m) (drop (rate * q) m)) r
  unfolding by_blocks
  by_blocks_at s m q r e f =
      ap (λ (n : ℕ). at (mixed (after_full rule n s m) (drop (rate * n) m)) (length m % rate)) e
      ∙ ap (λ (i : ℕ). at (mixed (after_full rule q s m) (drop (rate * q) m)) i) f

  -- one byte more of the last block
  pub last_block_push : (s m : List ℕ) (b q : ℕ) → length m / rate ≡ q → xored (mixed (after_full rule q s m) (drop (rate * q) m)) (length m % rate) b ≡ mixed (after_full rule q s (m ++ b ∷ [])) (drop (rate * q) (m ++ b ∷ []))
  last_block_push s m b q e =
      let m' = m ++ b ∷ [] in
      let left : length (drop (rate * q) m) ≡ length m % rate = length-drop (rate * q) m ∙ omega arith in
      let block : drop (rate * q) m' ≡ drop (rate * q) m ++ b ∷ [] = drop-append-le (rate * q) m (b ∷ []) (omega arith) in
      ap (λ (i : ℕ). xored (mixed (after_full rule q s m) (drop (rate * q) m)) i b) (sym left)
      ∙ sym (mixed_push (after_full rule q s m) (drop (rate * q) m) b)
      ∙ ap (λ (x : List ℕ). mixed (after_full rule q s m) x) (sym block)
      ∙ ap (λ (x : List ℕ). mixed x (drop (rate * q) m')) (sym (after_full_append q s m (b ∷ []) (omega arith)))

  -- one byte more of a string
  pub by_blocks_push : (s m : List ℕ) (b : ℕ) → absorb_byte rule (by_blocks s m) b ≡ by_blocks s (m ++ b ∷ [])
  by_blocks_push s m b =
      let q = length m / rate in
      let r = length m % rate in
      let m' = m ++ b ∷ [] in
      let long : length m' ≡ length m + 1 = length_push m b in
      let filled = last_block_push s m b q refl in
      let taken : absorb_byte rule (by_blocks s m) b ≡ advanced rule (at (mixed (after_full rule q s m') (drop (rate * q) m')) r) =
      ap (λ (p : State). absorb_byte rule p b) (by_blocks_at s m q r refl refl)
      ∙ ap (λ (x : List ℕ). advanced rule (at x r)) filled in
      elim (cases_eq (r + 1) rate) [
        | inl e ↦
            let none : drop (rate * suc q) m' ≡ [] = drop_all (rate * suc q) m' (omega arith) in
            let all : take rate (drop (rate * q) m') ≡ drop (rate * q) m' = take_all rate (drop (rate * q) m') (simp length-drop (omega arith)) in
            taken
            ∙ advanced_end rule _ r e
            ∙ ap (λ (x : List ℕ). at (rule (mixed (after_full rule q s m') x)) 0) (sym all)
            ∙ ap (λ (x : List ℕ). at x 0) (sym (after_full_more q s m') ∙ sym (mixed-none _) ∙ ap (λ (x : List ℕ). mixed (after_full rule (suc q) s m') x) (sym none))
            ∙ sym (by_blocks_at s m' (suc q) 0 (omega arith) (omega arith))
        | inr e ↦
            taken
            ∙ advanced_within rule _ r e
            ∙ sym (by_blocks_at s m' q (r + 1) (omega arith) (omega arith))
      ]

  -- a piece more of a string
  by_blocks_append : (s a m : List ℕ) → absorb_piece rule (by_blocks s a) m ≡ by_blocks s (a ++ m)
  by_blocks_append s a [] = ap (by_blocks s) (sym (append-nil a))
  by_blocks_append s a (b ∷ bs) =
      ap (λ (p : State). absorb_piece rule p bs) (by_blocks_push s a b)
      ∙ by_blocks_append s (a ++ b ∷ []) bs
      ∙ ap (by_blocks s) (append_assoc a (b ∷ []) bs)

  pub absorbing_by_blocks : (s m : List ℕ) → absorbing rule s m ≡ by_blocks s m
  unfolding by_blocks mixed after_full
  absorbing_by_blocks s m = by_blocks_append s [] m

  -- the end of a string
  padded_by_blocks : (s m : List ℕ) → padded rule (by_blocks s m) ≡ at (absorbed rule s m) 0
  unfolding by_blocks absorbed
  padded_by_blocks s m =
      let q = length m / rate in
      let left : length m % rate ≡ length (drop (rate * q) m) = omega arith ∙ sym (length-drop (rate * q) m) in
      ap (λ (i : ℕ). at (rule (xored (xored (mixed (after_full rule q s m) (drop (rate * q) m)) i 1) last_place 1)) 0) left

  -- pieces taken in one after another are their joined string taken in
  pub absorb_piece_append : (p : State) (a b : List ℕ) → absorb_piece rule p (a ++ b) ≡ absorb_piece rule (absorb_piece rule p a) b
  absorb_piece_append p [] b = refl
  absorb_piece_append p (x ∷ a) b = absorb_piece_append (absorb_byte rule p x) a b

  -- a loop over the bytes of a string: one byte more taken in
  pub next_byte : (string : List ℕ) (i b : ℕ) (p q : State) → i < length string → b ≡ get_or string i 0 → q ≡ absorb_byte rule p b → absorb_piece rule q (drop (i + 1) string) ≡ absorb_piece rule p (drop i string)
  next_byte string i b p q within read taken =
      let rest = drop (i + 1) string in
      ap (λ (x : State). absorb_piece rule x rest) taken
      ∙ ap (λ (c : ℕ). absorb_piece rule p (c ∷ rest)) read
      ∙ sym (at_drop_more (absorb_piece rule p) string i 0 within)

  -- past its last byte
  pub no_byte : (string : List ℕ) (i : ℕ) (p : State) → length string ≤ i → p ≡ absorb_piece rule p (drop i string)
  no_byte string i p past = sym (at_drop_all (absorb_piece rule p) string i past)

  pub absorbs : (p : State) (piece : List ℕ) (q : State) → q ≡ absorb_piece rule p piece → Absorbs rule p piece q
  absorbs p piece q e = record {
    bytewise = e;
    piecewise = λ o m h. e ∙ ap (λ (x : State). absorb_piece rule x piece) h ∙ sym (absorb_piece_append o m piece);
  }

  pub pads : (p q : State) → q ≡ padded rule p → Pads rule p q
  pads p q e = record {
    bytewise = e;
    whole = λ s m h. e ∙ ap (padded rule) (h ∙ absorbing_by_blocks s m) ∙ padded_by_blocks s m;
  }
