-- A message ciphered byte by byte, in any pieces, is the message ciphered by blocks.
use Rattle.std.proofs.Common.{◌≡◌, ℕ, zero, suc, ◌+◌, ◌*◌, ◌/◌, ◌%◌, ◌<◌, ◌≤◌, List, [], ◌∷◌, ◌++◌, length, get_or, take, drop, sym, refl, ap, ◌∙◌, inl, inr, add-one, arith}
use Rattle.std.proofs.lemmas.List.{append-nil, append_assoc, length-drop, length_push, take_all, take-set, drop-set, drop-drop, take-append-le, drop-append-le}
use Rattle.std.proofs.lemmas.Bool.{cases_eq}
use Rattle.engine.specs.Strings.{Bytes, Whole, xored}
use Rattle.sponge.specs.Blocks.{rate, mixed, after_full, cipher_full, ciphertext}
use Rattle.sponge.specs.Steps.{State, at, absorb_byte, absorb_piece, absorbing}
use Rattle.sponge.proofs.Absorbing.{last_block_push, by_blocks, by_blocks_at, by_blocks_push, absorbing_by_blocks}
use Rattle.cipher.specs.Ciphering.{keyed, cipher_piece}
use Rattle.cipher.proofs.Steady.{Steady, steady_byte}
use Rattle.cipher.proofs.Xor.{xor_twice, xor_cancel, xor_byte}

-- one more of the first elements
take_next : (r : ℕ) (x : List ℕ) → take (suc r) x ≡ take r x ++ take 1 (drop r x)
take_next zero x = refl
take_next (suc r) [] = refl
take_next (suc r) (y ∷ x) = ap (λ (z : List ℕ). y ∷ z) (take_next r x)

bytes_cons : (b : ℕ) (bs : List ℕ) → b < 256 → Bytes bs → Bytes (b ∷ bs)
bytes_cons b bs h k zero = h
bytes_cons b bs h k (suc i) = k i

-- what stands at the place right after a byte's xor: a byte, where the state is long enough
shown : State → ℕ → List ℕ
shown p b = take 1 (drop p.place (xored p.string p.place b))

module _ (rule : List ℕ → List ℕ) where
  -- full blocks do not see what comes behind them
  cipher_full_append : (n : ℕ) (s m t : List ℕ) → rate * n ≤ length m → cipher_full rule n s (m ++ t) ≡ cipher_full rule n s m
  unfolding cipher_full
  cipher_full_append zero s m t h = refl
  cipher_full_append (suc n) s m t h =
      let front : take rate (m ++ t) ≡ take rate m = take-append-le rate m t (omega arith) in
      let back : drop rate (m ++ t) ≡ drop rate m ++ t = drop-append-le rate m t (omega arith) in
      let s' = rule (mixed s (take rate m)) in
      ap (λ (x : List ℕ). take rate (mixed s x) ++ cipher_full rule n (rule (mixed s x)) (drop rate (m ++ t))) front
      ∙ ap (λ (x : List ℕ). take rate (mixed s (take rate m)) ++ cipher_full rule n s' x) back
      ∙ ap (λ (x : List ℕ). take rate (mixed s (take rate m)) ++ x) (cipher_full_append n s' (drop rate m) t (simp length-drop (omega arith)))

  -- the last of several full blocks
  cipher_full_more : (n : ℕ) (s m : List ℕ) → cipher_full rule (suc n) s m ≡ cipher_full rule n s m ++ take rate (mixed (after_full rule n s m) (take rate (drop (rate * n) m)))
  unfolding cipher_full after_full
  cipher_full_more zero s m = append-nil (take rate (mixed s (take rate m)))
  cipher_full_more (suc n) s m =
      let s' = rule (mixed s (take rate m)) in
      let rest : drop (rate * n) (drop rate m) ≡ drop (rate * suc n) m = drop-drop (rate * n) rate m ∙ ap (λ (k : ℕ). drop k m) (omega arith) in
      ap (λ (x : List ℕ). take rate (mixed s (take rate m)) ++ x) (
      cipher_full_more n s' (drop rate m)
      ∙ ap (λ (x : List ℕ). cipher_full rule n s' (drop rate m) ++ take rate (mixed (after_full rule n s' (drop rate m)) (take rate x))) rest
      )
      ∙ sym (append_assoc (take rate (mixed s (take rate m))) (cipher_full rule n s' (drop rate m)) _)

  ciphertext_at : (s m : List ℕ) (q r : ℕ) → length m / rate ≡ q → length m % rate ≡ r → ciphertext rule s m ≡ cipher_full rule q s m ++ take r (mixed (after_full rule q s m) (drop (rate * q) m))
  unfolding ciphertext
  ciphertext_at s m q r e f =
      let left : length (drop (rate * q) m) ≡ r = length-drop (rate * q) m ∙ omega arith in
      ap (λ (n : ℕ). cipher_full rule n s m ++ take (length (drop (rate * n) m)) (mixed (after_full rule n s m) (drop (rate * n) m))) e
      ∙ ap (λ (k : ℕ). cipher_full rule q s m ++ take k (mixed (after_full rule q s m) (drop (rate * q) m))) left

  -- one byte more of a message
  ciphertext_push : (s m : List ℕ) (b : ℕ) → ciphertext rule s (m ++ b ∷ []) ≡ ciphertext rule s m ++ shown (by_blocks rule s m) b
  unfolding shown
  ciphertext_push s m b =
      let q = length m / rate in
      let r = length m % rate in
      let m' = m ++ b ∷ [] in
      let x = mixed (after_full rule q s m) (drop (rate * q) m) in
      let long : length m' ≡ length m + 1 = length_push m b in
      let block = drop (rate * q) m' in
      let filled : xored x r b ≡ mixed (after_full rule q s m') block = last_block_push rule s m b q refl in
      let ended : ciphertext rule s m' ≡ cipher_full rule q s m' ++ take (r + 1) (mixed (after_full rule q s m') block) =
      elim (cases_eq (r + 1) rate) [
        | inl e ↦
            let all : take rate block ≡ block = take_all rate block (simp length-drop (omega arith)) in
            ciphertext_at s m' (suc q) 0 (omega arith) (omega arith)
            ∙ append-nil _
            ∙ cipher_full_more q s m'
            ∙ ap (λ (y : List ℕ). cipher_full rule q s m' ++ take rate (mixed (after_full rule q s m') y)) all
            ∙ ap (λ (k : ℕ). cipher_full rule q s m' ++ take k (mixed (after_full rule q s m') block)) (sym e)
        | inr e ↦ ciphertext_at s m' q (r + 1) (omega arith) (omega arith)
      ] in
      ended
      ∙ ap (λ (y : List ℕ). cipher_full rule q s m' ++ take (r + 1) y) (sym filled)
      ∙ ap (λ (y : List ℕ). y ++ take (r + 1) (xored x r b)) (cipher_full_append q s m (b ∷ []) (omega arith))
      ∙ ap (λ (y : List ℕ). cipher_full rule q s m ++ y) (ap (λ (k : ℕ). take k (xored x r b)) (add-one r) ∙ take_next r (xored x r b) ∙ ap (λ (y : List ℕ). y ++ shown (at x r) b) (take-set x r _))
      ∙ sym (append_assoc (cipher_full rule q s m) (take r x) (shown (at x r) b))
      ∙ ap (λ (y : List ℕ). y ++ shown (at x r) b) (sym (ciphertext_at s m q r refl refl))
      ∙ ap (λ (p : State). ciphertext rule s m ++ shown p b) (sym (by_blocks_at rule s m q r refl refl))

  shown_piece : State → List ℕ → List ℕ
  shown_piece p [] = []
  shown_piece p (b ∷ bs) = shown p b ++ shown_piece (absorb_byte rule p b) bs

  -- a piece more of a message
  ciphertext_append : (s a m : List ℕ) → ciphertext rule s (a ++ m) ≡ ciphertext rule s a ++ shown_piece (by_blocks rule s a) m
  unfolding shown_piece
  ciphertext_append s a [] = ap (ciphertext rule s) (append-nil a) ∙ sym (append-nil (ciphertext rule s a))
  ciphertext_append s a (b ∷ bs) =
      let p = by_blocks rule s a in
      ap (ciphertext rule s) (sym (append_assoc a (b ∷ []) bs))
      ∙ ciphertext_append s (a ++ b ∷ []) bs
      ∙ ap (λ (x : List ℕ). x ++ shown_piece (by_blocks rule s (a ++ b ∷ [])) bs) (ciphertext_push s a b)
      ∙ ap (λ (o : State). (ciphertext rule s a ++ shown p b) ++ shown_piece o bs) (sym (by_blocks_push rule s a b))
      ∙ append_assoc (ciphertext rule s a) (shown p b) (shown_piece (absorb_byte rule p b) bs)

  pub ciphertext_none : (s : List ℕ) → ciphertext rule s [] ≡ []
  unfolding ciphertext cipher_full
  ciphertext_none s = refl

  -- the pieces of one string
  pub cipher_piece_append : (p : State) (a b : List ℕ) → cipher_piece rule p (a ++ b) ≡ cipher_piece rule p a ++ cipher_piece rule (absorb_piece rule p a) b
  cipher_piece_append p [] b = refl
  cipher_piece_append p (x ∷ a) b = ap (λ (t : List ℕ). keyed p x ∷ t) (cipher_piece_append (absorb_byte rule p x) a b)

  pub length_cipher_piece : (p : State) (m : List ℕ) → length (cipher_piece rule p m) ≡ length m
  length_cipher_piece p [] = refl
  length_cipher_piece p (b ∷ bs) = ap suc (length_cipher_piece (absorb_byte rule p b) bs)

  -- no two pieces have one ciphertext
  pub cipher_piece_apart : (p : State) (a b : List ℕ) → cipher_piece rule p a ≡ cipher_piece rule p b → a ≡ b
  cipher_piece_apart p [] [] e = refl
  cipher_piece_apart p [] (y ∷ b) e = absurd (omega (arith, ap length e))
  cipher_piece_apart p (x ∷ a) [] e = absurd (omega (arith, ap length e))
  cipher_piece_apart p (x ∷ a) (y ∷ b) e =
      let first : x ≡ y = xor_cancel (get_or p.string p.place 0) x y (ap (λ (t : List ℕ). get_or t 0 0) e) in
      let rest : cipher_piece rule (absorb_byte rule p y) a ≡ cipher_piece rule (absorb_byte rule p y) b =
      ap (λ (z : ℕ). cipher_piece rule (absorb_byte rule p z) a) (sym first) ∙ ap (drop 1) e in
      ap (λ (z : ℕ). z ∷ a) first ∙ ap (λ (t : List ℕ). y ∷ t) (cipher_piece_apart (absorb_byte rule p y) a b rest)

  module _ (keeps : (s : List ℕ) → Whole s → Whole (rule s)) where
    shown_byte : (p : State) (b : ℕ) → Steady p → shown p b ≡ keyed p b ∷ []
    unfolding shown
    shown_byte p b w =
        let within = w.within in
        let long = w.whole.long in
        ap (take 1) (drop-set p.string p.place (keyed p b) (omega arith))

    shown_bytes : (p : State) (m : List ℕ) → Steady p → Bytes m → shown_piece p m ≡ cipher_piece rule p m
    unfolding shown_piece
    shown_bytes p [] w h = refl
    shown_bytes p (b ∷ bs) w h =
        ap (λ (x : List ℕ). x ++ shown_piece (absorb_byte rule p b) bs) (shown_byte p b w)
        ∙ ap (λ (x : List ℕ). keyed p b ∷ x) (shown_bytes (absorb_byte rule p b) bs (steady_byte rule keeps p b w (h 0)) (λ i. h (suc i)))

    -- the ciphertexts of a message's pieces, joined, are the ciphertext of the message
    pub pieces_join : (s m piece : List ℕ) (p : State) → p ≡ absorbing rule s m → Steady p → Bytes piece → ciphertext rule s (m ++ piece) ≡ ciphertext rule s m ++ cipher_piece rule p piece
    pieces_join s m piece p e w h =
        ciphertext_append s m piece
        ∙ ap (λ (o : State). ciphertext rule s m ++ shown_piece o piece) (sym (e ∙ absorbing_by_blocks rule s m))
        ∙ ap (λ (x : List ℕ). ciphertext rule s m ++ x) (shown_bytes p piece w h)

    -- the ciphertext of a whole message
    pub ciphertext_bytewise : (s m : List ℕ) → Whole s → Bytes m → ciphertext rule s m ≡ cipher_piece rule (at s 0) m
    ciphertext_bytewise s m w h =
        pieces_join s [] m (at s 0) refl (record { whole = w; within = omega arith }) h
        ∙ ap (λ (x : List ℕ). x ++ cipher_piece rule (at s 0) m) (ciphertext_none s)

    shown_from_bytes : (p : State) (m t z : List ℕ) → Steady p → Bytes z → z ≡ shown_piece p m ++ t → Bytes m
    unfolding shown_piece
    shown_from_bytes p [] t z w h e = λ i. omega arith
    shown_from_bytes p (b ∷ bs) t z w h e =
        let k = get_or p.string p.place 0 in
        let rest = shown_piece (absorb_byte rule p b) bs in
        let is : z ≡ keyed p b ∷ (rest ++ t) = e ∙ ap (λ (x : List ℕ). (x ++ rest) ++ t) (shown_byte p b w) in
        let first : keyed p b < 256 = omega (arith, h 0, ap (λ (x : List ℕ). get_or x 0 0) is) in
        let byte : b < 256 = omega (arith, xor_byte k (keyed p b) (w.whole.bytes p.place) first, xor_twice k b) in
        let next : Bytes bs = shown_from_bytes (absorb_byte rule p b) bs t (rest ++ t) (steady_byte rule keeps p b w byte) (λ i. omega (arith, h (suc i), ap (λ (x : List ℕ). get_or x (suc i) 0) is)) refl in
        bytes_cons b bs byte next

    -- what bytes are the ciphertext of is bytes
    pub bytes_from_ciphertext : (s m t z : List ℕ) → Whole s → Bytes z → z ≡ ciphertext rule s m ++ t → Bytes m
    bytes_from_ciphertext s m t z w h e =
        let start : by_blocks rule s [] ≡ at s 0 = sym (absorbing_by_blocks rule s []) in
        let is : ciphertext rule s m ≡ shown_piece (at s 0) m =
        ciphertext_append s [] m
        ∙ ap (λ (x : List ℕ). x ++ shown_piece (by_blocks rule s []) m) (ciphertext_none s)
        ∙ ap (λ (o : State). shown_piece o m) start in
        shown_from_bytes (at s 0) m t z (record { whole = w; within = omega arith }) h (e ∙ ap (λ (x : List ℕ). x ++ t) is)
