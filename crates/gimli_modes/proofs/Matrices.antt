-- What a sponge does to a state's string is what the published modes do to its words.
use Rattle.std.proofs.Common.{◌≡◌, ℕ, zero, suc, ◌+◌, ◌*◌, ◌/◌, ◌%◌, ◌^◌, ◌<◌, ◌≤◌, List, [], ◌∷◌, ◌++◌, length, get_or, take, drop, set, replicate, sym, refl, ap, ◌∙◌, ap₂, inl, inr, add-zero, arith}
use lib.Bits.{bit_xor, xor_lt, xor_zero_r}
use Rattle.std.proofs.lemmas.List.{length-set, get_or_past, get_or-drop, get_or-set_same, get_or-set_other, get_or_append_left, get_or-append_right}
use Rattle.std.proofs.lemmas.Bool.{cases_eq, cases_lt}
use Rattle.engine.specs.Strings.{Bytes, zeros, xored}
use Rattle.gimli.specs.Four.{by_four, row_at, row_whole}
use Rattle.gimli.specs.StringsLemmas.{same_state, string_long, string-at, same_string, byte_of_xor, row-xored, permuted_string}
use Rattle.gimli.specs.Permutation.{row, Whole, WholeRow, permutation}
use Rattle.gimli.specs.Strings.{row_of, byte_at, string, word_at, state, gimli}
use Rattle.gimli.specs.declared.state.State.{State}
use Rattle.sponge.specs.Blocks.{mixed}
use Rattle.gimli_modes.specs.Published.{zero_state, loaded, with_block, marked, squeeze}

-- ---- bytes of strings

pub bytes_take : (n : ℕ) (m : List ℕ) → Bytes m → Bytes (take n m)
bytes_take zero m h i = omega arith
bytes_take (suc n) [] h i = omega arith
bytes_take (suc n) (x ∷ m) h zero = h 0
bytes_take (suc n) (x ∷ m) h (suc i) = bytes_take n m (λ j. h (suc j)) i

pub bytes_drop : (n : ℕ) (m : List ℕ) → Bytes m → Bytes (drop n m)
bytes_drop n m h i = rw (get_or-drop n m i 0) (h (n + i))

-- a block's end: a byte 1, and zeros
bytes_zeros : (n : ℕ) → Bytes (replicate n 0)
bytes_zeros zero i = omega arith
bytes_zeros (suc n) zero = omega arith
bytes_zeros (suc n) (suc i) = bytes_zeros n i

pub bytes_ended : (m : List ℕ) (n : ℕ) → Bytes m → Bytes (m ++ 1 ∷ replicate n 0)
bytes_ended [] n h zero = omega arith
bytes_ended [] n h (suc i) = bytes_zeros n i
bytes_ended (x ∷ m) n h zero = h 0
bytes_ended (x ∷ m) n h (suc i) = bytes_ended m n (λ j. h (suc j)) i

-- ---- words of strings

pub word_fits : (m : List ℕ) (p : ℕ) → Bytes m → word_at m p < 2 ^ 32
word_fits m p h = omega (arith, h p, h (p + 1), h (p + 2), h (p + 3))

-- byte k of the word that begins at place p
word_byte : (m : List ℕ) (p k : ℕ) → Bytes m → k < 4 → word_at m p / 2 ^ (8 * k) % 256 ≡ get_or m (p + k) 0
word_byte m p k h =
    let h0 = h p in
    let h1 = h (p + 1) in
    let h2 = h (p + 2) in
    let h3 = h (p + 3) in
    by_four (λ k. word_at m p / 2 ^ (8 * k) % 256 ≡ get_or m (p + k) 0) (rw (add-zero p) (omega arith)) (omega arith) (omega arith) (omega arith) k

-- two rows of equal words
same_row : (f g : ℕ → ℕ) → ((j : ℕ) → j < 4 → f j ≡ g j) → row f ≡ row g
same_row f g e = λ i. e 0 (omega arith) i ∷ e 1 (omega arith) i ∷ e 2 (omega arith) i ∷ e 3 (omega arith) i ∷ []

-- ---- a string mixed into another

pub length_mixed : (s b : List ℕ) → length (mixed s b) ≡ length s
unfolding mixed
length_mixed s [] = refl
length_mixed [] (b ∷ bs) = refl
length_mixed (x ∷ s) (b ∷ bs) = ap suc (length_mixed s bs)

mixed-at : (s b : List ℕ) (p : ℕ) → p < length s → get_or (mixed s b) p 0 ≡ bit_xor (get_or s p 0) (get_or b p 0)
unfolding mixed
mixed-at s [] p h = sym (xor_zero_r (get_or s p 0))
mixed-at [] (b ∷ bs) p h = absurd (omega arith)
mixed-at (x ∷ s) (b ∷ bs) zero h = refl
mixed-at (x ∷ s) (b ∷ bs) (suc p) h = mixed-at s bs p (omega arith)

-- zeros behind a block change nothing
pub mixed-zeros : (s b : List ℕ) (n : ℕ) → mixed s (b ++ replicate n 0) ≡ mixed s b
unfolding mixed
mixed-zeros s [] zero = refl
mixed-zeros [] [] (suc n) = refl
mixed-zeros (x ∷ s) [] (suc n) = ap₂ (λ (y : ℕ) (t : List ℕ). y ∷ t) (xor_zero_r x) (mixed-zeros s [] n)
mixed-zeros [] (b ∷ bs) n = refl
mixed-zeros (x ∷ s) (b ∷ bs) n = ap (λ (t : List ℕ). bit_xor x b ∷ t) (mixed-zeros s bs n)

-- the places of a block do not see what is mixed in behind them
pub mixed_front : (s b r : List ℕ) → take (length b) (mixed s (b ++ r)) ≡ take (length b) (mixed s b)
unfolding mixed
mixed_front s [] r = refl
mixed_front [] (b ∷ bs) r = refl
mixed_front (x ∷ s) (b ∷ bs) r = ap (λ (t : List ℕ). bit_xor x b ∷ t) (mixed_front s bs r)

-- ---- a block

module _ (s : State) (b : List ℕ) (bytes : Bytes b) where
  block_low : (p : ℕ) → p < 16 → byte_at (with_block s b) p ≡ bit_xor (byte_at s p) (get_or b p 0)
  block_low p h =
      let j = p % 16 / 4 in
      let k = 8 * (p % 4) in
      let e : p / 16 ≡ 0 = omega arith in
      let place : 4 * j + p % 4 ≡ p = omega arith in
      rw e
      (ap (λ (w : ℕ). w / 2 ^ k % 256) (row_at (λ j. bit_xor (get_or s.top j 0) (word_at b (4 * j))) j (omega arith))
      ∙ byte_of_xor (get_or s.top j 0) (word_at b (4 * j)) k
      ∙ ap (bit_xor (get_or s.top j 0 / 2 ^ k % 256)) (word_byte b (4 * j) (p % 4) bytes (omega arith) ∙ ap (λ (i : ℕ). get_or b i 0) place))

  row_same : (i : ℕ) → 0 < i → row_of (with_block s b) i ≡ row_of s i
  row_same zero h = absurd (omega arith)
  row_same (suc zero) h = refl
  row_same (suc (suc i)) h = refl

  block_high : (p : ℕ) → 16 ≤ p → byte_at (with_block s b) p ≡ byte_at s p
  block_high p h = ap (λ (r : List ℕ). get_or r (p % 16 / 4) 0 / 2 ^ (8 * (p % 4)) % 256) (row_same (p / 16) (omega arith))

  pub block_mixed : length b ≡ 16 → mixed (string s) b ≡ string (with_block s b)
  block_mixed long =
      same_string (mixed (string s) b) (with_block s b) (length_mixed (string s) b ∙ string_long s)
      (λ p h.
      let inside : p < length (string s) = rw (string_long s) h in
      let now : get_or (mixed (string s) b) p 0 ≡ bit_xor (byte_at s p) (get_or b p 0) =
      mixed-at (string s) b p inside ∙ ap (λ (x : ℕ). bit_xor x (get_or b p 0)) (string-at s p h) in
      elim (cases_lt p 16) [
        | inl low ↦ now ∙ sym (block_low p low)
        | inr high ↦
            let past : length b ≤ p = omega arith in
            now ∙ ap (bit_xor (byte_at s p)) (get_or_past b p 0 past) ∙ xor_zero_r (byte_at s p) ∙ sym (block_high p high)
      ])

  pub block_whole : Whole s → Whole (with_block s b)
  block_whole w = record {
    top = row_whole (λ j. bit_xor (get_or s.top j 0) (word_at b (4 * j))) (λ j. xor_lt 32 (get_or s.top j 0) (word_at b (4 * j)) (w.top.words j) (word_fits b (4 * j) bytes));
    middle = w.middle;
    bottom = w.bottom;
  }

-- ---- the mark

pub mark_xored : (s : State) → Whole s → xored (string s) 47 1 ≡ string (marked s)
mark_xored s w = sym (row-xored s 47 1 1 2 (omega arith) (omega arith) refl refl w.bottom.long)

set_whole : (r : List ℕ) (i v : ℕ) → i < length r → v < 2 ^ 32 → WholeRow r → WholeRow (set r i v)
set_whole r i v h fits w = record {
  long = length-set r i v ∙ w.long;
  words = λ j. elim (cases_eq j i) [
    | inl e ↦ rw (e, get_or-set_same r i v 0 h) fits
    | inr ne ↦ rw (get_or-set_other r i j v 0 ne) (w.words j)
  ];
}

pub mark_whole : (s : State) → Whole s → Whole (marked s)
mark_whole s w =
    let long = w.bottom.long in
    record {
      top = w.top;
      middle = w.middle;
      bottom = set_whole s.bottom 3 _ (omega arith) (xor_lt 32 (get_or s.bottom 3 0) 0x01000000 (w.bottom.words 3) (omega arith)) w.bottom;
    }

-- ---- the rule, the first bytes, the first states

pub rule_permutes : (s : State) → Whole s → gimli (string s) ≡ string (permutation s)
rule_permutes s w = sym (permuted_string s (permutation s) w refl)

pub first_bytes : (s : State) → take 16 (string s) ≡ squeeze s
unfolding string squeeze
first_bytes s = refl

pub zeros_string : zeros ≡ string zero_state
unfolding string
zeros_string = refl

pub zero_whole : Whole zero_state
zero_whole =
    let r : WholeRow (row (λ j. 0)) = row_whole (λ j. 0) (λ j. omega arith) in
    record { top = r; middle = r; bottom = r }

word_left : (a b : List ℕ) (p : ℕ) → p + 3 < length a → word_at (a ++ b) p ≡ word_at a p
word_left a b p h =
    let e0 = get_or_append_left a b 0 p (omega arith) in
    let e1 = get_or_append_left a b 0 (p + 1) (omega arith) in
    let e2 = get_or_append_left a b 0 (p + 2) (omega arith) in
    let e3 = get_or_append_left a b 0 (p + 3) h in
    omega arith

byte_right : (a b : List ℕ) (p q : ℕ) → length a ≡ 16 → 16 + q ≡ p → get_or (a ++ b) p 0 ≡ get_or b q 0
byte_right a b p q long e = get_or-append_right a b 16 p 0 long (omega arith) ∙ ap (λ (i : ℕ). get_or b i 0) (omega arith)

word_right : (a b : List ℕ) (p q : ℕ) → length a ≡ 16 → 16 + q ≡ p → word_at (a ++ b) p ≡ word_at b q
word_right a b p q long e =
    let e0 = byte_right a b p q long e in
    let e1 = byte_right a b (p + 1) (q + 1) long (omega arith) in
    let e2 = byte_right a b (p + 2) (q + 2) long (omega arith) in
    let e3 = byte_right a b (p + 3) (q + 3) long (omega arith) in
    omega arith

state-loaded : (key nonce : List ℕ) → length nonce ≡ 16 → state (nonce ++ key) ≡ loaded key nonce
unfolding state
state-loaded key nonce long =
    same_state
    (same_row _ _ (λ j h. word_left nonce key (4 * j) (omega arith)))
    (same_row _ _ (λ j h. word_right nonce key (16 + 4 * j) (4 * j) long refl))
    (same_row _ _ (λ j h. word_right nonce key (32 + 4 * j) (16 + 4 * j) long (omega arith)))

pub loaded-string : (key nonce : List ℕ) → length nonce ≡ 16 → gimli (nonce ++ key) ≡ string (permutation (loaded key nonce))
unfolding gimli
loaded-string key nonce long = ap (λ (s : State). string (permutation s)) (state-loaded key nonce long)

pub loaded_whole : (key nonce : List ℕ) → Bytes key → Bytes nonce → Whole (loaded key nonce)
loaded_whole key nonce bk bn = record {
  top = row_whole (λ j. word_at nonce (4 * j)) (λ j. word_fits nonce (4 * j) bn);
  middle = row_whole (λ j. word_at key (4 * j)) (λ j. word_fits key (4 * j) bk);
  bottom = row_whole (λ j. word_at key (16 + 4 * j)) (λ j. word_fits key (16 + 4 * j) bk);
}
