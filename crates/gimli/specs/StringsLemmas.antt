-- Strings of states: 48 bytes; a byte changed by xor; a state read back from its string.
use Rattle.std.specs.Prelude.{◌≡◌, ℕ, zero, suc, ◌+◌, ◌*◌, ◌/◌, ◌%◌, ◌^◌, ◌<◌, ◌≤◌, ◌≢◌, ◌⊎◌, List, length, bit_and, bit_xor, slice_index, slice_set, refl}
use Rattle.std.proofs.Common.{sym, ap, ◌∙◌, inl, inr, ⊎_elim, mod-lt, mod-eq_of_lt, div-one, arith, pow_pos, shr-shr}
use Rattle.std.proofs.Math.Pow.{split}
use Rattle.std.proofs.lemmas.Nat.{and_mask, xor_shr, xor_mod}
use Rattle.std.specs.Int.Bits.{xor_zero_r}
use Rattle.std.proofs.lemmas.List.FromFn.{length-map-range_with_len, get_or-map-range_with_len}
use Rattle.std.proofs.lemmas.List.{ext_get_or, get_or_past, length-set, get_or-set_same, get_or-set_other}
use Rattle.std.proofs.lemmas.Bool.{cases_eq, cases_lt}
use Rattle.engine.specs.Strings.{xored, Whole as WholeString}
use Rattle.gimli.specs.Four.{by_four, row_of_four}
use Rattle.gimli.specs.Permutation.{row, Whole, WholeRow, permutation}
use Rattle.gimli.specs.Strings.{row_of, byte_at, string, state, gimli}
use Rattle.gimli.specs.declared.state.State.{State}

pub same_state : {s t : State} → s.top ≡ t.top → s.middle ≡ t.middle → s.bottom ≡ t.bottom → s ≡ t
same_state p q r = λ i. record { top = p i; middle = q i; bottom = r i }

-- ---- a string's length and bytes

pub string_long : (s : State) → length (string s) ≡ 48
unfolding string
string_long s = length-map-range_with_len (byte_at s) 0 48

pub string-at : (s : State) (p : ℕ) → p < 48 → slice_index (string s) p ≡ byte_at s p
unfolding string
string-at s p h = get_or-map-range_with_len (byte_at s) 0 48 p p 0 h (omega arith)

byte_small : (s : State) (p : ℕ) → (p < 48) ⊎ (48 ≤ p) → slice_index (string s) p < 256
byte_small s p (inl h) = rw (string-at s p h) (mod-lt _ (pow_pos 8))
byte_small s p (inr h) = let past : length (string s) ≤ p = rw (string_long s) h in rw (get_or_past (string s) p 0 past) (omega arith)

pub string_whole : (s : State) → WholeString (string s)
string_whole s = record { long = string_long s; bytes = λ p. byte_small s p (cases_lt p 48) }

-- two strings of states are equal if their bytes are
pub same_string : (m : List ℕ) (t : State) → length m ≡ 48 → ((p : ℕ) → p < 48 → slice_index m p ≡ byte_at t p) → m ≡ string t
same_string m t long bytes =
    ext_get_or 0 m (string t) (long ∙ sym (string_long t))
    (λ p h. let h48 : p < 48 = rw long at h in bytes p h48 ∙ sym (string-at t p h48))

-- ---- a byte read

pub byte_read : (s : State) (place word : ℕ) → place < 48 → word ≡ slice_index (row_of s (place / 16)) (place % 16 / 4) → bit_and (word / 2 ^ (8 * (place % 4))) 255 ≡ slice_index (string s) place
byte_read s place word h e =
    and_mask (word / 2 ^ (8 * (place % 4))) 8 ∙ ap (λ (w : ℕ). w / 2 ^ (8 * (place % 4)) % 256) e ∙ sym (string-at s place h)

-- ---- a byte changed

-- a state with another row in the place of row i
abbrev pub with_row : State → ℕ → List ℕ → State
with_row s zero r = record { top = r; middle = s.middle; bottom = s.bottom }
with_row s (suc zero) r = record { top = s.top; middle = r; bottom = s.bottom }
with_row s (suc (suc i)) r = record { top = s.top; middle = s.middle; bottom = r }

row-changed : (s : State) (i : ℕ) (r : List ℕ) → row_of (with_row s i r) i ≡ r
row-changed s zero r = refl
row-changed s (suc zero) r = refl
row-changed s (suc (suc i)) r = refl

row_kept : (s : State) (i k : ℕ) (r : List ℕ) → i < 3 → k < 3 → k ≢ i → row_of (with_row s i r) k ≡ row_of s k
row_kept s zero zero r hi hk ne = absurd (ne refl)
row_kept s zero (suc zero) r hi hk ne = refl
row_kept s zero (suc (suc k)) r hi hk ne = refl
row_kept s (suc zero) zero r hi hk ne = refl
row_kept s (suc zero) (suc zero) r hi hk ne = absurd (ne refl)
row_kept s (suc zero) (suc (suc k)) r hi hk ne = refl
row_kept s (suc (suc i)) zero r hi hk ne = refl
row_kept s (suc (suc i)) (suc zero) r hi hk ne = refl
row_kept s (suc (suc i)) (suc (suc k)) r hi hk ne = absurd (ne (omega arith))

-- a byte at byte place m of a word, as seen at m and at another place
abbrev lifted : ℕ → ℕ → ℕ
lifted b m = b * 2 ^ (8 * m) % 2 ^ 32

lifted_here : (b m : ℕ) → b < 256 → m < 4 → lifted b m / 2 ^ (8 * m) % 256 ≡ b
lifted_here b m h = by_four (λ m. lifted b m / 2 ^ (8 * m) % 256 ≡ b) (omega arith) (omega arith) (omega arith) (omega arith) m

lifted_there : (b m n : ℕ) → b < 256 → m < 4 → n < 4 → n ≢ m → lifted b m / 2 ^ (8 * n) % 256 ≡ 0
lifted_there b m n h hm hn =
    by_four (λ m. n ≢ m → lifted b m / 2 ^ (8 * n) % 256 ≡ 0)
    (by_four (λ n. n ≢ 0 → lifted b 0 / 2 ^ (8 * n) % 256 ≡ 0) (λ ne. absurd (ne refl)) (λ ne. omega arith) (λ ne. omega arith) (λ ne. omega arith) n hn)
    (by_four (λ n. n ≢ 1 → lifted b 1 / 2 ^ (8 * n) % 256 ≡ 0) (λ ne. omega arith) (λ ne. absurd (ne refl)) (λ ne. omega arith) (λ ne. omega arith) n hn)
    (by_four (λ n. n ≢ 2 → lifted b 2 / 2 ^ (8 * n) % 256 ≡ 0) (λ ne. omega arith) (λ ne. omega arith) (λ ne. absurd (ne refl)) (λ ne. omega arith) n hn)
    (by_four (λ n. n ≢ 3 → lifted b 3 / 2 ^ (8 * n) % 256 ≡ 0) (λ ne. omega arith) (λ ne. omega arith) (λ ne. omega arith) (λ ne. absurd (ne refl)) n hn)
    m hm

-- a byte of an xor is the xor of the bytes
pub byte_of_xor : (w v k : ℕ) → bit_xor w v / 2 ^ k % 256 ≡ bit_xor (w / 2 ^ k % 256) (v / 2 ^ k % 256)
byte_of_xor w v k = ap (λ (x : ℕ). x % 256) (xor_shr w v k) ∙ xor_mod (w / 2 ^ k) (v / 2 ^ k) 8

-- the word at column j of row i xored with byte b at the byte place of `place`
abbrev changed : State → ℕ → ℕ → ℕ → State
changed s i place b =
    let j = place % 16 / 4 in
    with_row s i (slice_set (row_of s i) j (bit_xor (slice_index (row_of s i) j) (lifted b (place % 4))))

module _ (s : State) (place b : ℕ) (fits : place < 48) (byte : b < 256) (long : length (row_of s (place / 16)) ≡ 4) where
  at_place : byte_at (changed s (place / 16) place b) place ≡ bit_xor (byte_at s place) b
  at_place =
      let j = place % 16 / 4 in
      let r = row_of s (place / 16) in
      let inside : j < length r = rw long (omega arith) in
      ap (λ (r : List ℕ). slice_index r j / 2 ^ (8 * (place % 4)) % 256) (row-changed s (place / 16) _)
      ∙ ap (λ (w : ℕ). w / 2 ^ (8 * (place % 4)) % 256) (get_or-set_same r j _ 0 inside)
      ∙ byte_of_xor (slice_index r j) (lifted b (place % 4)) (8 * (place % 4))
      ∙ ap (bit_xor (byte_at s place)) (lifted_here b (place % 4) byte (omega arith))

  module _ (p : ℕ) (within : p < 48) (ne : p ≢ place) where
    in_word : p / 16 ≡ place / 16 → p % 16 / 4 ≡ place % 16 / 4 → byte_at (changed s (place / 16) place b) p ≡ byte_at s p
    in_word e f =
        let j = place % 16 / 4 in
        let r = row_of s (place / 16) in
        let inside : j < length r = rw long (omega arith) in
        let other : p % 4 ≢ place % 4 = omega (arith) in
        rw (e, f)
        (ap (λ (r : List ℕ). slice_index r j / 2 ^ (8 * (p % 4)) % 256) (row-changed s (place / 16) _)
        ∙ ap (λ (w : ℕ). w / 2 ^ (8 * (p % 4)) % 256) (get_or-set_same r j _ 0 inside)
        ∙ byte_of_xor (slice_index r j) (lifted b (place % 4)) (8 * (p % 4))
        ∙ ap (bit_xor (slice_index r j / 2 ^ (8 * (p % 4)) % 256)) (lifted_there b (place % 4) (p % 4) byte (omega arith) (omega arith) other)
        ∙ xor_zero_r _)

    in_row : p / 16 ≡ place / 16 → p % 16 / 4 ≢ place % 16 / 4 → byte_at (changed s (place / 16) place b) p ≡ byte_at s p
    in_row e f =
        rw e
        (ap (λ (r : List ℕ). slice_index r (p % 16 / 4) / 2 ^ (8 * (p % 4)) % 256) (row-changed s (place / 16) _)
        ∙ ap (λ (w : ℕ). w / 2 ^ (8 * (p % 4)) % 256) (get_or-set_other (row_of s (place / 16)) (place % 16 / 4) (p % 16 / 4) _ 0 f))

    elsewhere : byte_at (changed s (place / 16) place b) p ≡ byte_at s p
    elsewhere =
        ⊎_elim
        (λ e. ⊎_elim (in_word e) (in_row e) (cases_eq (p % 16 / 4) (place % 16 / 4)))
        (λ e. ap (λ (r : List ℕ). slice_index r (p % 16 / 4) / 2 ^ (8 * (p % 4)) % 256) (row_kept s (place / 16) (p / 16) _ (omega arith) (omega arith) e))
        (cases_eq (p / 16) (place / 16))

  byte_changed : (p : ℕ) → p < 48 → (p ≡ place) ⊎ (p ≢ place) → slice_index (xored (string s) place b) p ≡ byte_at (changed s (place / 16) place b) p
  byte_changed p h (inl e) =
      let inside : place < length (string s) = rw (string_long s) fits in
      rw e (get_or-set_same (string s) place _ 0 inside ∙ ap (λ (x : ℕ). bit_xor x b) (string-at s place fits) ∙ sym at_place)
  byte_changed p h (inr ne) =
      get_or-set_other (string s) place p _ 0 ne ∙ string-at s p h ∙ sym (elsewhere p h ne)

  string_xored : xored (string s) place b ≡ string (changed s (place / 16) place b)
  string_xored =
      same_string (xored (string s) place b) (changed s (place / 16) place b)
      (length-set (string s) place _ ∙ string_long s) (λ p h. byte_changed p h (cases_eq p place))

-- xor_byte of a state: row i of the place changed at one word changes the string at the place alone
pub row-xored : (s : State) (place b bits i : ℕ) → place < 48 → b < 256 → bits ≡ b → place / 16 ≡ i → length (row_of s i) ≡ 4 → string (changed s i place bits) ≡ xored (string s) place b
row-xored s place b bits i h byte same e long =
    let long' : length (row_of s (place / 16)) ≡ 4 = rw e long in
    rw (same, ← e) (sym (string_xored s place b h byte long'))

-- ---- a state read back

-- a word from its bytes
abbrev rejoined : ℕ → ℕ
rejoined w = w / 1 % 256 + w / 256 % 256 * 256 + w / 65536 % 256 * 65536 + w / 16777216 % 256 * 16777216

rejoined_is : (w : ℕ) → w < 2 ^ 32 → rejoined w ≡ w
rejoined_is w h =
    let low = split w 8 in
    let second : w / 65536 * 256 + w / 256 % 256 ≡ w / 256 = rw (← shr-shr w 8 8) (split (w / 256) 8) in
    let third : w / 16777216 * 256 + w / 65536 % 256 ≡ w / 65536 = rw (← shr-shr w 16 8) (split (w / 65536) 8) in
    let high : w / 16777216 % 256 ≡ w / 16777216 = mod-eq_of_lt (omega arith) in
    omega (arith, div-one w)

row-rejoined : (r : List ℕ) → WholeRow r → row (λ j. rejoined (slice_index r j)) ≡ r
row-rejoined r whole =
    (λ i. row (λ j. rejoined_is (slice_index r j) (whole.words j) i)) ∙ row_of_four r whole.long

pub state_back : (s : State) → Whole s → state (string s) ≡ s
unfolding state string
state_back s whole = same_state (row-rejoined s.top whole.top) (row-rejoined s.middle whole.middle) (row-rejoined s.bottom whole.bottom)

-- the rule on a state's string is the permutation on the state
pub permuted_string : (s t : State) → Whole s → t ≡ permutation s → string t ≡ gimli (string s)
unfolding gimli
permuted_string s t whole e = ap string e ∙ ap (λ (x : State). string (permutation x)) (sym (state_back s whole))

pub gimli_whole : (m : List ℕ) → WholeString (gimli m)
unfolding gimli
gimli_whole m = string_whole (permutation (state m))
