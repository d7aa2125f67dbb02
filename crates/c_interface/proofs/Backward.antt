-- A string of 48 bytes read as a state, and one of three times 48 bytes read as three shares, and written back.
use Rattle.std.proofs.Common.{◌≡◌, ℕ, zero, suc, ◌+◌, ◌*◌, ◌/◌, ◌%◌, ◌^◌, ◌<◌, List, ◌++◌, length, get_or, take, drop, sym, refl, ap, ◌∙◌, inl, inr, add-zero, arith}
use Rattle.std.proofs.lemmas.List.{drop-drop, get_or-drop, get_or_past, get_or-take, length-drop, length-take, length-take-le, take_all, take-append-drop}
use Rattle.std.proofs.lemmas.Bool.{cases_lt}
use Rattle.engine.specs.Strings.{Bytes}
use Rattle.gimli.specs.Permutation.{Whole}
use Rattle.gimli.specs.Shares.{WholeShares}
use Rattle.gimli.specs.Strings.{row_of, byte_at, string, word_at, state}
use Rattle.gimli.specs.Four.{by_four, row_whole}
use Rattle.gimli.specs.StringsLemmas.{same_string}
use Rattle.c_interface.specs.Permuting.{sharing, sharing_string}

module _ (m : List ℕ) where
  -- the words of the state are those of the string
  word_of : (i j : ℕ) → i < 3 → j < 4 → get_or (row_of (state m) i) j 0 ≡ word_at m (16 * i + 4 * j)
  unfolding state
  word_of zero j hi hj = by_four (λ j. get_or (row_of (state m) 0) j 0 ≡ word_at m (16 * 0 + 4 * j)) refl refl refl refl j hj
  word_of (suc zero) j hi hj = by_four (λ j. get_or (row_of (state m) 1) j 0 ≡ word_at m (16 * 1 + 4 * j)) refl refl refl refl j hj
  word_of (suc (suc zero)) j hi hj = by_four (λ j. get_or (row_of (state m) 2) j 0 ≡ word_at m (16 * 2 + 4 * j)) refl refl refl refl j hj
  word_of (suc (suc (suc i))) j hi hj = absurd (omega arith)

  module _ (small : Bytes m) where
    -- the bytes of a word of the string are those of the string
    byte_of_word : (q k : ℕ) → k < 4 → word_at m q / 2 ^ (8 * k) % 256 ≡ get_or m (q + k) 0
    byte_of_word q =
        let b0 = small q in
        let b1 = small (q + 1) in
        let b2 = small (q + 2) in
        let b3 = small (q + 3) in
        by_four (λ k. word_at m q / 2 ^ (8 * k) % 256 ≡ get_or m (q + k) 0) (rw add-zero (omega arith)) (omega arith) (omega arith) (omega arith)

    byte_back : (p : ℕ) → p < 48 → get_or m p 0 ≡ byte_at (state m) p
    byte_back p h =
        let place : 16 * (p / 16) + 4 * (p % 16 / 4) + p % 4 ≡ p = omega arith in
        sym
        (ap (λ (w : ℕ). w / 2 ^ (8 * (p % 4)) % 256) (word_of (p / 16) (p % 16 / 4) (omega arith) (omega arith))
        ∙ byte_of_word (16 * (p / 16) + 4 * (p % 16 / 4)) (p % 4) (omega arith)
        ∙ ap (λ (k : ℕ). get_or m k 0) place)

    pub string_back : length m ≡ 48 → string (state m) ≡ m
    string_back long = sym (same_string m (state m) long byte_back)

    word_small : (q : ℕ) → word_at m q < 2 ^ 32
    word_small q =
        let b0 = small q in
        let b1 = small (q + 1) in
        let b2 = small (q + 2) in
        let b3 = small (q + 3) in
        omega arith

    pub state_whole : Whole (state m)
    unfolding state
    state_whole = record {
      top = row_whole (λ j. word_at m (4 * j)) (λ j. word_small (4 * j));
      middle = row_whole (λ j. word_at m (16 + 4 * j)) (λ j. word_small (16 + 4 * j));
      bottom = row_whole (λ j. word_at m (32 + 4 * j)) (λ j. word_small (32 + 4 * j));
    }

-- ---- three states in one string

take_small : (m : List ℕ) (n : ℕ) → Bytes m → Bytes (take n m)
take_small m n small i =
    elim (cases_lt i n) [
      | inl h ↦ let e = get_or-take n m i 0 h in let b = small i in omega arith
      | inr h ↦ let e = get_or_past (take n m) i 0 (let l = length-take n m in omega arith) in omega arith
    ]

drop_small : (m : List ℕ) (n : ℕ) → Bytes m → Bytes (drop n m)
drop_small m n small i = let e = get_or-drop n m i 0 in let b = small (n + i) in omega arith

module _ (m : List ℕ) (small : Bytes m) where
  small_first : Bytes (take 48 (drop 48 m))
  small_first = take_small (drop 48 m) 48 (drop_small m 48 small)

  small_second : Bytes (take 48 (drop 96 m))
  small_second = take_small (drop 96 m) 48 (drop_small m 96 small)

  pub sharing_whole : WholeShares (sharing m)
  sharing_whole = record {
    zeroth = state_whole (take 48 m) (take_small m 48 small);
    first = state_whole (take 48 (drop 48 m)) small_first;
    second = state_whole (take 48 (drop 96 m)) small_second;
  }

  pub sharing_back : length m ≡ 144 → sharing_string (sharing m) ≡ m
  sharing_back long =
      let x = take 48 m in
      let y = take 48 (drop 48 m) in
      let z = take 48 (drop 96 m) in
      let long_x : length x ≡ 48 = length-take-le 48 m (omega arith) in
      let long_y : length y ≡ 48 = length-take-le 48 (drop 48 m) (let l = length-drop 48 m in omega arith) in
      let long_z : length z ≡ 48 = length-take-le 48 (drop 96 m) (let l = length-drop 96 m in omega arith) in
      let end : z ≡ drop 48 (drop 48 m) = take_all 48 (drop 96 m) (let l = length-drop 96 m in omega arith) ∙ sym (drop-drop 48 48 m) in
      ap (λ (t : List ℕ). t ++ (string (state y) ++ string (state z))) (string_back x (take_small m 48 small) long_x)
      ∙ ap (λ (t : List ℕ). x ++ (t ++ string (state z))) (string_back y small_first long_y)
      ∙ ap (λ (t : List ℕ). x ++ (y ++ t)) (string_back z small_second long_z ∙ end)
      ∙ ap (λ (t : List ℕ). x ++ t) (take-append-drop 48 (drop 48 m))
      ∙ take-append-drop 48 m
