-- Bytes given out one by one, in any pieces, are the bytes given out by blocks.
use Rattle.std.proofs.Common.{◌≡◌, ℕ, zero, suc, ◌+◌, ◌-◌, ◌*◌, ◌/◌, ◌%◌, ◌<◌, List, [], ◌∷◌, ◌++◌, length, get_or, take, set, sym, refl, ap, ◌∙◌, inl, inr, zero-add, arith}
use Rattle.engine.specs.Strings.{Whole}
use Rattle.std.proofs.lemmas.List.{append-nil, append_assoc, length-append, length-take-le, take-append-le, take_more, take_more_set, get_or-take, get_or-append_right}
use Rattle.std.proofs.lemmas.Bool.{cases_eq}
use Rattle.sponge.specs.Blocks.{rate, squeezed, stream}
use Rattle.sponge.specs.Steps.{State, at, byte_of, advanced, squeeze_bytes, squeeze_state, squeezing}
use Rattle.sponge.specs.Calls.{Squeezes}
use Rattle.sponge.proofs.Advance.{advanced_end, advanced_within}

module _ (rule : List ℕ → List ℕ) where
  -- the rule applied n times
  unfoldable turned : ℕ → List ℕ → List ℕ
  turned zero s = s
  turned (suc n) s = turned n (rule s)

  -- s with n bytes given out by blocks
  unfoldable by_blocks : List ℕ → ℕ → State
  by_blocks s n = at (turned (n / rate) s) (n % rate)

  turned_more : (n : ℕ) (s : List ℕ) → turned (suc n) s ≡ rule (turned n s)
  unfolding turned
  turned_more zero s = refl
  turned_more (suc n) s = turned_more n (rule s)

  -- the last of several blocks
  squeezed_more : (n : ℕ) (s : List ℕ) → squeezed rule (suc n) s ≡ squeezed rule n s ++ take rate (turned n s)
  unfolding squeezed turned
  squeezed_more zero s = append-nil (take rate s)
  squeezed_more (suc n) s =
      ap (λ (x : List ℕ). take rate s ++ x) (squeezed_more n (rule s))
      ∙ sym (append_assoc (take rate s) (squeezed rule n (rule s)) (take rate (turned n (rule s))))

  by_blocks_at : (s : List ℕ) (n q r : ℕ) → n / rate ≡ q → n % rate ≡ r → by_blocks s n ≡ at (turned q s) r
  unfolding by_blocks
  by_blocks_at s n q r e f = ap (λ (k : ℕ). at (turned k s) (n % rate)) e ∙ ap (λ (i : ℕ). at (turned q s) i) f

  -- one byte more given out
  by_blocks_push : (s : List ℕ) (n : ℕ) → advanced rule (by_blocks s n) ≡ by_blocks s (n + 1)
  by_blocks_push s n =
      let q = n / rate in
      let r = n % rate in
      let now = ap (advanced rule) (by_blocks_at s n q r refl refl) in
      elim (cases_eq (r + 1) rate) [
        | inl e ↦
            now ∙ advanced_end rule _ r e
            ∙ ap (λ (x : List ℕ). at x 0) (sym (turned_more q s))
            ∙ sym (by_blocks_at s (n + 1) (suc q) 0 (omega arith) (omega arith))
        | inr e ↦ now ∙ advanced_within rule _ r e ∙ sym (by_blocks_at s (n + 1) q (r + 1) (omega arith) (omega arith))
      ]

  -- a piece more given out
  by_blocks_append : (s : List ℕ) (n k : ℕ) → squeeze_state rule k (by_blocks s n) ≡ by_blocks s (n + k)
  by_blocks_append s n zero = ap (by_blocks s) (omega arith)
  by_blocks_append s n (suc k) =
      ap (squeeze_state rule k) (by_blocks_push s n) ∙ by_blocks_append s (n + 1) k ∙ ap (by_blocks s) (omega arith)

  module _ (keeps : (s : List ℕ) → Whole s → Whole (rule s)) where
    block_long : (s : List ℕ) → Whole s → length (take rate s) ≡ rate
    block_long s w = let long = w.long in length-take-le rate s (omega arith)

    length_squeezed : (n : ℕ) (s : List ℕ) → Whole s → length (squeezed rule n s) ≡ rate * n
    unfolding squeezed
    length_squeezed zero s w = refl
    length_squeezed (suc n) s w =
        let rest = length_squeezed n (rule s) (keeps s w) in
        let block = block_long s w in
        length-append (take rate s) (squeezed rule n (rule s)) ∙ omega arith

    -- one byte more of the stream
    stream_push : (s : List ℕ) (n : ℕ) → Whole s → stream rule s (n + 1) ≡ stream rule s n ++ get_or (by_blocks s n).string (by_blocks s n).place 0 ∷ []
    unfolding by_blocks
    stream_push s n w =
        let q = n / rate in
        let r = n % rate in
        let x = squeezed rule (q + 1) s in
        let long : length x ≡ rate * (q + 1) = length_squeezed (q + 1) s w in
        let front : length (squeezed rule q s) ≡ rate * q = length_squeezed q s w in
        let blocks : x ≡ squeezed rule q s ++ take rate (turned q s) = ap (λ (k : ℕ). squeezed rule k s) (omega arith) ∙ squeezed_more q s in
        let byte : get_or x n 0 ≡ get_or (turned q s) r 0 =
        ap (λ (y : List ℕ). get_or y n 0) blocks
        ∙ get_or-append_right (squeezed rule q s) (take rate (turned q s)) (rate * q) n 0 front (omega arith)
        ∙ ap (λ (i : ℕ). get_or (take rate (turned q s)) i 0) (omega arith)
        ∙ get_or-take rate (turned q s) r 0 (omega arith) in
        let same : take (n + 1) (squeezed rule ((n + 1) / rate + 1) s) ≡ take (n + 1) x =
        elim (cases_eq (r + 1) rate) [
          | inl e ↦
              ap (λ (k : ℕ). take (n + 1) (squeezed rule k s)) (omega arith)
              ∙ ap (take (n + 1)) (squeezed_more (q + 1) s)
              ∙ take-append-le (n + 1) x _ (omega arith)
          | inr e ↦ ap (λ (k : ℕ). take (n + 1) (squeezed rule k s)) (omega arith)
        ] in
        same
        ∙ take_more x n 0 (omega arith)
        ∙ ap (λ (b : ℕ). take n x ++ b ∷ []) byte

    -- a piece more of the stream
    stream_append : (s : List ℕ) (n k : ℕ) → Whole s → stream rule s (n + k) ≡ stream rule s n ++ squeeze_bytes rule k (by_blocks s n)
    stream_append s n zero w = ap (stream rule s) (omega arith) ∙ sym (append-nil (stream rule s n))
    stream_append s n (suc k) w =
        ap (stream rule s) (omega arith)
        ∙ stream_append s (n + 1) k w
        ∙ ap (λ (x : List ℕ). x ++ squeeze_bytes rule k (by_blocks s (n + 1))) (stream_push s n w)
        ∙ append_assoc (stream rule s n) (_ ∷ []) (squeeze_bytes rule k (by_blocks s (n + 1)))
        ∙ ap (λ (p : State). stream rule s n ++ get_or (by_blocks s n).string (by_blocks s n).place 0 ∷ squeeze_bytes rule k p) (sym (by_blocks_push s n))

  -- a loop that fills a buffer with n bytes: one byte more
  pub next_out : (out : List ℕ) (n i b : ℕ) (p q : State) → i < n → length out ≡ n → b ≡ byte_of p → q ≡ advanced rule p → take (i + 1) (set out i b) ++ squeeze_bytes rule (n - (i + 1)) q ≡ take i out ++ squeeze_bytes rule (n - i) p
  next_out out n i b p q within long read moved =
      let k = n - (i + 1) in
      let inside : i < length out = omega arith in
      let more : suc k ≡ n - i = omega arith in
      ap (λ (x : List ℕ). x ++ squeeze_bytes rule k q) (take_more_set out i b inside)
      ∙ append_assoc (take i out) (b ∷ []) (squeeze_bytes rule k q)
      ∙ ap (λ (r : State). take i out ++ b ∷ squeeze_bytes rule k r) moved
      ∙ ap (λ (x : ℕ). take i out ++ x ∷ squeeze_bytes rule k (advanced rule p)) read
      ∙ ap (λ (j : ℕ). take i out ++ squeeze_bytes rule j p) more

  pub next_state : (n i : ℕ) (p q : State) → i < n → q ≡ advanced rule p → squeeze_state rule (n - (i + 1)) q ≡ squeeze_state rule (n - i) p
  next_state n i p q within moved =
      let more : suc (n - (i + 1)) ≡ n - i = omega arith in
      ap (squeeze_state rule (n - (i + 1))) moved ∙ ap (λ (j : ℕ). squeeze_state rule j p) more

  -- bytes given out one piece after another are given out in one piece
  squeeze_state_add : (n k : ℕ) (p : State) → squeeze_state rule (n + k) p ≡ squeeze_state rule k (squeeze_state rule n p)
  squeeze_state_add zero k p = let e : 0 + k ≡ k = omega arith in ap (λ (i : ℕ). squeeze_state rule i p) e
  squeeze_state_add (suc n) k p =
      let e : suc n + k ≡ suc (n + k) = omega arith in
      ap (λ (i : ℕ). squeeze_state rule i p) e ∙ squeeze_state_add n k (advanced rule p)

  squeeze_bytes_add : (n k : ℕ) (p : State) → squeeze_bytes rule (n + k) p ≡ squeeze_bytes rule n p ++ squeeze_bytes rule k (squeeze_state rule n p)
  squeeze_bytes_add zero k p = let e : 0 + k ≡ k = omega arith in ap (λ (i : ℕ). squeeze_bytes rule i p) e
  squeeze_bytes_add (suc n) k p =
      let e : suc n + k ≡ suc (n + k) = omega arith in
      ap (λ (i : ℕ). squeeze_bytes rule i p) e ∙ ap (λ (x : List ℕ). get_or p.string p.place 0 ∷ x) (squeeze_bytes_add n k (advanced rule p))

  squeezing_by_blocks : (s : List ℕ) (n : ℕ) → squeezing rule s n ≡ by_blocks s n
  unfolding by_blocks turned
  squeezing_by_blocks s n = by_blocks_append s 0 n ∙ ap (by_blocks s) (zero-add n)

  pub squeezes : ((s : List ℕ) → Whole s → Whole (rule s)) → (p : State) (out : List ℕ) (q : State) → out ≡ squeeze_bytes rule (length out) p → q ≡ squeeze_state rule (length out) p → Squeezes rule p out q
  squeezes keeps p out q e f =
      let k = length out in
      let next : (s : List ℕ) (n : ℕ) → Whole s → p ≡ squeezing rule s n → stream rule s (n + k) ≡ stream rule s n ++ out =
      λ s n w h. stream_append keeps s n k w ∙ ap (λ (x : List ℕ). stream rule s n ++ x) (sym (e ∙ ap (squeeze_bytes rule k) (h ∙ squeezing_by_blocks s n))) in
      record {
        bytewise = e;
        state = f;
        piecewise = λ o n h. squeeze_bytes_add n k o ∙ ap (λ (x : List ℕ). squeeze_bytes rule n o ++ x) (sym (e ∙ ap (squeeze_bytes rule k) h));
        piecewise_state = λ o n h. f ∙ ap (squeeze_state rule k) h ∙ sym (squeeze_state_add n k o);
        first = λ s w h. sym (next s 0 w h) ∙ ap (stream rule s) (zero-add k);
        next = next;
      }
