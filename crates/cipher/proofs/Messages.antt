-- A box and its message: each gives the other.
use Rattle.std.proofs.Common.{◌≡◌, ℕ, ◌+◌, List, ◌++◌, length, take, drop, Result, sym, refl, ap, ◌∙◌, subst, inl, inr, arith}
use Rattle.std.proofs.lemmas.List.{length-append, length-take, length-take-le, take_at, drop_at, get_or-take, get_or_past}
use Rattle.std.proofs.lemmas.Bool.{cases_lt}
use Rattle.engine.specs.Strings.{Bytes, Whole}
use Rattle.engine.specs.declared.refusal.Refusal.{Refusal}
use Rattle.sponge.specs.Blocks.{rate, absorbed, boxed, sealed_box}
use Rattle.sponge.specs.Steps.{State, at, absorb_piece, absorbing}
use Rattle.cipher.specs.Boxes.{Boxes}
use Rattle.cipher.specs.Ciphering.{cipher_piece, Deciphers, Tags}
use Rattle.cipher.specs.Openings.{Opened, Opens}
use Rattle.cipher.proofs.Ciphertexts.{length_cipher_piece, cipher_piece_apart, ciphertext_bytewise, bytes_from_ciphertext}
use Rattle.cipher.proofs.Steady.{steady_at, steady_piece, whole_padded}
use Rattle.cipher.proofs.Tags.{padded_absorbed}

pub bytes_take : (n : ℕ) (m : List ℕ) → Bytes m → Bytes (take n m)
bytes_take n m h i =
    elim (cases_lt i n) [
      | inl k ↦ omega (arith, h i, get_or-take n m i 0 k)
      | inr k ↦ omega (arith, get_or_past (take n m) i 0 (simp length-take (omega arith)))
    ]

module _ (rule : List ℕ → List ℕ) (keeps : (s : List ℕ) → Whole s → Whole (rule s)) where
  pub whole_absorbed : (s m : List ℕ) → Whole s → Bytes m → Whole (absorbed rule s m)
  whole_absorbed s m w h = subst Whole (padded_absorbed rule s m (absorbing rule s m) refl) (whole_padded rule keeps _ (steady_piece rule keeps _ m (steady_at s w) h))

  module _ (s : List ℕ) (w : Whole s) where
    boxed_bytewise : (m : List ℕ) → Bytes m → boxed rule s m ≡ cipher_piece rule (at s 0) m ++ take rate (absorbed rule s m)
    unfolding boxed
    boxed_bytewise m h = ap (λ (x : List ℕ). x ++ take rate (absorbed rule s m)) (ciphertext_bytewise rule keeps s m w h)

    length_boxed : (m : List ℕ) → Bytes m → length (boxed rule s m) ≡ length m + rate
    length_boxed m h =
        let long = (whole_absorbed s m w h).long in
        let text = length_cipher_piece rule (at s 0) m in
        let tag = length-take-le rate (absorbed rule s m) (omega arith) in
        ap length (boxed_bytewise m h) ∙ length-append (cipher_piece rule (at s 0) m) (take rate (absorbed rule s m)) ∙ omega arith

    boxed_text : (m : List ℕ) (n : ℕ) → length m ≡ n → Bytes m → take n (boxed rule s m) ≡ cipher_piece rule (at s 0) m
    boxed_text m n e h = ap (take n) (boxed_bytewise m h) ∙ take_at _ _ n (length_cipher_piece rule (at s 0) m ∙ e)

    boxed_tag : (m : List ℕ) (n : ℕ) → length m ≡ n → Bytes m → drop n (boxed rule s m) ≡ take rate (absorbed rule s m)
    boxed_tag m n e h = ap (drop n) (boxed_bytewise m h) ∙ drop_at _ _ n (length_cipher_piece rule (at s 0) m ∙ e)

    boxed_apart : (m m' : List ℕ) → Bytes m → Bytes m' → boxed rule s m ≡ boxed rule s m' → m ≡ m'
    boxed_apart m m' h h' e =
        let long : length m ≡ length m' = omega (arith, length_boxed m h, length_boxed m' h', ap length e) in
        cipher_piece_apart rule (at s 0) m m' (sym (boxed_text m (length m) refl h) ∙ ap (take (length m)) e ∙ boxed_text m' (length m) (sym long) h')

    module _ (z : List ℕ) (bytes : Bytes z) where
      -- the message of a string of bytes is one
      message_bytes : (m : List ℕ) → z ≡ boxed rule s m → Bytes m
      unfolding boxed
      message_bytes m e = bytes_from_ciphertext rule keeps s m (take rate (absorbed rule s m)) z w bytes e

      message_long : (m : List ℕ) → z ≡ boxed rule s m → length z ≡ length m + rate
      message_long m e = ap length e ∙ length_boxed m (message_bytes m e)

      message_sole : (m m' : List ℕ) → z ≡ boxed rule s m → z ≡ boxed rule s m' → m ≡ m'
      message_sole m m' e e' = boxed_apart m m' (message_bytes m e) (message_bytes m' e') (sym e ∙ e')

      -- a string of a text and a tag; the text is deciphered, and the tag of its message is found
      module _ (p q : State) (text end before after tag : List ℕ) (start : p ≡ at s 0) (parts : z ≡ text ++ end) (d : Deciphers rule p text before after q) (t : Tags rule q tag) where
        abbrev found : List ℕ
        found = take (length text) after

        found_text : text ≡ cipher_piece rule (at s 0) found
        found_text = d.piece ∙ ap (λ (o : State). cipher_piece rule o found) start

        found_tag : tag ≡ take rate (absorbed rule s found)
        found_tag = t.whole s found (d.state ∙ ap (λ (o : State). absorb_piece rule o found) start)

        -- where the tags are equal, the string is the box of the message
        pub is_box : Bytes found → tag ≡ end → z ≡ boxed rule s found
        is_box h same =
            parts
            ∙ ap (λ (x : List ℕ). x ++ end) found_text
            ∙ ap (λ (x : List ℕ). cipher_piece rule (at s 0) found ++ x) (sym same ∙ found_tag)
            ∙ sym (boxed_bytewise found h)

        -- where they differ, it is the box of no message
        pub no_box : length end ≡ rate → (tag ≡ end → ⊥) → (m : List ℕ) → z ≡ boxed rule s m → ⊥
        no_box short other m e =
            let h = message_bytes m e in
            let fits : length m ≡ length text = omega (arith, message_long m e, ap length parts ∙ length-append text end) in
            let same : found ≡ m = cipher_piece_apart rule (at s 0) found m (sym found_text ∙ sym (take_at text end (length text) refl) ∙ ap (take (length text)) (sym parts ∙ e) ∙ boxed_text m (length text) fits h) in
            let last : end ≡ take rate (absorbed rule s m) = sym (drop_at text end (length text) refl) ∙ ap (drop (length text)) (sym parts ∙ e) ∙ boxed_tag m (length text) fits h in
            other (found_tag ∙ ap (λ (x : List ℕ). take rate (absorbed rule s x)) same ∙ sym last)

  -- what an opening answers, with what holds of its box
  pub opens : (p : State) (z before after : List ℕ) (r : Result ℕ Refusal) → Whole p.string → Bytes z → ((s : List ℕ) → Whole s → p ≡ at s 0 → Opened rule s z before after r) → (s : List ℕ) → p ≡ at s 0 → Opens rule s z before after r
  opens p z before after r w h answer s e =
      let here : Whole s = subst Whole (ap (λ (q : State). q.string) e) w in
      record {
        answer = answer s here e;
        long = message_long s here z h;
        sole = message_sole s here z h;
      }

  pub boxes : (key nonce : List ℕ) → Whole (rule (nonce ++ key)) → Boxes rule key nonce
  unfolding sealed_box
  boxes key nonce w = record {
    long = λ ad m h k. length_boxed _ (whole_absorbed _ ad w h) m k;
    apart = λ ad m m' h k k' e. boxed_apart _ (whole_absorbed _ ad w h) m m' k k' e;
  }
