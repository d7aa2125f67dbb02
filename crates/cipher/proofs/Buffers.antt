-- A piece ciphered or deciphered in a buffer: one byte more, and the whole piece.
use Rattle.std.proofs.Common.{◌≡◌, ℕ, ◌+◌, ◌<◌, List, [], ◌∷◌, ◌++◌, length, get_or, take, drop, set, sym, ap, ◌∙◌, arith}
use lib.Bits.{bit_xor}
use Rattle.std.proofs.lemmas.List.{append_assoc, length-take-le, set_at, take_at, take_more, take_more_set, drop_more, drop-drop, drop-set-lt}
use Rattle.engine.specs.Strings.{Bytes, Whole}
use Rattle.sponge.specs.Blocks.{ciphertext}
use Rattle.sponge.specs.Steps.{State, absorb_byte, absorb_piece}
use Rattle.sponge.proofs.Absorbing.{absorbs, absorb_piece_append}
use Rattle.cipher.specs.Ciphering.{keyed, cipher_piece, Ciphers}
use Rattle.cipher.proofs.Ciphertexts.{cipher_piece_append, length_cipher_piece, pieces_join}
use Rattle.cipher.proofs.Steady.{Steady}
use Rattle.cipher.proofs.Xor.{xor_twice}

module _ (rule : List ℕ → List ℕ) where
  -- one byte more of a piece m that led from the state p to the state here
  module _ (p here : State) (m : List ℕ) (b : ℕ) (led : here ≡ absorb_piece rule p m) where
    cipher_push : cipher_piece rule p (m ++ b ∷ []) ≡ cipher_piece rule p m ++ keyed here b ∷ []
    cipher_push = cipher_piece_append rule p m (b ∷ []) ∙ ap (λ (q : State). cipher_piece rule p m ++ keyed q b ∷ []) (sym led)

    absorb_push : absorb_byte rule here b ≡ absorb_piece rule p (m ++ b ∷ [])
    absorb_push = ap (λ (q : State). absorb_byte rule q b) led ∙ sym (absorb_piece_append rule p m (b ∷ []))

  module _ (p here there : State) (piece before buffer : List ℕ) (i v : ℕ) (within : i < length piece) (room : i < length before) (led : here ≡ absorb_piece rule p (take i piece)) where
    pub ciphered_next : buffer ≡ cipher_piece rule p (take i piece) ++ drop i before → v ≡ keyed here (get_or piece i 0) → set buffer i v ≡ cipher_piece rule p (take (i + 1) piece) ++ drop (i + 1) before
    ciphered_next was is =
        let front = cipher_piece rule p (take i piece) in
        let long : length front ≡ i = length_cipher_piece rule p (take i piece) ∙ length-take-le i piece (omega arith) in
        ap (λ (x : List ℕ). set x i v) (was ∙ ap (λ (x : List ℕ). front ++ x) (drop_more before i 0 room))
        ∙ set_at front _ (drop (i + 1) before) v i long
        ∙ sym (append_assoc front (v ∷ []) (drop (i + 1) before))
        ∙ ap (λ (x : ℕ). (front ++ x ∷ []) ++ drop (i + 1) before) is
        ∙ ap (λ (x : List ℕ). x ++ drop (i + 1) before) (sym (ap (cipher_piece rule p) (take_more piece i 0 within) ∙ cipher_push p here (take i piece) (get_or piece i 0) led))

    pub absorbed_next : there ≡ absorb_byte rule here (get_or piece i 0) → there ≡ absorb_piece rule p (take (i + 1) piece)
    absorbed_next is = is ∙ absorb_push p here (take i piece) (get_or piece i 0) led ∙ ap (absorb_piece rule p) (sym (take_more piece i 0 within))

  module _ (p here there : State) (text before buffer : List ℕ) (i b : ℕ) (within : i < length text) (room : i < length buffer) (led : here ≡ absorb_piece rule p (take i buffer)) where
    front_next : take (i + 1) (set buffer i b) ≡ take i buffer ++ b ∷ []
    front_next = take_more_set buffer i b room

    pub deciphered_next : take i text ≡ cipher_piece rule p (take i buffer) → b ≡ keyed here (get_or text i 0) → take (i + 1) text ≡ cipher_piece rule p (take (i + 1) (set buffer i b))
    deciphered_next was is =
        let k = get_or here.string here.place 0 in
        take_more text i 0 within
        ∙ ap (λ (x : List ℕ). x ++ get_or text i 0 ∷ []) was
        ∙ ap (λ (x : ℕ). cipher_piece rule p (take i buffer) ++ x ∷ []) (sym (ap (bit_xor k) is ∙ xor_twice k (get_or text i 0)))
        ∙ sym (cipher_push p here (take i buffer) b led)
        ∙ ap (cipher_piece rule p) (sym front_next)

    pub rest_next : drop i buffer ≡ drop i before → drop (i + 1) (set buffer i b) ≡ drop (i + 1) before
    rest_next was = drop-set-lt (i + 1) buffer i b (omega arith) ∙ sym (drop-drop 1 i buffer) ∙ ap (drop 1) was ∙ drop-drop 1 i before

    pub taken_next : there ≡ absorb_byte rule here b → there ≡ absorb_piece rule p (take (i + 1) (set buffer i b))
    taken_next is = is ∙ absorb_push p here (take i buffer) b led ∙ ap (absorb_piece rule p) (sym front_next)

  pub ciphers : ((s : List ℕ) → Whole s → Whole (rule s)) → (p : State) (piece before after : List ℕ) (q : State) → Steady p → Bytes piece → after ≡ cipher_piece rule p piece ++ drop (length piece) before → q ≡ absorb_piece rule p piece → Ciphers rule p piece before after q
  ciphers keeps p piece before after q w h e f =
      let text : cipher_piece rule p piece ≡ take (length piece) after =
      sym (ap (take (length piece)) e ∙ take_at (cipher_piece rule p piece) _ (length piece) (length_cipher_piece rule p piece)) in
      record {
        buffer = e;
        state = absorbs rule p piece q f;
        whole = λ s m led. pieces_join rule keeps s m piece p led w h ∙ ap (λ (x : List ℕ). ciphertext rule s m ++ x) text;
      }
