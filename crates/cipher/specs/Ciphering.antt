-- A message byte by byte, over any rule.
use Rattle.std.specs.Prelude.{◌≡◌, ℕ, List, [], ◌∷◌, ◌++◌, length, take, drop, bit_xor, slice_index}
use Rattle.sponge.specs.Blocks.{rate, absorbed, ciphertext, boxed}
use Rattle.sponge.specs.Calls.{Absorbs}
use Rattle.sponge.specs.Steps.{State, absorb_byte, absorb_piece, padded, absorbing}

-- a byte under the state's byte at the place: a message's byte becomes that of its ciphertext, and back
abbrev pub keyed : State → ℕ → ℕ
keyed p b = bit_xor (slice_index p.string p.place) b

module _ (rule : List ℕ → List ℕ) where
  -- the ciphertext of a piece, byte after byte
  abbrev pub cipher_piece : State → List ℕ → List ℕ
  cipher_piece p [] = []
  cipher_piece p (b ∷ bs) = keyed p b ∷ cipher_piece (absorb_byte rule p b) bs

  -- a piece ciphered into a buffer, from the state p to q
  pub record Ciphers (p : State) (piece before after : List ℕ) (q : State) : Type 0 where
    -- the buffer's first bytes are the ciphertext, and the rest stays
    pub buffer : after ≡ cipher_piece p piece ++ drop (length piece) before
    pub state : Absorbs rule p piece q
    -- the ciphertexts of a message's pieces, joined, are the ciphertext of the message, as its blocks have it
    pub whole : (s m : List ℕ) → p ≡ absorbing rule s m → ciphertext rule s (m ++ piece) ≡ ciphertext rule s m ++ take (length piece) after

  -- a text deciphered into a buffer, from the state p to q
  pub record Deciphers (p : State) (text before after : List ℕ) (q : State) : Type 0 where
    -- the buffer's first bytes are the piece that has the text for its ciphertext, and the rest stays
    pub piece : text ≡ cipher_piece p (take (length text) after)
    pub rest : drop (length text) after ≡ drop (length text) before
    pub state : q ≡ absorb_piece rule p (take (length text) after)

  -- the tag of a message that ends in the state p
  pub record Tags (p : State) (tag : List ℕ) : Type 0 where
    -- the first bytes of the state, its last block ended
    pub bytewise : tag ≡ take rate (padded rule p).string
    -- ciphertext and tag make the box of the message, as its blocks have it
    pub whole : (s m : List ℕ) → p ≡ absorbing rule s m → tag ≡ take rate (absorbed rule s m)
    pub box : (s m : List ℕ) → p ≡ absorbing rule s m → ciphertext rule s m ++ tag ≡ boxed rule s m
