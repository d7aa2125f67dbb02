-- Gimli-24-Hash and Gimli-24-Cipher, on a state of three rows of four words.
use Rattle.std.specs.Prelude.{ℕ, zero, suc, ◌+◌, ◌-◌, ◌*◌, ◌/◌, ◌%◌, ◌^◌, List, [], ◌∷◌, ◌++◌, length, take, drop, replicate, bit_xor, slice_index, slice_set}
use Rattle.gimli.specs.Permutation.{row, permutation}
use Rattle.gimli.specs.Strings.{word_at}
use Rattle.gimli.specs.declared.state.State.{State}

-- the four bytes of a word, the lowest first
abbrev pub word_bytes : ℕ → List ℕ
word_bytes w = w / 2 ^ 0 % 256 ∷ w / 2 ^ 8 % 256 ∷ w / 2 ^ 16 % 256 ∷ w / 2 ^ 24 % 256 ∷ []

-- the state of zeros
abbrev pub zero_state : State
zero_state = record { top = row (λ j. 0); middle = row (λ j. 0); bottom = row (λ j. 0) }

-- the state of a nonce of 16 bytes, in row 0, and a key of 32 bytes, in rows 1 and 2
abbrev pub loaded : List ℕ → List ℕ → State
loaded key nonce = record {
  top = row (λ j. word_at nonce (4 * j));
  middle = row (λ j. word_at key (4 * j));
  bottom = row (λ j. word_at key (16 + 4 * j));
}

-- n full blocks of 16 bytes, then the last block, of 0 to 15 bytes: a byte 1 behind it, and zeros up to 16 bytes
abbrev pub cut : ℕ → List ℕ → List (List ℕ)
cut zero m = (m ++ 1 ∷ replicate (15 - length m) 0) ∷ []
cut (suc n) m = take 16 m ∷ cut n (drop 16 m)

-- the blocks of a string
abbrev pub pad : List ℕ → List (List ℕ)
pad m = cut (length m / 16) m

-- the four words of a block xored into row 0
abbrev pub with_block : State → List ℕ → State
with_block s b = record {
  top = row (λ j. bit_xor (slice_index s.top j) (word_at b (4 * j)));
  middle = s.middle;
  bottom = s.bottom;
}

-- 0x01000000 xored into word s(2,3)
abbrev pub marked : State → State
marked s = record { top = s.top; middle = s.middle; bottom = slice_set s.bottom 3 (bit_xor (slice_index s.bottom 3) 0x01000000) }

-- a block absorbed
unfoldable pub absorb : State → List ℕ → State
absorb s b = permutation (with_block s b)

-- blocks absorbed one after another; the state is marked before the last
unfoldable pub absorb_all : State → List (List ℕ) → State
absorb_all s [] = s
absorb_all s (b ∷ []) = absorb (marked s) b
absorb_all s (b ∷ c ∷ bs) = absorb_all (absorb s b) (c ∷ bs)

-- the bytes of row 0
unfoldable pub squeeze : State → List ℕ
squeeze s = word_bytes (slice_index s.top 0) ++ (word_bytes (slice_index s.top 1) ++ (word_bytes (slice_index s.top 2) ++ word_bytes (slice_index s.top 3)))

-- n blocks squeezed, with a permutation between each and the next
unfoldable pub squeeze_all : ℕ → State → List ℕ
squeeze_all zero s = []
squeeze_all (suc n) s = squeeze s ++ squeeze_all n (permutation s)

-- Gimli-24-Hash: 32 bytes
abbrev pub published_hash : List ℕ → List ℕ
published_hash m =
    let s = absorb_all zero_state (pad m) in
    squeeze s ++ squeeze (permutation s)

-- the first n bytes, for any n
abbrev pub published_output : List ℕ → ℕ → List ℕ
published_output m n = take n (squeeze_all (n / 16 + 1) (absorb_all zero_state (pad m)))

-- what the blocks of a message are enciphered to: row 0 with the block in it
unfoldable pub encipher : State → List (List ℕ) → List ℕ
encipher s [] = []
encipher s (b ∷ []) = squeeze (with_block s b)
encipher s (b ∷ c ∷ bs) = squeeze (with_block s b) ++ encipher (absorb s b) (c ∷ bs)

-- Gimli-24-Cipher: the ciphertext, as long as the message, then the tag of 16 bytes
abbrev pub published_box : List ℕ → List ℕ → List ℕ → List ℕ → List ℕ
published_box key nonce ad m =
    let s = absorb_all (permutation (loaded key nonce)) (pad ad) in
    take (length m) (encipher s (pad m)) ++ squeeze (absorb_all s (pad m))
