-- What a sponge does with whole strings, over any rule: a function from states to states.
use Rattle.std.specs.Prelude.{ℕ, zero, suc, ◌+◌, ◌-◌, ◌*◌, ◌/◌, List, [], ◌∷◌, ◌++◌, length, take, drop, bit_xor}
use Rattle.engine.specs.Strings.{width, zeros, xored}

-- how many bytes a full block has: the places of a state that strings reach
abbrev pub rate : ℕ
rate = 16

-- the place that the end of a string marks
abbrev pub last_place : ℕ
last_place = width - 1

-- how many blocks a string is cut into: its full ones, and one last block, which is shorter
abbrev pub blocks : List ℕ → ℕ
blocks m = length m / rate + 1

-- a block's bytes xored into the first places of a state
unfoldable pub mixed : List ℕ → List ℕ → List ℕ
mixed s [] = s
mixed [] (b ∷ bs) = []
mixed (x ∷ s) (b ∷ bs) = bit_xor x b ∷ mixed s bs

module _ (rule : List ℕ → List ℕ) where
  -- n full blocks taken in, from the front of a string
  unfoldable pub after_full : ℕ → List ℕ → List ℕ → List ℕ
  after_full zero s m = s
  after_full (suc n) s m = after_full n (rule (mixed s (take rate m))) (drop rate m)

  -- a last block taken in: a 1 behind its bytes, a 1 at the last place, and the rule
  abbrev pub after_last : List ℕ → List ℕ → List ℕ
  after_last s b = rule (xored (xored (mixed s b) (length b) 1) last_place 1)

  -- a whole string taken in: its full blocks, then its one last block
  unfoldable pub absorbed : List ℕ → List ℕ → List ℕ
  absorbed s m = let n = length m / rate in after_last (after_full n s m) (drop (rate * n) m)

  -- the ciphertext of n full blocks: the bytes at a block's places right after its own xor
  unfoldable pub cipher_full : ℕ → List ℕ → List ℕ → List ℕ
  cipher_full zero s m = []
  cipher_full (suc n) s m = take rate (mixed s (take rate m)) ++ cipher_full n (rule (mixed s (take rate m))) (drop rate m)

  -- the ciphertext of a whole message
  unfoldable pub ciphertext : List ℕ → List ℕ → List ℕ
  ciphertext s m =
      let n = length m / rate in
      let b = drop (rate * n) m in
      cipher_full n s m ++ take (length b) (mixed (after_full n s m) b)

  -- the box of a message, from the state that the associated data left: ciphertext, then tag
  unfoldable pub boxed : List ℕ → List ℕ → List ℕ
  boxed s m = ciphertext s m ++ take rate (absorbed s m)

  -- the box of associated data and a message, under a key and a nonce
  unfoldable pub sealed_box : List ℕ → List ℕ → List ℕ → List ℕ → List ℕ
  sealed_box key nonce ad m = boxed (absorbed (rule (nonce ++ key)) ad) m

  -- n blocks squeezed out: the first bytes of a state, then those after one more rule, and so on
  unfoldable pub squeezed : ℕ → List ℕ → List ℕ
  squeezed zero s = []
  squeezed (suc n) s = take rate s ++ squeezed n (rule s)

  -- the first n bytes that a state gives
  abbrev pub stream : List ℕ → ℕ → List ℕ
  stream s n = take n (squeezed (n / rate + 1) s)

  -- the first n bytes of the long output of a string
  abbrev pub output : List ℕ → ℕ → List ℕ
  output m n = stream (absorbed zeros m) n

  -- the hash of a string
  abbrev pub hash : List ℕ → List ℕ
  hash m = output m 32
