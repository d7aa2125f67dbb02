-- A sponge byte by byte, over any rule.
use Rattle.std.specs.Prelude.{ℕ, zero, suc, ◌+◌, ◌%◌, cond, List, [], ◌∷◌, ◌==◌, slice_index}
use Rattle.engine.specs.Strings.{xored}
use Rattle.sponge.specs.Blocks.{rate, last_place}
use Rattle.sponge.specs.declared.sponge.Sponge.{Sponge}

-- a state's string, and the place in the block of the next byte
pub record State : Type 0 where
  pub string : List ℕ
  pub place : ℕ

abbrev pub at : List ℕ → ℕ → State
at s i = record { string = s; place = i }

-- what a sponge stands for: its engine's meaning, and its place read modulo the rate
abbrev pub standing : {E : Type 0} → (E → List ℕ) → Sponge E → State
standing meaning p = at (meaning p.engine) (p.place % rate)

-- the byte at the place
abbrev pub byte_of : State → ℕ
byte_of p = slice_index p.string p.place

-- the byte at the place changed by xor with b
abbrev pub xored_in : State → ℕ → State
xored_in p b = at (xored p.string p.place b) p.place

module _ (rule : List ℕ → List ℕ) where
  -- past a byte of a block: the next place, or, at the block's end, the rule and the first place
  abbrev pub advanced : State → State
  advanced p = cond (p.place + 1 == rate) (at (rule p.string) 0) (at p.string (p.place + 1))

  -- one byte taken in
  abbrev pub absorb_byte : State → ℕ → State
  absorb_byte p b = advanced (xored_in p b)

  -- the bytes of a piece taken in, one after another
  abbrev pub absorb_piece : State → List ℕ → State
  absorb_piece p [] = p
  absorb_piece p (b ∷ bs) = absorb_piece (absorb_byte p b) bs

  -- the last block ended: a 1 at the place, a 1 at the last place, and the rule
  abbrev pub padded : State → State
  padded p = at (rule (xored (xored p.string p.place 1) last_place 1)) 0

  -- the next n bytes out
  abbrev pub squeeze_bytes : ℕ → State → List ℕ
  squeeze_bytes zero p = []
  squeeze_bytes (suc n) p = byte_of p ∷ squeeze_bytes n (advanced p)

  -- what n bytes out leave
  abbrev pub squeeze_state : ℕ → State → State
  squeeze_state zero p = p
  squeeze_state (suc n) p = squeeze_state n (advanced p)

  -- s with a string taken in from the first place on, its last block not ended
  abbrev pub absorbing : List ℕ → List ℕ → State
  absorbing s m = absorb_piece (at s 0) m

  -- s with n bytes given out from the first place on
  abbrev pub squeezing : List ℕ → ℕ → State
  squeezing s n = squeeze_state n (at s 0)
