-- What a call makes of the state p that it finds: the state q.
use Rattle.std.specs.Prelude.{◌≡◌, ℕ, ◌+◌, List, ◌++◌, length}
use Rattle.engine.specs.Strings.{Whole}
use Rattle.sponge.specs.Blocks.{absorbed, stream}
use Rattle.sponge.specs.Steps.{State, at, absorb_piece, padded, squeeze_bytes, squeeze_state, absorbing, squeezing}

-- a piece taken in
pub record Absorbs (rule : List ℕ → List ℕ) (p : State) (piece : List ℕ) (q : State) : Type 0 where
  -- its bytes, one after another
  pub bytewise : q ≡ absorb_piece rule p piece
  -- a string in any pieces leaves what the whole string leaves
  pub piecewise : (o : State) (m : List ℕ) → p ≡ absorb_piece rule o m → q ≡ absorb_piece rule o (m ++ piece)

-- a string ended
pub record Pads (rule : List ℕ → List ℕ) (p q : State) : Type 0 where
  -- its last block
  pub bytewise : q ≡ padded rule p
  -- a string that is taken in and ended is absorbed, as its blocks have it
  pub whole : (s m : List ℕ) → p ≡ absorbing rule s m → q ≡ at (absorbed rule s m) 0

-- a buffer filled
pub record Squeezes (rule : List ℕ → List ℕ) (p : State) (out : List ℕ) (q : State) : Type 0 where
  -- its bytes, one after another
  pub bytewise : out ≡ squeeze_bytes rule (length out) p
  pub state : q ≡ squeeze_state rule (length out) p
  -- bytes out in any pieces are those out in one piece
  pub piecewise : (o : State) (n : ℕ) → p ≡ squeeze_state rule n o → squeeze_bytes rule (n + length out) o ≡ squeeze_bytes rule n o ++ out
  pub piecewise_state : (o : State) (n : ℕ) → p ≡ squeeze_state rule n o → q ≡ squeeze_state rule (n + length out) o
  -- the first bytes of a state are the front of what it gives, as its blocks have it
  pub first : (s : List ℕ) → Whole s → p ≡ at s 0 → out ≡ stream rule s (length out)
  -- later ones go on from there
  pub next : (s : List ℕ) (n : ℕ) → Whole s → p ≡ squeezing rule s n → stream rule s (n + length out) ≡ stream rule s n ++ out
