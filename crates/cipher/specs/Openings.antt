-- What an opening answers to a box.
use Rattle.std.specs.Prelude.{◌≡◌, ℕ, ◌+◌, ◌-◌, ◌<◌, ◌≤◌, ◌⊎◌, List, ◌++◌, length, drop, replicate, Ok, Err, Result, ◌≢◌}
use Rattle.engine.specs.Refusals.{number}
use Rattle.engine.specs.declared.refusal.Refusal.{Refusal}
use Rattle.sponge.specs.Blocks.{rate, boxed}

-- a box, a buffer before and after, and the state s that the associated data left
module _ (rule : List ℕ → List ℕ) (s sealed before after : List ℕ) where
  -- the box is that of the message m, which now stands first in the buffer; the rest stays
  pub record Returns (n : ℕ) (m : List ℕ) : Type 0 where
    pub box : sealed ≡ boxed rule s m
    pub answer : n ≡ length m
    pub room : length m ≤ length before
    pub buffer : after ≡ m ++ drop (length m) before

  -- the box is shorter than a tag; the buffer is as it was
  pub record TooShort (e : Refusal) : Type 0 where
    pub number_is : number e ≡ 8
    pub short : length sealed < rate
    pub buffer : after ≡ before

  -- the buffer is shorter than the box less its tag, and is as it was
  pub record NoRoom (e : Refusal) : Type 0 where
    pub number_is : number e ≡ 7
    pub long : rate ≤ length sealed
    pub short : length before < length sealed - rate
    pub buffer : after ≡ before

  -- no message has the box; zeros stand where one would, and the rest stays
  pub record NoMessage (e : Refusal) : Type 0 where
    pub number_is : number e ≡ 9
    pub long : rate ≤ length sealed
    pub room : length sealed - rate ≤ length before
    pub none : (m : List ℕ) → sealed ≢ boxed rule s m
    pub buffer : after ≡ replicate (length sealed - rate) 0 ++ drop (length sealed - rate) before

  abbrev pub Opened : Result ℕ Refusal → Type 0
  Opened (Ok n) = (m : List ℕ) × Returns n m
  Opened (Err e) = TooShort e ⊎ (NoRoom e ⊎ NoMessage e)

  pub record Opens (r : Result ℕ Refusal) : Type 0 where
    pub answer : Opened r
    -- the box of a message has 16 bytes more, and is that of no other message
    pub long : (m : List ℕ) → sealed ≡ boxed rule s m → length sealed ≡ length m + rate
    pub sole : (m m' : List ℕ) → sealed ≡ boxed rule s m → sealed ≡ boxed rule s m' → m ≡ m'
