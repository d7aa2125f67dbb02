-- The laws of every run, in the words of sealing and opening.
use Rattle.std.specs.Prelude.{◌≡◌, ℕ, ◌+◌, ◌-◌, ◌<◌, ◌≤◌, ◌⊎◌, ◌↔◌, List, ◌∷◌, ◌++◌, length, drop, replicate, ◌≢◌}
use Rattle.sponge.specs.Blocks.{sealed_box, output}
use Rattle.runs.specs.History.{Answer, done, refused, Event, issued, sealing_started, opening_started, digest_begun, written, opened, finished, AllMidway, additions, message, cipher_joined, inputs, draws}

-- the buffer now begins with the message m, the rest of it as before, and the answer is m's length
abbrev pub Returns : Answer → List ℕ → List ℕ → List ℕ → Type 0
Returns r before after m = (r ≡ done (length m)) × (after ≡ m ++ drop (length m) before)

module _ (rule : List ℕ → List ℕ) (h : List Event) where
  -- a finished sealing gave the one-shot box of what was added and written; its nonce came from the book, and no two sealings had one nonce
  pub record Seals : Type 0 where
    pub box : (b d a : List Event) (k n t : List ℕ) → h ≡ b ++ (sealing_started k n ∷ (d ++ (finished t ∷ a))) → AllMidway d → cipher_joined d ++ t ≡ sealed_box rule k n (additions d) (message d)
    pub from_book : (b a : List Event) (k n : List ℕ) → h ≡ b ++ (sealing_started k n ∷ a) → (b₁ : List Event) × ((b₂ : List Event) × (b ≡ b₁ ++ (issued n ∷ b₂)))
    pub apart : (b d a : List Event) (k n k' n' : List ℕ) → h ≡ b ++ (sealing_started k n ∷ (d ++ (sealing_started k' n' ∷ a))) → n ≢ n'

  -- what a digest has given so far is the front of the long output of all that it was fed
  pub record Digests : Type 0 where
    pub front : (b d a : List Event) → h ≡ b ++ (digest_begun ∷ (d ++ a)) → AllMidway d → draws d ≡ output rule (inputs d) (length (draws d))

  -- one opening of the run, with room for the message, if there is one
  pub record Opening (k n ad box before after : List ℕ) (r : Answer) : Type 0 where
    pub before_it : List Event
    pub during : List Event
    pub after_it : List Event
    pub stands : h ≡ before_it ++ (opening_started k n ∷ (during ++ (opened box before after r ∷ after_it)))
    pub midway : AllMidway during
    pub data_is : ad ≡ additions during
    pub room : length box ≤ length before + 16

  -- it returns a message exactly when its box is the one-shot box of some message; that message is the only one, and is what comes back
  pub record Opens : Type 0 where
    pub exactly : (k n ad box before after : List ℕ) (r : Answer) → Opening k n ad box before after r → ((m : List ℕ) × Returns r before after m) ↔ ((m : List ℕ) × (box ≡ sealed_box rule k n ad m))
    pub sole : (k n ad box before after : List ℕ) (r : Answer) → Opening k n ad box before after r → (m m' : List ℕ) → box ≡ sealed_box rule k n ad m → box ≡ sealed_box rule k n ad m' → m ≡ m'
    pub same : (k n ad box before after : List ℕ) (r : Answer) → Opening k n ad box before after r → (m : List ℕ) → Returns r before after m → box ≡ sealed_box rule k n ad m
    pub answers : (k n ad box before after : List ℕ) (r : Answer) → Opening k n ad box before after r → (c : ℕ) → r ≡ done c → (m : List ℕ) × Returns r before after m

-- two openings refused for their tags, in two runs or in one, over any rules, tell nothing apart but the box's length and the buffer
abbrev pub Silent : List Event → List Event → Type 0
Silent h h' =
    (b a b' a' : List Event) (box before after box' before' after' : List ℕ) →
    h ≡ b ++ (opened box before after (refused 9) ∷ a) → h' ≡ b' ++ (opened box' before' after' (refused 9) ∷ a') →
    length box ≡ length box' → before ≡ before' → after ≡ after'

-- an opening refused for its tag leaves zeros where its message would stand, and the rest of the buffer
abbrev pub Zeroed : List Event → Type 0
Zeroed h =
    (b a : List Event) (box before after : List ℕ) →
    h ≡ b ++ (opened box before after (refused 9) ∷ a) → after ≡ replicate (length box - 16) 0 ++ drop (length box - 16) before

-- a write: the answer is the piece's length, and the rest of the buffer stays;
-- refused with 7 where the buffer is shorter than the piece, and then the buffer is as it was
abbrev pub Wrote : List ℕ → List ℕ → List ℕ → Answer → Type 0
Wrote piece before after (done n) = (n ≡ length piece) × (length piece ≤ length before) × (drop (length piece) after ≡ drop (length piece) before)
Wrote piece before after (refused k) = (k ≡ 7) × (length before < length piece) × (after ≡ before)

-- an opening that is refused: 8 for a box shorter than a tag, 7 for want of room, the buffer as it was after both; else 9
abbrev pub Refuses : List ℕ → List ℕ → List ℕ → Answer → Type 0
Refuses box before after (done n) = length box ≡ n + 16
Refuses box before after (refused k) =
    ((k ≡ 8) × (length box < 16) × (after ≡ before))
    ⊎ (((k ≡ 7) × (16 ≤ length box) × (length before < length box - 16) × (after ≡ before))
    ⊎ ((k ≡ 9) × (16 ≤ length box) × (length box - 16 ≤ length before) × (after ≡ replicate (length box - 16) 0 ++ drop (length box - 16) before)))

-- what every write and every opening answers, and leaves in its buffer
pub record Tells (h : List Event) : Type 0 where
  pub writes : (b a : List Event) (piece before after : List ℕ) (r : Answer) → h ≡ b ++ (written piece before after r ∷ a) → Wrote piece before after r
  pub refusals : (b a : List Event) (box before after : List ℕ) (r : Answer) → h ≡ b ++ (opened box before after r ∷ a) → Refuses box before after r

pub record Lawful (rule : List ℕ → List ℕ) (h : List Event) : Type 0 where
  pub seals : Seals rule h
  pub digests : Digests rule h
  pub opens : Opens rule h
  pub tells : Tells h
  pub zeroed : Zeroed h
  pub silent : Silent h h
