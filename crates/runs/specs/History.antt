-- What happened at each call of a run on one nonce book and one engine, and what a stretch of a run adds up to.
use Rattle.std.specs.Prelude.{ℕ, List, [], ◌∷◌, ◌++◌, length, take}

-- what a call that reads or fills a buffer answers: a length, or a refusal by its number
pub data Answer : Type 0 where
  done : ℕ → Answer
  refused : ℕ → Answer

pub data Event : Type 0 where
  -- a nonce from the book; the book had none left
  issued : (nonce : List ℕ) → Event
  used_up : Event
  -- the engine was free, and is taken
  sealing_started : (key nonce : List ℕ) → Event
  opening_started : (key nonce : List ℕ) → Event
  digest_begun : Event
  -- associated data, and its end
  added : (piece : List ℕ) → Event
  closed : Event
  -- a buffer before and after a call, and the answer
  written : (piece before after : List ℕ) → Answer → Event
  opened : (box before after : List ℕ) → Answer → Event
  finished : (tag : List ℕ) → Event
  -- a digest's input, its end, and its output
  fed : (string : List ℕ) → Event
  feeding_ended : Event
  drawn : (bytes : List ℕ) → Event
  -- the engine is free again
  released : Event

-- the engine stays where it is: the event is the book's, or one in the middle of a sealing, an opening or a digest
abbrev pub Midway : Event → Type 0
Midway (issued n) = Unit {0}
Midway used_up = Unit {0}
Midway (sealing_started k n) = ⊥
Midway (opening_started k n) = ⊥
Midway digest_begun = ⊥
Midway (added a) = Unit {0}
Midway closed = Unit {0}
Midway (written p x y r) = Unit {0}
Midway (opened b x y r) = ⊥
Midway (finished t) = ⊥
Midway (fed f) = Unit {0}
Midway feeding_ended = Unit {0}
Midway (drawn d) = Unit {0}
Midway released = ⊥

abbrev if_done : Answer → List ℕ → List ℕ
if_done (done n) s = s
if_done (refused n) s = []

-- what one event adds to the associated data, to the message, to the ciphertext, to a digest's input and to its output
pub record Parts : Type 0 where
  pub addition : List ℕ
  pub piece : List ℕ
  pub cipher : List ℕ
  pub input : List ℕ
  pub draw : List ℕ

abbrev pub nothing : Parts
nothing = record { addition = []; piece = []; cipher = []; input = []; draw = [] }

abbrev pub parts : Event → Parts
parts (added a) = record { addition = a; piece = []; cipher = []; input = []; draw = [] }
parts (written p x y r) = record { addition = []; piece = if_done r p; cipher = if_done r (take (length p) y); input = []; draw = [] }
parts (fed f) = record { addition = []; piece = []; cipher = []; input = f; draw = [] }
parts (drawn d) = record { addition = []; piece = []; cipher = []; input = []; draw = d }
parts (issued n) = nothing
parts used_up = nothing
parts (sealing_started k n) = nothing
parts (opening_started k n) = nothing
parts digest_begun = nothing
parts closed = nothing
parts (opened b x y r) = nothing
parts (finished t) = nothing
parts feeding_ended = nothing
parts released = nothing

-- what a stretch of a run adds up to, in order
abbrev pub joined : (Parts → List ℕ) → List Event → List ℕ
joined part [] = []
joined part (e ∷ es) = part (parts e) ++ joined part es

abbrev pub additions : List Event → List ℕ
additions = joined (λ p. p.addition)

abbrev pub message : List Event → List ℕ
message = joined (λ p. p.piece)

abbrev pub cipher_joined : List Event → List ℕ
cipher_joined = joined (λ p. p.cipher)

abbrev pub inputs : List Event → List ℕ
inputs = joined (λ p. p.input)

abbrev pub draws : List Event → List ℕ
draws = joined (λ p. p.draw)

abbrev pub AllMidway : List Event → Type 0
AllMidway [] = Unit {0}
AllMidway (e ∷ es) = Midway e × AllMidway es
