-- A run as a trace, for the contracts of its steps: what the engine has been given so far, and what is right at each event.
use Rattle.std.specs.Prelude.{◌≡◌, ℕ, ◌+◌, ◌-◌, ◌≤◌, ◌⊎◌, List, [], ◌∷◌, ◌++◌, length, drop, replicate, ◌≢◌}
use Rattle.sponge.specs.Blocks.{sealed_box, output}
use Rattle.runs.specs.History.{Answer, done, refused, Event, issued, used_up, sealing_started, opening_started, digest_begun, added, closed, written, opened, finished, fed, feeding_ended, drawn, released, Parts, nothing, parts}
use Rattle.runs.specs.Laws.{Returns, Wrote, Refuses}

-- what the engine has been given since it was taken
pub record Model : Type 0 where
  pub key : List ℕ
  pub nonce : List ℕ
  pub so_far : Parts

abbrev pub begun : List ℕ → List ℕ → Model
begun k n = record { key = k; nonce = n; so_far = nothing }

abbrev pub grown : Model → Parts → Model
grown M p = record {
  key = M.key;
  nonce = M.nonce;
  so_far = record {
    addition = M.so_far.addition ++ p.addition;
    piece = M.so_far.piece ++ p.piece;
    cipher = M.so_far.cipher ++ p.cipher;
    input = M.so_far.input ++ p.input;
    draw = M.so_far.draw ++ p.draw;
  };
}

abbrev pub next : Model → Event → Model
next M (sealing_started k n) = begun k n
next M (opening_started k n) = begun k n
next M digest_begun = begun [] []
next M (opened b x y r) = begun [] []
next M (finished t) = begun [] []
next M released = begun [] []
next M (issued n) = grown M (parts (issued n))
next M used_up = grown M (parts used_up)
next M (added a) = grown M (parts (added a))
next M closed = grown M (parts closed)
next M (written p x y r) = grown M (parts (written p x y r))
next M (fed f) = grown M (parts (fed f))
next M feeding_ended = grown M (parts feeding_ended)
next M (drawn d) = grown M (parts (drawn d))

-- an event of the past
abbrev pub Happened : Event → List Event → Type 0
Happened e [] = ⊥
Happened e (x ∷ past) = (x ≡ e) ⊎ Happened e past

-- a sealing of the past had this nonce
abbrev pub Spent : List ℕ → List Event → Type 0
Spent n past = (k : List ℕ) × Happened (sealing_started k n) past

-- what holds of an event after the past
abbrev pub Fresh : List Event → Event → Type 0
Fresh past (issued n) = Unit {0}
Fresh past used_up = Unit {0}
Fresh past (sealing_started k n) = Happened (issued n) past × (Spent n past → ⊥)
Fresh past (opening_started k n) = Unit {0}
Fresh past digest_begun = Unit {0}
Fresh past (added a) = Unit {0}
Fresh past closed = Unit {0}
Fresh past (written p x y r) = Unit {0}
Fresh past (opened b x y r) = Unit {0}
Fresh past (finished t) = Unit {0}
Fresh past (fed f) = Unit {0}
Fresh past feeding_ended = Unit {0}
Fresh past (drawn d) = Unit {0}
Fresh past released = Unit {0}

module _ (rule : List ℕ → List ℕ) where
  -- what an opening may answer
  pub record Answered (k n ad box before after : List ℕ) (r : Answer) : Type 0 where
    pub returns : (c : ℕ) → r ≡ done c → (m : List ℕ) × Returns r before after m × (box ≡ sealed_box rule k n ad m)
    pub refuses : (c : ℕ) → r ≡ refused c → length box ≤ length before + 16 → (m : List ℕ) → box ≢ sealed_box rule k n ad m
    pub sole : (m m' : List ℕ) → box ≡ sealed_box rule k n ad m → box ≡ sealed_box rule k n ad m' → m ≡ m'
    pub tells : Refuses box before after r
    pub zeroed : r ≡ refused 9 → after ≡ replicate (length box - 16) 0 ++ drop (length box - 16) before

  -- what holds of an event after what the engine has been given
  abbrev pub Sound : Model → Event → Type 0
  Sound M (issued n) = Unit {0}
  Sound M used_up = Unit {0}
  Sound M (sealing_started k n) = Unit {0}
  Sound M (opening_started k n) = Unit {0}
  Sound M digest_begun = Unit {0}
  Sound M (added a) = Unit {0}
  Sound M closed = Unit {0}
  Sound M (written p x y r) = Wrote p x y r
  Sound M (opened b x y r) = Answered M.key M.nonce M.so_far.addition b x y r
  Sound M (finished t) = M.so_far.cipher ++ t ≡ sealed_box rule M.key M.nonce M.so_far.addition M.so_far.piece
  Sound M (fed f) = M.so_far.draw ≡ []
  Sound M feeding_ended = Unit {0}
  Sound M (drawn d) = M.so_far.draw ++ d ≡ output rule M.so_far.input (length (M.so_far.draw ++ d))
  Sound M released = Unit {0}

  -- a trace that is right at each of its events
  abbrev pub AllRight : Model → List Event → List Event → Type 0
  AllRight M past [] = Unit {0}
  AllRight M past (e ∷ h) = Sound M e × Fresh past e × AllRight (next M e) (past ++ e ∷ []) h
