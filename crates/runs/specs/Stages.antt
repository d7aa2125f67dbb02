-- What a stage holds of what the engine has been given, and what one call makes of it.
use Rattle.std.specs.Prelude.{◌≡◌, ℕ, ◌<◌, ◌≤◌, Bool, false, ◌⊎◌, List, [], ◌++◌, length, get_or, is_some, Some, None, Ok, Err, Option, Result, slice_index_or, slice_set}
use Rattle.engine.specs.Refusals.{number}
use Rattle.engine.specs.Strings.{zeros}
use Rattle.engine.specs.declared.refusal.Refusal.{Refusal}
use Rattle.sponge.specs.Blocks.{absorbed, ciphertext, output}
use Rattle.sponge.specs.Steps.{State, at, standing, absorbing}
use Rattle.cipher.specs.Nonces.{issued_bytes, last_count, Issues}
use Rattle.cipher.specs.declared.book.IssuedNonce.{IssuedNonce}
use Rattle.cipher.specs.declared.book.NonceBook.{NonceBook}
use Rattle.digest.specs.Digests.{Fed as FedWith, Drawn as DrawnFrom}
use Rattle.runs.specs.Allowed.{Point, free, sealing_adds, sealing_writes, opening_adds, opening_opens, digest_feeds, digest_draws, leads, Use, issues, takes, neither, use_of}
use Rattle.runs.specs.Asks.{asked}
use Rattle.runs.specs.Scripts.{Replied, buffer_in, call_event}
use Rattle.runs.specs.Traces.{Model, next, Sound}
use Rattle.runs.specs.declared.script.Call.{Call}
use Rattle.runs.specs.declared.script.Reply.{Reply}
use Rattle.runs.specs.declared.script.Reply.TheVariants.{Nonce, Refused}
use Rattle.runs.specs.declared.script.Step.{Step}
use Rattle.runs.specs.declared.stage.Misplaced.{Misplaced}
use Rattle.runs.specs.declared.stage.Stage.{Stage}
use Rattle.runs.specs.declared.stage.Stage.TheVariants.{Free, AddingSealing, Writing, AddingOpening, ReadyToOpen, Fed, Drawn}

abbrev pub point_of : {E : Type 0} → Stage E → Point
point_of (Free e) = free
point_of (AddingSealing s) = sealing_adds
point_of (Writing s) = sealing_writes
point_of (AddingOpening o) = opening_adds
point_of (ReadyToOpen o) = opening_opens
point_of (Fed f) = digest_feeds
point_of (Drawn d) = digest_draws

-- a sealing that started shows the nonce that it took
abbrev pub Takes : Option IssuedNonce → Use → Reply → Type 0
Takes held issues r = Unit {0}
Takes held (takes i) r = (n : IssuedNonce) × (held ≡ Some n) × (r ≡ Nonce (issued_bytes n))
Takes held neither r = Unit {0}

-- a sealing has no nonce to start with
abbrev pub Lacks : Option IssuedNonce → Use → Type 0
Lacks held issues = ⊥
Lacks held (takes i) = held ≡ None
Lacks held neither = ⊥

abbrev pub token_by : Use → Option IssuedNonce → Bool
token_by issues held = is_some held
token_by (takes i) held = false
token_by neither held = false

-- whether a step holds a nonce that it issued
abbrev pub token : {L : Type 0} → Step L → Bool
token x = token_by (use_of x.call) x.nonce

abbrev pub emptied : {L : Type 0} → Step L → Step L
emptied x = record { call = x.call; reply = x.reply; nonce = None }

-- the nonce that a step issued and still holds, taken out of it
abbrev pub TakesNonce : {L : Type 0} → Step L → Option IssuedNonce → Step L → Type 0
TakesNonce x None y = (token x ≡ false) × (y ≡ x)
TakesNonce x (Some n) y = (use_of x.call ≡ issues) × (x.nonce ≡ Some n) × (y ≡ emptied x)

-- the nonce of step j taken out of a script, for a call at a later step
abbrev pub Spends : {L : Type 0} → List (Step L) → ℕ → ℕ → Step L → Option IssuedNonce → List (Step L) → Type 0
Spends xs j at d None ys = (ys ≡ xs) × ((at ≤ j) ⊎ (token (slice_index_or xs j d) ≡ false))
Spends xs j at d (Some n) ys = (j < at) × (use_of (get_or xs j d).call ≡ issues) × ((get_or xs j d).nonce ≡ Some n) × (ys ≡ slice_set xs j (emptied (slice_index_or xs j d)))

abbrev pub if_free : Point → Type 0 → Type 0 → Type 0
if_free free P Q = P
if_free sealing_adds P Q = Q
if_free sealing_writes P Q = Q
if_free opening_adds P Q = Q
if_free opening_opens P Q = Q
if_free digest_feeds P Q = Q
if_free digest_draws P Q = Q

-- a nonce taken out for the call at a step, if it starts a sealing and the engine is free
abbrev pub Readied : {L : Type 0} → Point → Use → List (Step L) → ℕ → Step L → Option IssuedNonce → List (Step L) → Type 0
Readied p issues xs at d r ys = (r ≡ None) × (ys ≡ xs)
Readied p (takes j) xs at d r ys = if_free p (Spends xs j at d r ys) ((r ≡ None) × (ys ≡ xs))
Readied p neither xs at d r ys = (r ≡ None) × (ys ≡ xs)

-- issue: a nonce, which the step holds, or the refusal 5
pub record NonceIssued {L : Type 0} (b : NonceBook) (x : Step L) (n : IssuedNonce) (b' : NonceBook) (y : Step L) : Type 0 where
  pub issues : Issues b n b'
  pub reply : y.reply ≡ Nonce (issued_bytes n)
  pub nonce : y.nonce ≡ Some n
  pub call : y.call ≡ x.call

pub record IssueRefused {L : Type 0} (b : NonceBook) (x : Step L) (e : Refusal) (b' : NonceBook) (y : Step L) : Type 0 where
  pub used_up : b.count ≡ last_count
  pub number_is : number e ≡ 5
  pub book : b' ≡ b
  pub reply : y.reply ≡ Refused e
  pub nonce : y.nonce ≡ None
  pub call : y.call ≡ x.call

abbrev pub IssueRan : {L : Type 0} → NonceBook → Step L → NonceBook → Step L → Type 0
IssueRan b x b' y = ((n : IssuedNonce) × NonceIssued b x n b' y) ⊎ ((e : Refusal) × IssueRefused b x e b' y)

-- a stage given up: a free engine is as it was, any other comes back cleared
abbrev pub Released : {E : Type 0} → (E → List ℕ) → Stage E → E → Type 0
Released meaning (Free e) r = r ≡ e
Released meaning (AddingSealing s) r = meaning r ≡ zeros
Released meaning (Writing s) r = meaning r ≡ zeros
Released meaning (AddingOpening o) r = meaning r ≡ zeros
Released meaning (ReadyToOpen o) r = meaning r ≡ zeros
Released meaning (Fed f) r = meaning r ≡ zeros
Released meaning (Drawn d) r = meaning r ≡ zeros

module _ {E : Type 0} (meaning : E → List ℕ) (rule : List ℕ → List ℕ) where
  -- the state after the nonce and the key
  abbrev pub loaded : Model → List ℕ
  loaded M = rule (M.nonce ++ M.key)

  -- the state after the associated data
  abbrev pub keyed : Model → List ℕ
  keyed M = absorbed rule (loaded M) M.so_far.addition

  pub record Adds (M : Model) (p : State) : Type 0 where
    pub state : p ≡ absorbing rule (loaded M) M.so_far.addition
    pub no_piece : M.so_far.piece ≡ []
    pub no_cipher : M.so_far.cipher ≡ []

  pub record Writes (M : Model) (p : State) : Type 0 where
    pub state : p ≡ absorbing rule (keyed M) M.so_far.piece
    pub cipher : M.so_far.cipher ≡ ciphertext rule (keyed M) M.so_far.piece

  -- what the stage is after all that the engine has been given
  abbrev pub Holds : Stage E → Model → Type 0
  Holds (Free e) M = Unit {0}
  Holds (AddingSealing s) M = Adds M (standing meaning s.sponge)
  Holds (Writing s) M = Writes M (standing meaning s.sponge)
  Holds (AddingOpening o) M = Adds M (standing meaning o.sponge)
  Holds (ReadyToOpen o) M = standing meaning o.sponge ≡ at (keyed M) 0
  Holds (Fed f) M = FedWith meaning rule f M.so_far.input × (M.so_far.draw ≡ [])
  Holds (Drawn d) M = DrawnFrom meaning rule d M.so_far.input (length M.so_far.draw) × (M.so_far.draw ≡ output rule M.so_far.input (length M.so_far.draw))

  -- an engine that is free again is cleared
  abbrev pub Cleared : Stage E → Type 0
  Cleared (Free e) = meaning e ≡ zeros
  Cleared (AddingSealing s) = Unit {0}
  Cleared (Writing s) = Unit {0}
  Cleared (AddingOpening o) = Unit {0}
  Cleared (ReadyToOpen o) = Unit {0}
  Cleared (Fed f) = Unit {0}
  Cleared (Drawn d) = Unit {0}

  module _ {L : Type 0} (string : L → List ℕ) where
    -- a call that may stand in the stage s ran: the call x became y, the stage is t, and the reply r
    pub record Ran (s : Stage E) (x : Call L) (t : Stage E) (y : Call L) (r : Reply) : Type 0 where
      pub table : leads (point_of s) x ≡ Some (point_of t)
      pub sound : (M : Model) → Holds s M → Sound rule M (call_event string x (buffer_in y) r)
      pub holds : (M : Model) → Holds s M → Holds t (next M (call_event string x (buffer_in y) r))
      pub cleared : Cleared t
      pub replied : Replied x r
      pub asks : asked y ≡ asked x
      pub uses : use_of y ≡ use_of x

    -- a call that may not stand in the stage s: nothing is changed
    pub record IsMisplaced (s : Stage E) (x : Call L) (t : Stage E) (y : Call L) : Type 0 where
      pub table : leads (point_of s) x ≡ None
      pub stage : t ≡ s
      pub call : y ≡ x

    abbrev pub Moved : Stage E → Call L → Result (Stage E × Reply) (Misplaced E) → Call L → Type 0
    Moved s x (Ok (t, r)) y = Ran s x t y r
    Moved s x (Err e) y = IsMisplaced s x e.0 y

    -- the same of a call that may take a nonce
    pub record Took (s : Stage E) (nonce : Option IssuedNonce) (x : Call L) (t : Stage E) (y : Call L) (r : Reply) : Type 0 where
      pub ran : Ran s x t y r
      pub took : Takes nonce (use_of x) r

    -- the same of a call that may not stand in the stage s, or lacks its nonce
    pub record IsStuck (s : Stage E) (nonce : Option IssuedNonce) (x : Call L) (t : Stage E) (y : Call L) : Type 0 where
      pub why : (leads (point_of s) x ≡ None) ⊎ Lacks nonce (use_of x)
      pub stage : t ≡ s
      pub call : y ≡ x

    abbrev pub CallTaken : Stage E → Option IssuedNonce → Call L → Result (Stage E × Reply) (Misplaced E) → Call L → Type 0
    CallTaken s nonce x (Ok (t, r)) y = Took s nonce x t y r
    CallTaken s nonce x (Err e) y = IsStuck s nonce x e.0 y

    -- the same of a step, which shows the reply
    abbrev pub Advanced : Stage E → Option IssuedNonce → Step L → Result (Stage E) (Misplaced E) → Step L → Type 0
    Advanced s nonce x (Ok t) y = Took s nonce x.call t y.call y.reply × (y.nonce ≡ x.nonce)
    Advanced s nonce x (Err e) y = IsStuck s nonce x.call e.0 y.call × (y ≡ x)

    pub record IssueStep (s : Stage E) (b : NonceBook) (xs : List (Step L)) (at : ℕ) (d : Step L) (r : Result (Stage E) (Misplaced E)) (b' : NonceBook) (ys : List (Step L)) : Type 0 where
      pub ran : r ≡ Ok s
      pub issue : IssueRan b (slice_index_or xs at d) b' (slice_index_or ys at d)
      pub script : ys ≡ slice_set xs at (slice_index_or ys at d)

    pub record EngineStep (s : Stage E) (b : NonceBook) (xs : List (Step L)) (at : ℕ) (d : Step L) (r : Result (Stage E) (Misplaced E)) (b' : NonceBook) (ys : List (Step L)) : Type 0 where
      pub book : b' ≡ b
      -- the nonce, and the script without it
      pub nonce : Option IssuedNonce
      pub middle : List (Step L)
      pub readied : Readied (point_of s) (use_of (get_or xs at d).call) xs at d nonce middle
      pub advanced : Advanced s nonce (slice_index_or middle at d) r (slice_index_or ys at d)
      pub script : ys ≡ slice_set middle at (slice_index_or ys at d)

    -- one call of a script: issue is the book's; any other is the engine's, with a nonce if it starts a sealing
    abbrev pub SteppedBy : Use → Stage E → NonceBook → List (Step L) → ℕ → Step L → Result (Stage E) (Misplaced E) → NonceBook → List (Step L) → Type 0
    SteppedBy issues s b xs at d r b' ys = IssueStep s b xs at d r b' ys
    SteppedBy (takes i) s b xs at d r b' ys = EngineStep s b xs at d r b' ys
    SteppedBy neither s b xs at d r b' ys = EngineStep s b xs at d r b' ys

    abbrev pub Stepped : Stage E → NonceBook → List (Step L) → ℕ → Step L → Result (Stage E) (Misplaced E) → NonceBook → List (Step L) → Type 0
    Stepped s b xs at d r b' ys = SteppedBy (use_of (get_or xs at d).call) s b xs at d r b' ys
