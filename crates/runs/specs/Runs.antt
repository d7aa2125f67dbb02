-- What a run leaves.
use Rattle.std.specs.Prelude.{◌≡◌, ℕ, ◌+◌, ◌<◌, ◌≤◌, Bool, true, false, ◌&&◌, List, [], ◌∷◌, map, get_or, MatchBool, slice_index_or}
use Rattle.engine.specs.Strings.{zeros}
use Rattle.cipher.specs.Nonces.{nonce_of, last_count}
use Rattle.cipher.specs.declared.book.NonceBook.{NonceBook}
use Rattle.runs.specs.Allowed.{Place, free, how_far}
use Rattle.runs.specs.Asks.{asked}
use Rattle.runs.specs.History.{Event, issued, used_up, sealing_started, opening_started, digest_begun, added, closed, written, opened, finished, fed, feeding_ended, drawn, released}
use Rattle.runs.specs.Laws.{Lawful}
use Rattle.runs.specs.Scripts.{Replied, history}
use Rattle.runs.specs.declared.run.Ended.{Ended}
use Rattle.runs.specs.declared.script.Call.{Call}
use Rattle.runs.specs.declared.script.Step.{Step}
use Rattle.runs.specs.declared.stage.Stage.{Stage}
use Rattle.runs.specs.declared.stage.Stage.TheVariants.{Free, AddingSealing, Writing, AddingOpening, ReadyToOpen, Fed, Drawn}

abbrev pub calls : {L : Type 0} → List (Step L) → List (Call L)
calls xs = map (λ x. x.call) xs

-- before the first call: a free engine, and the book as it is
abbrev pub start : NonceBook → Place
start b = record { point = free; count = b.count; unspent = [] }

-- how many nonces an event issued
abbrev pub nonces_of : Event → ℕ
nonces_of (issued n) = 1
nonces_of used_up = 0
nonces_of (sealing_started k n) = 0
nonces_of (opening_started k n) = 0
nonces_of digest_begun = 0
nonces_of (added a) = 0
nonces_of closed = 0
nonces_of (written p x y r) = 0
nonces_of (opened b x y r) = 0
nonces_of (finished t) = 0
nonces_of (fed f) = 0
nonces_of feeding_ended = 0
nonces_of (drawn d) = 0
nonces_of released = 0

-- how many nonces were issued
abbrev pub issued_in : List Event → ℕ
issued_in [] = 0
issued_in (e ∷ h) = nonces_of e + issued_in h

-- an event of a book with this name at a count: the nonce is the name and the count; at the last count there is none
abbrev pub IssueTold : List ℕ → ℕ → Event → Type 0
IssueTold name count (issued n) = (count < last_count) × (n ≡ nonce_of name count)
IssueTold name count used_up = count ≡ last_count
IssueTold name count (sealing_started k n) = Unit {0}
IssueTold name count (opening_started k n) = Unit {0}
IssueTold name count digest_begun = Unit {0}
IssueTold name count (added a) = Unit {0}
IssueTold name count closed = Unit {0}
IssueTold name count (written p x y r) = Unit {0}
IssueTold name count (opened b x y r) = Unit {0}
IssueTold name count (finished t) = Unit {0}
IssueTold name count (fed f) = Unit {0}
IssueTold name count feeding_ended = Unit {0}
IssueTold name count (drawn d) = Unit {0}
IssueTold name count released = Unit {0}

-- a history on such a book, from a count on
abbrev pub IssuesAlong : List ℕ → ℕ → List Event → Type 0
IssuesAlong name count [] = Unit {0}
IssuesAlong name count (e ∷ h) = IssueTold name count e × IssuesAlong name (count + nonces_of e) h

-- the event is the book's alone
abbrev pub bookish : Event → Bool
bookish (issued n) = true
bookish used_up = true
bookish (sealing_started k n) = false
bookish (opening_started k n) = false
bookish digest_begun = false
bookish (added a) = false
bookish closed = false
bookish (written p x y r) = false
bookish (opened b x y r) = false
bookish (finished t) = false
bookish (fed f) = false
bookish feeding_ended = false
bookish (drawn d) = false
bookish released = false

-- the engine was never taken
abbrev pub untaken : List Event → Bool
untaken [] = true
untaken (e ∷ h) = bookish e && untaken h

-- a free engine is as it was, or was taken and cleared; in any other stage it is taken
abbrev pub Kept : {E : Type 0} → (E → List ℕ) → Stage E → List Event → E → Type 0
Kept meaning (Free e) h e₀ = MatchBool (untaken h) (e ≡ e₀) (meaning e ≡ zeros)
Kept meaning (AddingSealing s) h e₀ = untaken h ≡ false
Kept meaning (Writing s) h e₀ = untaken h ≡ false
Kept meaning (AddingOpening o) h e₀ = untaken h ≡ false
Kept meaning (ReadyToOpen o) h e₀ = untaken h ≡ false
Kept meaning (Fed f) h e₀ = untaken h ≡ false
Kept meaning (Drawn d) h e₀ = untaken h ≡ false

-- the first n calls of a script xs ran on the book b: the script is then ys, the book b'
pub record Outcome (rule : List ℕ → List ℕ) {L : Type 0} (string : L → List ℕ) (b : NonceBook) (xs : List (Step L)) (n : ℕ) (b' : NonceBook) (ys : List (Step L)) : Type 0 where
  -- an allowed list runs to its end, another to its first misplaced call
  pub far : n ≡ how_far (calls xs) (start b)
  -- the law of all that ran
  pub law : Lawful rule (history string n xs ys)
  -- what did not run is as it was
  pub rest : (j : ℕ) (d : Step L) → n ≤ j → slice_index_or ys j d ≡ slice_index_or xs j d
  -- every call that ran is told what it asks
  pub replies : (j : ℕ) (d : Step L) → j < n → Replied (get_or xs j d).call (get_or ys j d).reply
  -- every call still brings what it brought, but for what stands in its buffer
  pub asks : (j : ℕ) (d : Step L) → asked (get_or ys j d).call ≡ asked (get_or xs j d).call
  -- each nonce issued is the name and the count, which it raised by one; 5 came at the last count alone
  pub nonces : IssuesAlong b.name b.count (history string n xs ys)
  pub name : b'.name ≡ b.name
  pub count : b'.count ≡ b.count + issued_in (history string n xs ys)

-- the same of a run on the engine e that stands in the stage s
pub record RanCalls {E : Type 0} (meaning : E → List ℕ) (rule : List ℕ → List ℕ) {L : Type 0} (string : L → List ℕ) (b : NonceBook) (e : E) (xs : List (Step L)) (s : Stage E) (n : ℕ) (b' : NonceBook) (ys : List (Step L)) : Type 0 where
  pub outcome : Outcome rule string b xs n b' ys
  pub engine : Kept meaning s (history string n xs ys) e

-- the same of a run on the engine e that has ended: an engine that was taken comes back cleared, one that never was is as it was
pub record Runs {E : Type 0} (meaning : E → List ℕ) (rule : List ℕ → List ℕ) {L : Type 0} (string : L → List ℕ) (b : NonceBook) (e : E) (xs : List (Step L)) (r : Ended E) (b' : NonceBook) (ys : List (Step L)) : Type 0 where
  pub outcome : Outcome rule string b xs r.ran b' ys
  pub engine : MatchBool (untaken (history string r.ran xs ys)) (r.engine ≡ e) (meaning r.engine ≡ zeros)
