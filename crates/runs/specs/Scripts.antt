-- What a script's calls and replies say, and the history of a script that has run.
use Rattle.std.specs.Prelude.{◌≡◌, ℕ, zero, suc, ◌⊎◌, List, [], ◌∷◌, None, Ok, Err, vec_items, Result}
use Rattle.engine.specs.Refusals.{number}
use Rattle.engine.specs.declared.refusal.Refusal.{Refusal}
use Rattle.cipher.specs.Keys.{key_bytes}
use Rattle.cipher.specs.Nonces.{box_nonce_bytes}
use Rattle.runs.specs.History.{Answer, done, refused, Event, issued, used_up, sealing_started, opening_started, digest_begun, added, closed, written, opened, finished, fed, feeding_ended, drawn, released}
use Rattle.runs.specs.declared.script.Call.{Call}
use Rattle.runs.specs.declared.script.Call.TheVariants.{Issue, StartSealing, StartOpening, Add, Close, Write, Finish, Open, BeginDigest, Feed, FeedList, EndFeeding, Draw, Release}
use Rattle.runs.specs.declared.script.Reply.{Reply}
use Rattle.runs.specs.declared.script.Reply.TheVariants.{NotRun, Done, Nonce, Length, Tag, Refused}
use Rattle.runs.specs.declared.script.Step.{Step}

-- a step that has not run
abbrev pub fresh : {L : Type 0} → Call L → Step L
fresh c = record { call = c; reply = NotRun; nonce = None }

-- the nonce that a reply shows
abbrev pub nonce_in : Reply → List ℕ
nonce_in NotRun = []
nonce_in Done = []
nonce_in (Nonce n) = n
nonce_in (Length n) = []
nonce_in (Tag t) = []
nonce_in (Refused e) = []

-- the tag that a reply shows
abbrev pub tag_in : Reply → List ℕ
tag_in NotRun = []
tag_in Done = []
tag_in (Nonce n) = []
tag_in (Length n) = []
tag_in (Tag t) = t
tag_in (Refused e) = []

-- the length or the refusal that a reply shows; 0 is no refusal's number
abbrev pub answer_in : Reply → Answer
answer_in NotRun = refused 0
answer_in Done = refused 0
answer_in (Nonce n) = refused 0
answer_in (Length n) = done n
answer_in (Tag t) = refused 0
answer_in (Refused e) = refused (number e)

-- the reply to a call that answers a length or a refusal
abbrev pub reply_to : Result ℕ Refusal → Reply
reply_to (Ok n) = Length n
reply_to (Err e) = Refused e

-- what a reply tells
pub data Kind : Type 0 where
  not_run : Kind
  nothing_to_tell : Kind
  a_nonce : Kind
  a_length : Kind
  a_tag : Kind
  a_refusal : Kind

abbrev pub kind : Reply → Kind
kind NotRun = not_run
kind Done = nothing_to_tell
kind (Nonce n) = a_nonce
kind (Length n) = a_length
kind (Tag t) = a_tag
kind (Refused e) = a_refusal

-- what a call that has run is told
abbrev pub Replied : {L : Type 0} → Call L → Reply → Type 0
Replied Issue r = (kind r ≡ a_nonce) ⊎ (answer_in r ≡ refused 5)
Replied (StartSealing k i) r = kind r ≡ a_nonce
Replied (StartOpening k n) r = kind r ≡ nothing_to_tell
Replied (Add p) r = kind r ≡ nothing_to_tell
Replied Close r = kind r ≡ nothing_to_tell
Replied (Write p b) r = (kind r ≡ a_length) ⊎ (kind r ≡ a_refusal)
Replied Finish r = kind r ≡ a_tag
Replied (Open s b) r = (kind r ≡ a_length) ⊎ (kind r ≡ a_refusal)
Replied BeginDigest r = kind r ≡ nothing_to_tell
Replied (Feed p) r = kind r ≡ nothing_to_tell
Replied (FeedList l) r = kind r ≡ nothing_to_tell
Replied EndFeeding r = kind r ≡ nothing_to_tell
Replied (Draw b) r = kind r ≡ nothing_to_tell
Replied Release r = kind r ≡ nothing_to_tell

-- what issue did
abbrev pub issue_event : Reply → Event
issue_event NotRun = used_up
issue_event Done = used_up
issue_event (Nonce n) = issued n
issue_event (Length n) = used_up
issue_event (Tag t) = used_up
issue_event (Refused e) = used_up

-- the bytes in a call's buffer
abbrev pub buffer_in : {L : Type 0} → Call L → List ℕ
buffer_in Issue = []
buffer_in (StartSealing k i) = []
buffer_in (StartOpening k n) = []
buffer_in (Add p) = []
buffer_in Close = []
buffer_in (Write p b) = vec_items b
buffer_in Finish = []
buffer_in (Open s b) = vec_items b
buffer_in BeginDigest = []
buffer_in (Feed p) = []
buffer_in (FeedList l) = []
buffer_in EndFeeding = []
buffer_in (Draw b) = vec_items b
buffer_in Release = []

module _ {L : Type 0} (string : L → List ℕ) where
  -- what a call did that has run: the call as it was, its buffer afterwards, and its reply
  abbrev pub call_event : Call L → List ℕ → Reply → Event
  call_event Issue after r = issue_event r
  call_event (StartSealing k i) after r = sealing_started (key_bytes k) (nonce_in r)
  call_event (StartOpening k n) after r = opening_started (key_bytes k) (box_nonce_bytes n)
  call_event (Add p) after r = added (vec_items p)
  call_event Close after r = closed
  call_event (Write p b) after r = written (vec_items p) (vec_items b) after (answer_in r)
  call_event Finish after r = finished (tag_in r)
  call_event (Open s b) after r = opened (vec_items s) (vec_items b) after (answer_in r)
  call_event BeginDigest after r = digest_begun
  call_event (Feed p) after r = fed (vec_items p)
  call_event (FeedList l) after r = fed (string l)
  call_event EndFeeding after r = feeding_ended
  call_event (Draw b) after r = drawn after
  call_event Release after r = released

  -- a step before and after it ran
  abbrev pub event : Step L → Step L → Event
  event x y = call_event x.call (buffer_in y.call) y.reply

  -- the first n steps of a script before and after they ran
  abbrev pub history : ℕ → List (Step L) → List (Step L) → List Event
  history zero xs ys = []
  history (suc n) [] ys = []
  history (suc n) (x ∷ xs) [] = []
  history (suc n) (x ∷ xs) (y ∷ ys) = event x y ∷ history n xs ys
