-- How a call that ran is shown: its number, its words, what it is answered.
use Rattle.std.specs.Prelude.{ℕ, ◌+◌, List, [], ◌∷◌, ◌++◌, vec_items, codes, decimal}
use Rattle.engine.specs.Refusals.{refused}
use Rattle.hex_text.specs.Hex.{hex}
use Rattle.runs.specs.Names.{call_name}
use Rattle.runs.specs.declared.script.Call.{Call}
use Rattle.runs.specs.declared.script.Call.TheVariants.{Issue, StartSealing, StartOpening, Add, Close, Write, Finish, Open, BeginDigest, Feed, FeedList, EndFeeding, Draw, Release}
use Rattle.runs.specs.declared.script.Reply.{Reply}
use Rattle.runs.specs.declared.script.Reply.TheVariants.{NotRun, Done, Nonce, Length, Tag, Refused}
use Rattle.runs.specs.declared.script.Step.{Step}

-- a string: its hex digits, and `-` for the empty one
abbrev pub shown : List ℕ → List ℕ
shown [] = codes "-"
shown (b ∷ s) = hex (b ∷ s)

-- a reply
abbrev pub told : Reply → List ℕ
told NotRun = codes "not run"
told Done = codes "done"
told (Nonce n) = hex n
told (Length n) = decimal n
told (Tag t) = hex t
told (Refused e) = refused e

-- a reply, and the buffer behind it
abbrev pub buffered : Reply → List ℕ → List ℕ
buffered r s = told r ++ (codes " " ++ shown s)

-- what a call is answered: a sealing does not show the nonce that it took, a draw shows its buffer, write and open show
-- theirs behind the reply
abbrev pub answer : {L : Type 0} → Call L → Reply → List ℕ
answer Issue r = told r
answer (StartSealing k i) r = codes "done"
answer (StartOpening k n) r = told r
answer (Add p) r = told r
answer Close r = told r
answer (Write p b) r = buffered r (vec_items b)
answer Finish r = told r
answer (Open s b) r = buffered r (vec_items b)
answer BeginDigest r = told r
answer (Feed p) r = told r
answer (FeedList l) r = told r
answer EndFeeding r = told r
answer (Draw b) r = shown (vec_items b)
answer Release r = told r

-- the line of the call of this number
abbrev pub line : {L : Type 0} → ℕ → Step L → List ℕ
line n x = decimal n ++ (codes " " ++ (call_name x.call ++ (codes ": " ++ (answer x.call x.reply ++ codes "\n"))))

-- the lines of calls that are numbered from n on
abbrev pub lines : {L : Type 0} → ℕ → List (Step L) → List ℕ
lines n [] = []
lines n (x ∷ xs) = line n x ++ lines (n + 1) xs
