-- What the console's answer to an input has to do with a run.
use Rattle.std.specs.Prelude.{ℕ, List, vec_items, Vec}
use Rattle.std.specs.List.{flat_map}
use Rattle.std.specs.declared.alloc.Global.{Global}
use Rattle.cipher.specs.declared.book.NonceBook.{NonceBook}
use Rattle.digest.specs.ForceWords.{force_bytes}
use Rattle.digest.specs.Notes.{note_bytes}
use Rattle.digest.specs.declared.force_word.ForceWord.{ForceWord}
use Rattle.digest.specs.declared.note.Note.{Note}
use Rattle.gimli.specs.Strings.{gimli}
use Rattle.runs.specs.Lists.{Either, either}
use Rattle.runs.specs.Runs.{Outcome}
use Rattle.runs.specs.declared.script.Step.{Step}
use Rattle.bench_console.specs.declared.screen.Screen.{Screen}
use Rattle.bench_console.specs.declared.screen.Screen.TheVariants.{NotUnderstood, Refused, Ran}

-- the lists that a digest can be fed: force words, or notes
abbrev pub Lists : Type 0
Lists = Either (Vec ForceWord Global) (Vec Note Global)

-- the string of such a list
abbrev pub list_string : Lists → List ℕ
list_string = either (λ v. flat_map force_bytes (vec_items v)) (λ v. flat_map note_bytes (vec_items v))

-- the screen shows the run of a script on a book, over an engine's rule
abbrev pub ShowsRun : (List ℕ → List ℕ) → NonceBook → List (Step Lists) → Screen → Type 0
ShowsRun rule book script (NotUnderstood l) = ⊥
ShowsRun rule book script (Refused l e) = ⊥
ShowsRun rule book script (Ran run) = (left : NonceBook) × Outcome rule list_string book script run.ran left (vec_items run.steps)

-- whatever the input: a run that is shown is the run of some script on some book over the Gimli rule, with all that the
-- law of runs says of it
abbrev pub ConsoleShows : Screen → Type 0
ConsoleShows (NotUnderstood l) = Unit {0}
ConsoleShows (Refused l e) = Unit {0}
ConsoleShows (Ran run) = (book : NonceBook) × (script : List (Step Lists)) × ShowsRun gimli book script (Ran run)
