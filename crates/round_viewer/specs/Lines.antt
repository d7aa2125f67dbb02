-- What is shown: a state as three lines, or a refusal as one.
use Rattle.std.specs.Prelude.{ℕ, ◌/◌, ◌%◌, ◌^◌, List, [], ◌∷◌, ◌++◌, Ok, Err, Result, codes, slice_index}
use Rattle.engine.specs.Refusals.{refused}
use Rattle.engine.specs.declared.refusal.Refusal.{Refusal}
use Rattle.gimli.specs.declared.state.State.{State}
use Rattle.hex_text.specs.Hex.{hex}
use Rattle.round_viewer.specs.declared.view.Screen.{Screen}

-- the eight hex digits of a word, the highest first
abbrev pub word : ℕ → List ℕ
word w = hex (w / 2 ^ 24 % 256 ∷ w / 2 ^ 16 % 256 ∷ w / 2 ^ 8 % 256 ∷ w % 256 ∷ [])

-- a row: its four words, spaces between them, a newline
abbrev pub line : List ℕ → List ℕ
line r = word (slice_index r 0) ++ 32 ∷ word (slice_index r 1) ++ 32 ∷ word (slice_index r 2) ++ 32 ∷ word (slice_index r 3) ++ 10 ∷ []

-- the rows of a state, from the top
abbrev pub lines : State → List ℕ
lines s = line s.top ++ line s.middle ++ line s.bottom

-- the state that is answered, by its lines, or the refusal in one line
abbrev pub answer_text : Result State Refusal → List ℕ
answer_text (Ok s) = lines s
answer_text (Err e) = refused e ++ codes "\n"

-- a screen as it is displayed
abbrev pub text : Screen → List ℕ
text s = answer_text s.0
