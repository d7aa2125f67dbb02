-- What the viewer writes for each input.
use Rattle.std.specs.Prelude.{◌≡◌, ℕ, List, Ok, Err, codes, Result}
use Rattle.engine.specs.Refusals.{number}
use Rattle.engine.specs.declared.refusal.Refusal.{Refusal}
use Rattle.gimli.specs.Permutation.{first_rounds}
use Rattle.gimli.specs.Strings.{state}
use Rattle.gimli.specs.declared.state.State.{State}
use Rattle.round_viewer.specs.Lines.{lines}
use Rattle.round_viewer.specs.Requests.{Asks}

-- the state that the input asks for, the first n rounds on the state of s; refused with 11 if it asks for none
abbrev pub Answers : List ℕ → Result State Refusal → Type 0
Answers input (Ok t) = (n : ℕ) × (s : List ℕ) × Asks input n s × (t ≡ first_rounds n (state s))
Answers input (Err e) = (number e ≡ 11) × ((n : ℕ) (s : List ℕ) → Asks input n s → ⊥)

-- a request is answered by the lines of its state, and any other input by the one line of the refusal
pub record Views (input output : List ℕ) : Type 0 where
  pub shown : (n : ℕ) (s : List ℕ) → Asks input n s → output ≡ lines (first_rounds n (state s))
  pub refused : ((n : ℕ) (s : List ℕ) → Asks input n s → ⊥) → output ≡ codes "refused 11\n"
