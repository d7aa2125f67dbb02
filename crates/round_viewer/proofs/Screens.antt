-- What is shown for an input, from the answer to it.
use Rattle.std.proofs.Common.{◌≡◌, ℕ, List, ◌++◌, take, Ok, Err, Result, ap, ◌∙◌, ap₂, arith}
use Rattle.std.specs.Prelude.{codes}
use Rattle.std.specs.Fmt.{digits, decimal}
use Rattle.std.proofs.lemmas.List.{length-take, take_all}
use Rattle.engine.specs.declared.refusal.Refusal.{Refusal}
use Rattle.gimli.specs.Permutation.{first_rounds}
use Rattle.gimli.specs.Strings.{state}
use Rattle.gimli.specs.declared.state.State.{State}
use Rattle.round_viewer.specs.Lines.{lines, answer_text}
use Rattle.round_viewer.specs.Views.{Answers, Views}
use Rattle.round_viewer.proofs.Requests.{asks_one, asked_long}

rows_shown : (input : List ℕ) (t : State) → Answers input (Ok t) → Views input (lines t)
rows_shown input t (n, s, asks, is) = record {
  shown = λ m r asked. let one = asks_one input n m s r asks asked in ap lines (is ∙ ap₂ (λ (k : ℕ) (l : List ℕ). first_rounds k (state l)) one.0 one.1);
  refused = λ none. absurd (none n s asks);
}

refusal-shown : (input : List ℕ) (e : Refusal) → Answers input (Err e) → Views input (answer_text (Err e))
unfolding digits
refusal-shown input e (is, none) = record {
  shown = λ n s asked. absurd (none n s asked);
  refused = λ _. ap (λ (k : ℕ). codes "refused " ++ decimal k ++ codes "\n") is;
}

pub answer_shown : (input : List ℕ) (r : Result State Refusal) → Answers input r → Views input (answer_text r)
answer_shown input (Ok t) answers = rows_shown input t answers
answer_shown input (Err e) answers = refusal-shown input e answers

-- a request is known by a byte more than it has: what is shown for so much of an input is shown for the whole of it
pub whole_shown : (input output : List ℕ) → Views (take 101 input) output → Views input output
whole_shown input output front = record {
  shown = λ n s asked.
      let all : take 101 input ≡ input = take_all 101 input (omega (arith, asked_long input n s asked)) in
      front.shown n s (rw all asked);
  refused = λ none.
      front.refused
      (λ n s asked.
      let all : take 101 input ≡ input = take_all 101 input (omega (arith, length-take 101 input, asked_long (take 101 input) n s asked)) in
      none n s (rw all at asked));
}
