-- The number that a call answers. Faults are looked for in an order, and the first that is found is the answer.
use Rattle.std.specs.Prelude.{ℕ, Bool, cond, Ok, Err, Result}
use Rattle.engine.specs.Refusals.{number}
use Rattle.engine.specs.declared.refusal.Refusal.{Refusal}

-- the answer of a call that did what it is for
abbrev pub done : ℕ
done = 0

-- the number n if something does not hold, and otherwise what is answered next
abbrev pub unless : Bool → ℕ → ℕ → ℕ
unless holds n next = cond holds next n

-- the number of what a call of the library answered
abbrev pub answer_of : {X : Type 0} → Result X Refusal → ℕ
answer_of (Ok x) = done
answer_of (Err e) = number e
