-- How far a run comes: to the end of its list at most.
use Rattle.std.proofs.Common.{ℕ, ◌+◌, ◌≤◌, List, [], ◌∷◌, length, Option, None, Some, arith}
use Rattle.std.proofs.lemmas.List.{length-map}
use Rattle.cipher.specs.declared.book.NonceBook.{NonceBook}
use Rattle.runs.specs.Allowed.{Place, next_place, one_more, how_far}
use Rattle.runs.specs.Runs.{Outcome, calls, start}
use Rattle.runs.specs.declared.script.Call.{Call}
use Rattle.runs.specs.declared.script.Step.{Step}

one_more-le : (q : Option Place) (rest : Place → ℕ) (n : ℕ) → ((p : Place) → rest p ≤ n) → one_more q rest ≤ n + 1
one_more-le None rest n le = omega arith
one_more-le (Some p) rest n le = omega (arith, le p)

module _ {L : Type 0} where
  how_far-le-length : (cs : List (Call L)) (p : Place) → how_far cs p ≤ length cs
  how_far-le-length [] p = omega arith
  how_far-le-length (c ∷ cs) p = omega (arith, one_more-le (next_place p c) (how_far cs) (length cs) (how_far-le-length cs))

  pub ran-le-length : {rule : List ℕ → List ℕ} {string : L → List ℕ} {b b' : NonceBook} {n : ℕ} {ys : List (Step L)} (xs : List (Step L)) → Outcome rule string b xs n b' ys → n ≤ length xs
  ran-le-length {b = b} xs ran = omega (arith, ran.far, how_far-le-length (calls xs) (start b), length-map xs (λ (x : Step L). x.call))
