-- The lines of calls, one more at the end.
use Rattle.std.proofs.Common.{◌≡◌, ℕ, ◌+◌, ◌<◌, List, [], ◌∷◌, ◌++◌, length, get_or, take, sym, ap, ◌∙◌, arith}
use Rattle.std.proofs.lemmas.List.{append-nil, append_assoc, length-take-le, take_more}
use Rattle.runs.specs.declared.script.Step.{Step}
use Rattle.bench_console.specs.Answers.{line, lines}

module _ {L : Type 0} where
  lines_further : (n k : ℕ) (xs : List (Step L)) (x : Step L) → k ≡ n + length xs → lines n xs ++ line k x ≡ lines n (xs ++ x ∷ [])
  lines_further n k [] x is = let at : k ≡ n = omega arith in ap (λ (m : ℕ). line m x) at ∙ sym (append-nil (line n x))
  lines_further n k (y ∷ xs) x is =
      append_assoc (line n y) (lines (n + 1) xs) (line k x)
      ∙ ap (λ (l : List ℕ). line n y ++ l) (lines_further (n + 1) k xs x (omega arith))

  pub lines_at : (xs : List (Step L)) (i : ℕ) (x : Step L) → i < length xs → x ≡ get_or xs i x → lines 1 (take i xs) ++ line (i + 1) x ≡ lines 1 (take (i + 1) xs)
  lines_at xs i x lt is =
      lines_further 1 (i + 1) (take i xs) x (omega (arith, length-take-le i xs (omega arith)))
      ∙ ap (λ (y : Step L). lines 1 (take i xs ++ y ∷ [])) is
      ∙ ap (lines 1) (sym (take_more xs i x lt))
