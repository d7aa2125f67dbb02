-- What the readers of a request answer: the parts and the values that were written, and none where nothing is written so.
use Rattle.std.specs.Prelude.{◌≡◌, ℕ, List, [], ◌∷◌, Some, None, Option, ◌≢◌}
use Rattle.std.specs.Borrow.{Bor}
use Rattle.round_viewer.specs.Requests.{layout, Asks}
use Rattle.round_viewer.specs.declared.request.Request.{Request}

-- the parts of an input that is laid out as a request: the two digits of its number, and the digits of its string
abbrev pub Parts : List ℕ → Option (ℕ × ℕ × Bor (List ℕ)) → Type 0
Parts input (Some (tens, ones, digits)) = input ≡ layout (tens ∷ ones ∷ []) digits.now
Parts input None = (tens ones : ℕ) (digits : List ℕ) → input ≢ layout (tens ∷ ones ∷ []) digits

-- the request that the input is
abbrev pub Parses : List ℕ → Option Request → Type 0
Parses input (Some q) = Asks input q.rounds q.string
Parses input None = (n : ℕ) (s : List ℕ) → Asks input n s → ⊥
