-- How a script is cut into lines, and a line into words.
use Rattle.std.specs.Prelude.{ℕ, not, List, length, map, ◌==◌}
use Rattle.std.specs.Borrow.{Bor}
use Rattle.std.specs.List.{slice_split, filter}

-- the pieces between the marks of a text
abbrev pub pieces : ℕ → List ℕ → List (List ℕ)
pieces mark text = slice_split (λ x. x == mark) text

-- those that are not empty
abbrev pub filled : List (List ℕ) → List (List ℕ)
filled ps = filter (λ p. not (length p == 0)) ps

-- lines end at newlines
abbrev pub lines : List ℕ → List (List ℕ)
lines text = pieces 10 text

-- words stand between spaces, one or more
abbrev pub words : List ℕ → List (List ℕ)
words line = filled (pieces 32 line)

-- the texts that are lent
abbrev pub texts : List (Bor (List ℕ)) → List (List ℕ)
texts ts = map (λ t. t.now) ts
