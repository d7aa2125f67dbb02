-- How a request is written.
use Rattle.std.specs.Prelude.{◌≡◌, ℕ, ◌+◌, ◌/◌, ◌%◌, ◌≤◌, List, [], ◌∷◌, ◌++◌}
use Rattle.engine.specs.Strings.{Whole}
use Rattle.hex_text.specs.Hex.{hex}

-- the numbers of rounds that can be asked for
pub record Rounds (n : ℕ) : Type 0 where
  pub least : 1 ≤ n
  pub most : n ≤ 24

-- the two decimal digits of a number below 100
abbrev pub decimal : ℕ → List ℕ
decimal n = (48 + n / 10) ∷ (48 + n % 10) ∷ []

-- the layout of a request: the digits of a number, a space, the digits of a string, a newline
abbrev pub layout : List ℕ → List ℕ → List ℕ
layout count digits = count ++ 32 ∷ digits ++ 10 ∷ []

-- the request for n rounds on the string s
abbrev pub request : ℕ → List ℕ → List ℕ
request n s = layout (decimal n) (hex s)

-- the input asks for n rounds on the state whose string is s
pub record Asks (input : List ℕ) (n : ℕ) (s : List ℕ) : Type 0 where
  pub rounds : Rounds n
  pub whole : Whole s
  pub written : input ≡ request n s
