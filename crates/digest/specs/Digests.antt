-- What a digest has been fed, and what has been drawn from it.
use Rattle.std.specs.Prelude.{◌≡◌, ℕ, List}
use Rattle.engine.specs.Strings.{Whole, zeros}
use Rattle.sponge.specs.Blocks.{absorbed}
use Rattle.sponge.specs.Steps.{standing, absorbing, squeezing}
use Rattle.digest.specs.declared.feeding.Feeding.{Feeding}
use Rattle.digest.specs.declared.drawing.Drawing.{Drawing}

-- the string m has been fed, from zeros on
abbrev pub Fed : {E : Type 0} → (E → List ℕ) → (List ℕ → List ℕ) → Feeding E → List ℕ → Type 0
Fed meaning rule f m = standing meaning f.sponge ≡ absorbing rule zeros m

-- the string m has been fed and ended, and the first n bytes of its long output have been drawn
pub record Drawn {E : Type 0} (meaning : E → List ℕ) (rule : List ℕ → List ℕ) (d : Drawing E) (m : List ℕ) (n : ℕ) : Type 0 where
  -- what the string leaves fills a state, so each block of output is full
  pub whole : Whole (absorbed rule zeros m)
  pub state : standing meaning d.sponge ≡ squeezing rule (absorbed rule zeros m) n
