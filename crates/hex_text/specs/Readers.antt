-- What a reader answers: the value that was written, and none where no value is written so.
use Rattle.std.specs.Prelude.{◌≡◌, ℕ, List, length, Some, None, vec_items, Option, Vec, ◌≢◌}
use Rattle.std.specs.Option.{option_map}
use Rattle.engine.specs.Strings.{Bytes}

-- of the values that are sound, the one that is written as t
abbrev pub Reads : {A T : Type 0} → (A → Type 0) → (A → T) → T → Option A → Type 0
Reads Sound written t (Some x) = Sound x × (t ≡ written x)
Reads {A} Sound written t None = (x : A) → Sound x → t ≢ written x

-- the string that a Vec holds, if there is one
abbrev pub held : {Z : Type 0} → Option (Vec ℕ Z) → Option (List ℕ)
held (Some v) = Some (vec_items v)
held None = None

-- the string of bytes that is written as t
abbrev pub ReadsString : {Z : Type 0} → (List ℕ → List ℕ) → List ℕ → Option (Vec ℕ Z) → Type 0
ReadsString written t o = Reads Bytes written t (held o)

-- a string of n bytes
pub record IsString (n : ℕ) (s : List ℕ) : Type 0 where
  pub long : length s ≡ n
  pub bytes : Bytes s

-- the string of n bytes that is written as t, which then stands in a buffer
abbrev pub ReadsInto : (List ℕ → List ℕ) → ℕ → List ℕ → Option Unit → List ℕ → Type 0
ReadsInto written n t o after = Reads (IsString n) written t (option_map (λ _. after) o)
