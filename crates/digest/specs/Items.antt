-- Items by their strings, alone and in lists.
use Rattle.std.specs.Prelude.{◌≡◌, ℕ, ◌<◌, ◌≤◌, List, map, length, Some, None, Option, slice_index}
use Rattle.std.specs.List.{flat_map}

-- the byte at a place of a string; past the end there is none
abbrev pub ByteAt : List ℕ → ℕ → Option ℕ → Type 0
ByteAt s place None = length s ≤ place
ByteAt s place (Some b) = (place < length s) × (b ≡ slice_index s place)

-- a list can be told from its joined string: any list of the kind with that string is equal to it, string by string
abbrev pub Told : {I : Type 0} → (I → List ℕ) → List I → Type 0
Told {I = I} bytes items = (others : List I) → flat_map bytes items ≡ flat_map bytes others → map bytes items ≡ map bytes others
