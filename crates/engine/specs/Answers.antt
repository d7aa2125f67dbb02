-- What the two calls of an engine that can refuse answer, and what they leave.
use Rattle.std.specs.Prelude.{◌≡◌, ℕ, ◌<◌, ◌≤◌, List, Ok, Err, Result, slice_index}
use Rattle.engine.specs.Strings.{width, xored}
use Rattle.engine.specs.declared.refusal.Refusal.{Refusal}
use Rattle.engine.specs.Refusals.{number}

-- xor_byte: done within the state; past it refused with 1, and the string is as it was
abbrev pub Xored : List ℕ → ℕ → ℕ → Result Unit Refusal → List ℕ → Type 0
Xored before place b (Ok x) after = (place < width) × (after ≡ xored before place b)
Xored before place b (Err e) after = (width ≤ place) × (number e ≡ 1) × (after ≡ before)

-- byte: the byte at a place within the state; past it refused with 1
abbrev pub Read : List ℕ → ℕ → Result ℕ Refusal → Type 0
Read s place (Ok b) = (place < width) × (b ≡ slice_index s place)
Read s place (Err e) = (width ≤ place) × (number e ≡ 1)
