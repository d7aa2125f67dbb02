-- The string of a force word: four bytes, so no word's begins another's.
use Rattle.std.specs.Prelude.{◌≡◌, ℕ, ◌<◌, List, ◌++◌, length}
use Rattle.std.proofs.Common.{rules}
use Rattle.engine.specs.Strings.{Bytes}
use Rattle.digest.specs.ForceWords.{force_bytes}
use Rattle.digest.specs.declared.force_word.ForceWord.{ForceWord}

pub force_nonempty : (w : ForceWord) → 0 < length (force_bytes w)
force_nonempty w = search rules

pub force_each_byte : (w : ForceWord) → Bytes (force_bytes w)
force_each_byte w = search rules

pub force_prefix_free : (a b : ForceWord) (t : List ℕ) → force_bytes a ++ t ≡ force_bytes b → force_bytes a ≡ force_bytes b
force_prefix_free a b t e = search rules
