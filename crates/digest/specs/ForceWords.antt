-- The string of a force word.
use Rattle.std.specs.Prelude.{ℕ, List}
use Rattle.std.specs.Int.{w32, to_le_bytes}
use Rattle.digest.specs.declared.force_word.ForceWord.{ForceWord}

-- its four bytes, lowest first
abbrev pub force_bytes : ForceWord → List ℕ
force_bytes w = to_le_bytes w32 w.word
