-- The number of each refusal, and how a refusal is printed.
use Rattle.std.specs.Prelude.{ℕ, List, ◌++◌, codes, decimal}
use Rattle.engine.specs.declared.refusal.Refusal.{Refusal}
use Rattle.engine.specs.declared.refusal.Refusal.TheVariants.{PlaceOutsideState, MaskLength, KeyLength, NameLength, BookUsedUp, NonceLength, BufferTooShort, BoxTooShort, TagDiffers, NoteLength, ViewerInput}

abbrev pub number : Refusal → ℕ
number PlaceOutsideState = 1
number MaskLength = 2
number KeyLength = 3
number NameLength = 4
number BookUsedUp = 5
number NonceLength = 6
number BufferTooShort = 7
number BoxTooShort = 8
number TagDiffers = 9
number NoteLength = 10
number ViewerInput = 11

-- the text of a refusal: the word, and its number
abbrev pub refused : Refusal → List ℕ
refused e = codes "refused " ++ decimal (number e)
