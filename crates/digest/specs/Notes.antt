-- The string of a note, and what makes one.
use Rattle.std.specs.Prelude.{◌≡◌, ℕ, ◌-◌, ◌%◌, ◌<◌, ◌≤◌, min, List, ◌∷◌, ◌++◌, map, length, replicate, Ok, Err, Result, slice_index}
use Rattle.std.specs.List.{range_with_len}
use Rattle.engine.specs.Refusals.{number}
use Rattle.engine.specs.declared.refusal.Refusal.{Refusal}
use Rattle.digest.specs.declared.note.Note.{Note}

-- how many bytes a text may have
abbrev pub longest : ℕ
longest = 28

-- how many bytes the text of a note has: its length is read as at most 28
abbrev pub text_len : Note → ℕ
text_len n = min n.len longest

-- the text of a note
unfoldable pub text_bytes : Note → List ℕ
text_bytes n = map (λ i. slice_index n.text i % 256) (range_with_len 0 (text_len n))

-- the string of a note: its text's length, then its text
abbrev pub note_bytes : Note → List ℕ
note_bytes n = text_len n ∷ text_bytes n

-- the note of a text: behind the text stand zeros
abbrev pub noted : List ℕ → Note
noted text = record { len = length text; text = text ++ replicate (longest - length text) 0 }

-- a text made into a note; one that is longer than 28 bytes is refused with 10
abbrev pub Noted : List ℕ → Result Note Refusal → Type 0
Noted text (Ok n) = (length text ≤ longest) × (n ≡ noted text) × (note_bytes n ≡ length text ∷ text)
Noted text (Err e) = (longest < length text) × (number e ≡ 10)
