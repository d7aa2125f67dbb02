-- The string of a note, by its places.
use Rattle.std.specs.Prelude.{◌≡◌, ℕ, zero, suc, ◌+◌, ◌-◌, ◌%◌, ◌<◌, ◌≤◌, List, ◌∷◌, ◌++◌, map, length, take, replicate, slice_index, refl}
use Rattle.std.proofs.Common.{sym, ap, ◌∙◌, inl, inr, arith}
use Rattle.std.specs.List.{range_with_len}
use Rattle.std.proofs.lemmas.List.FromFn.{length-map-range_with_len, get_or-map-range_with_len, fill_by_all}
use Rattle.std.proofs.lemmas.List.{get_or_append_left, get_or_past, get_or-take, length-take-le}
use Rattle.std.proofs.lemmas.Bool.{cases_lt}
use Rattle.digest.specs.Notes.{longest, text_len, text_bytes, note_bytes, noted}
use Rattle.digest.specs.declared.note.Note.{Note}
use Rattle.digest.specs.Told.{whole_front}

-- the byte of the text at a place
abbrev letter : Note → ℕ → ℕ
letter n i = slice_index n.text i % 256

pub length-text : (n : Note) → length (text_bytes n) ≡ text_len n
unfolding text_bytes
length-text n = length-map-range_with_len (letter n) 0 (text_len n)

-- the string of a note whose text's numbers are bytes
pub note_bytes-take : (n : Note) → longest ≤ length n.text → ((i : ℕ) → slice_index (take (text_len n) n.text) i < 256) → note_bytes n ≡ text_len n ∷ take (text_len n) n.text
unfolding text_bytes
note_bytes-take n long small =
    let text = take (text_len n) n.text in
    let letters : text ≡ text_bytes n =
    fill_by_all (letter n) text (text_len n) 0 (length-take-le (text_len n) n.text (omega arith))
    (λ i h. let kept = get_or-take (text_len n) n.text i 0 h in let byte = small i in omega arith) in
    ap (λ (s : List ℕ). text_len n ∷ s) (sym letters)

pub length_note : (n : Note) → length (note_bytes n) ≡ text_len n + 1
length_note n = let e = length-text n in omega arith

pub get_or_note : (n : Note) (i : ℕ) → i < text_len n → slice_index (note_bytes n) (i + 1) ≡ letter n i
unfolding text_bytes
get_or_note n i h =
    let e : i + 1 ≡ suc i = omega arith in
    ap (λ (k : ℕ). slice_index (note_bytes n) k) e ∙ get_or-map-range_with_len (letter n) 0 (text_len n) i i 0 h (omega arith)

pub note_each_byte : (n : Note) (i : ℕ) → slice_index (note_bytes n) i < 256
unfolding text_bytes
note_each_byte n zero = omega arith
note_each_byte n (suc i) =
    elim (cases_lt i (text_len n)) [
      | inl h ↦ let e = get_or-map-range_with_len (letter n) 0 (text_len n) i i 0 h (omega arith) in omega arith
      | inr h ↦ let e = get_or_past (note_bytes n) (suc i) 0 (let l = length_note n in omega arith) in omega arith
    ]

pub note_prefix_free : (a b : Note) (t : List ℕ) → note_bytes a ++ t ≡ note_bytes b → note_bytes a ≡ note_bytes b
note_prefix_free a b t e =
    let same : text_len a ≡ text_len b = ap (λ (s : List ℕ). slice_index s 0) e in
    whole_front (note_bytes a) (note_bytes b) t (length_note a ∙ ap (λ (k : ℕ). k + 1) same ∙ sym (length_note b)) e

-- the string of the note of a text
pub note_bytes-noted : (text : List ℕ) → length text ≤ longest → ((i : ℕ) → slice_index text i < 256) → note_bytes (noted text) ≡ length text ∷ text
unfolding text_bytes
note_bytes-noted text fits small =
    let n = noted text in
    let k : text_len n ≡ length text = omega arith in
    let letters : text ≡ map (letter n) (range_with_len 0 (length text)) =
    fill_by_all (letter n) text (length text) 0 refl
    (λ i h.
    let front = get_or_append_left text (replicate (longest - length text) 0) 0 i h in
    let below = small i in
    omega arith) in
    ap (λ (j : ℕ). j ∷ map (letter n) (range_with_len 0 j)) k ∙ ap (λ (s : List ℕ). length text ∷ s) (sym letters)

pub note_nonempty : (n : Note) → 0 < length (note_bytes n)
note_nonempty n = let e = length_note n in omega arith
