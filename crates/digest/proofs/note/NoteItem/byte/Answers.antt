use Rattle.std.proofs.Common.{◌≡◌, ℕ, ◌+◌, ◌<◌, ◌∷◌, ◌∙◌, sym, get_or, take, ap, arith, rules}
use Rattle.std.proofs.lemmas.List.{take_all}
use Rattle.digest.specs.Notes.{text_len, note_bytes}
use Rattle.digest.specs.NotesLemmas.{note_bytes-take}
use Rattle.digest.proofs.note.NoteItem.byte.Goals as goal

pub returns-in-Some : goal.returns-in-Some
returns-in-Some c =
    let n = c.args.self.now in
    let small : (i : ℕ) → get_or (take (text_len n) n.text) i 0 < 256 = λ i. rw (← c.text-text.ensures) (search rules) in
    let string : note_bytes n ≡ text_len n ∷ c.text-text.result.now = note_bytes-take n (search rules) small ∙ ap (λ s. text_len n ∷ s) (sym c.text-text.ensures) in
    let next : c.args.place ≡ c.in-Some.i + 1 = omega arith in
    rw (string, next) (search (rules, take_all))
