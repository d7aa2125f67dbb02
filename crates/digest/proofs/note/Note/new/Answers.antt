use Rattle.std.proofs.Common.{ℕ, List, ◌++◌, length, drop, replicate, ap, ◌∙◌, arith}
use Rattle.std.proofs.lemmas.List.{drop-replicate}
use Rattle.digest.specs.Notes.{longest, note_bytes}
use Rattle.digest.specs.declared.note.Note.{Note}
use Rattle.digest.specs.NotesLemmas.{note_bytes-noted}
use Rattle.digest.proofs.note.Note.new.Goals as goal

pub returns : goal.returns
returns c =
    let text = c.args.text.now in
    let n = length text in
    let of : List ℕ → Note = λ all. record { len = n; text = all } in
    let is = ap (λ (s : List ℕ). of (s ++ drop n (replicate longest 0))) c.copy_from_slice.ensures.after ∙ ap (λ (s : List ℕ). of (text ++ s)) (drop-replicate n longest 0) in
    (omega arith, is, ap note_bytes is ∙ note_bytes-noted text (omega arith) (λ i. omega (arith, c.type_inv.text i)))
