use Rattle.std.proofs.Common.{length, ap, arith}
use Rattle.std.proofs.lemmas.List.{length-take-le}
use Rattle.digest.specs.Notes.{text_len}
use Rattle.digest.specs.NotesLemmas.{length-text}
use Rattle.digest.proofs.note.NoteItem.len.Goals as goal

pub returns : goal.returns
returns c =
    let n = c.args.self.now in
    omega (arith, length-text n, ap length c.text.ensures, length-take-le (text_len n) n.text (omega arith))
