use Rattle.std.proofs.Common.{◌≡◌, ℕ, ◌*◌, ◌/◌, ◌%◌, ◌^◌, ◌<◌, List, get_or, sym, ap, ◌∙◌, div-one, arith}
use lib.Bits.{bit_and}
use Rattle.std.specs.Int.{w32, to_le_bytes}
use Rattle.std.proofs.lemmas.Nat.{and_mask}
use Rattle.gimli.specs.Four.{by_four}
use Rattle.gimli.specs.Strings.{row_of}
use Rattle.gimli.specs.StringsLemmas.{byte_read}
use Rattle.gimli.proofs.state.State.byte.Goals as goal
use Rattle.gimli.proofs.state.State.byte.Goals.{in-0, in-1, in_default}

le_byte : (w k : ℕ) → k < 4 → get_or (to_le_bytes w32 w) k 0 ≡ bit_and (w / 2 ^ (8 * k)) 255
le_byte w =
    by_four (λ k. get_or (to_le_bytes w32 w) k 0 ≡ bit_and (w / 2 ^ (8 * k)) 255)
    (ap (λ (x : ℕ). x % 256) (sym (div-one w)) ∙ sym (and_mask (w / 2 ^ 0) 8)) (sym (and_mask (w / 2 ^ 8) 8)) (sym (and_mask (w / 2 ^ 16) 8)) (sym (and_mask (w / 2 ^ 24) 8))

pub returns : goal.returns
returns c =
    let s = c.args.self.now in
    let place = c.args.place in
    let from_row : c.match-place-div16.word ≡ get_or (row_of s (place / 16)) (place % 16 / 4) 0 =
    elim c.match-place-div16.branch [
      | in-0 w ↦ let i : place / 16 ≡ 0 = omega arith in rw i w.word-is
      | in-1 w ↦ let i : place / 16 ≡ 1 = omega arith in rw i w.word-is
      | in_default w ↦ let i : place / 16 ≡ 2 = omega arith in rw i w.word-is
    ] in (
      c.if-place-ge-WIDTH.false,
      ap (λ (b : List ℕ). get_or b (place % 4) 0) c.to_le_bytes.ensures
          ∙ le_byte c.match-place-div16.word (place % 4) (omega arith)
          ∙ byte_read s place c.match-place-div16.word c.if-place-ge-WIDTH.false from_row,
    )
