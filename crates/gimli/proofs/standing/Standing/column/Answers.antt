use Rattle.std.proofs.Common.{ℕ, get_or, sym, ap, ◌∙◌}
use lib.Bits.{bit_xor}
use Rattle.gimli.specs.Four.{row_at}
use Rattle.gimli.specs.Permutation.{Column}
use Rattle.gimli.specs.Standing.{meant}
use Rattle.gimli.proofs.standing.Standing.column.Goals as goal

pub returns : goal.returns
unfolding meant
returns c =
    let s = c.args.self in
    let j = c.args.j in
    let with_top : ℕ → Column = λ w. (w, get_or s.stored.middle j 0, get_or s.stored.bottom j 0) in
    ap (λ (p : ℕ). with_top (get_or s.stored.top p 0)) c.place.ensures.value
    ∙ ap with_top (sym (row_at (λ j. get_or s.stored.top (bit_xor j s.k) 0) j c.requires))
