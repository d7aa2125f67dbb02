use Rattle.std.proofs.Common.{◌≡◌, length, get_or, refl, ap, ◌∙◌, rules}
use Rattle.gimli.specs.Permutation.{row, column, from_columns, sp_box, columns}
use Rattle.gimli.specs.Standing.{meant}
use Rattle.gimli.specs.StringsLemmas.{same_state}
use Rattle.gimli.specs.declared.state.State.{State}
use Rattle.gimli.proofs.StandingRow.{written}
use Rattle.gimli.proofs.standing.Standing.columns.Goals as goal

pub returns : goal.returns
unfolding meant columns
returns c =
    let s = c.args.self in
    let long : length s.stored.top ≡ 4 = search rules in
    let made : c.from_columns-columns.result ≡ from_columns (λ j. sp_box (column (meant s) j)) =
    c.from_columns-columns.ensures (λ j. sp_box (column (meant s) j)) (λ j r h post. search rules) in
    record {
      meant =
          same_state
          (written s.k s.stored.top _ _ _ _ _ _ _ _ s.below long c.place.ensures.value c.place-2.ensures.value c.place-3.ensures.value c.place-4.ensures.value
          ∙ ap (λ (t : State). row (λ j. get_or t.top j 0)) made)
          (ap (λ (t : State). t.middle) made)
          (ap (λ (t : State). t.bottom) made);
      k = refl;
    }
