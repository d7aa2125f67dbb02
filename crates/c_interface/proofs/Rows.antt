-- The string of a state, row after row.
use Rattle.std.proofs.Common.{◌≡◌, [], ◌∷◌, sym, div-one}
use Rattle.std.specs.List.{flat_map}
use Rattle.gimli.specs.Strings.{string}
use Rattle.gimli.specs.declared.state.State.{State}
use Rattle.c_interface.specs.Permuting.{row_bytes}

pub rows_string : (s : State) → flat_map (λ x. x) (row_bytes s.top ∷ row_bytes s.middle ∷ row_bytes s.bottom ∷ []) ≡ string s
unfolding string
rows_string s = sym (simp div-one)
