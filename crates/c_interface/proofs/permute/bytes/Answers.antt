use Rattle.std.proofs.Common.{[], ◌∷◌, ◌∙◌}
use Rattle.std.specs.List.{flat_map}
use Rattle.c_interface.proofs.Rows.{rows_string}
use Rattle.c_interface.proofs.permute.bytes.Goals as goal

pub returns : goal.returns
returns c =
    c.copy_from_slice.ensures.after
    ∙ c.as_flattened.ensures.value
    ∙ (λ i. flat_map (λ x. x) (c.row_bytes.ensures i ∷ c.row_bytes-2.ensures i ∷ c.row_bytes-3.ensures i ∷ []))
    ∙ rows_string c.args.state
