use Rattle.std.proofs.Common.{ap, ◌∙◌}
use Rattle.gimli.specs.Permutation.{permutation}
use Rattle.gimli.specs.Strings.{string, gimli}
use Rattle.c_interface.proofs.permute.permute_string.Goals as goal

pub returns : goal.returns
unfolding gimli
returns g c =
    let read = c.in-Some.ensures in
    (read.0, c.copy_from_slice.ensures.after ∙ c.bytes.ensures ∙ ap string (c.requires.permutes _ _ c.permute.ensures ∙ ap permutation read.1))
