use Rattle.std.proofs.Common.{refl}
use Rattle.gimli_modes.proofs.Modes.{hash_published, output_published, box_published}
use Rattle.gimli_modes.proofs.standard.Goals as goal

pub returns : goal.returns
returns c = record { modes = record { hash_is = hash_published; output_is = output_published; box_is = box_published }; count = refl }
