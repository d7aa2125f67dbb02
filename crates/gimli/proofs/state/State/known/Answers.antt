use Rattle.std.proofs.Common.{refl, rules}
use Rattle.gimli.proofs.state.State.known.Goals as goal

pub returns : goal.returns
returns c = record {
  same = refl;
  whole = record {
    top = record { long = search rules; words = λ j. search rules };
    middle = record { long = search rules; words = λ j. search rules };
    bottom = record { long = search rules; words = λ j. search rules };
  };
}
