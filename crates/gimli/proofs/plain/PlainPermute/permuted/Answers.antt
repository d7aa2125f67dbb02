use Rattle.std.proofs.Common.{rules}
use Rattle.gimli.specs.Permutation.{Whole}
use Rattle.gimli.specs.StringsLemmas.{permuted_string}
use Rattle.gimli.proofs.plain.PlainPermute.permuted.Goals as goal

pub returns : goal.returns
returns c =
    let whole : Whole c.args.state = record {
      top = record { long = search rules; words = λ j. search rules };
      middle = record { long = search rules; words = λ j. search rules };
      bottom = record { long = search rules; words = λ j. search rules };
    } in
    permuted_string c.args.state c.permutation.result whole c.permutation.ensures
