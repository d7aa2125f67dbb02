use Rattle.std.proofs.Common.{refl, rules}
use lib.Bits.{bit_xor}
use Rattle.gimli.specs.Permutation.{add_constant}
use Rattle.gimli.specs.Standing.{meant}
use Rattle.gimli.proofs.StandingRow.{first_xored}
use Rattle.gimli.specs.StringsLemmas.{same_state}
use Rattle.gimli.proofs.standing.Standing.add_constant.Goals as goal

pub returns : goal.returns
unfolding meant add_constant
returns c =
    let s = c.args.self in
    record {
      meant = same_state (first_xored s.k s.stored.top c.place.result (bit_xor 0x9e377900 c.args.number) c.args.self.below (search rules) c.place.ensures.value) refl refl;
      k = refl;
    }
