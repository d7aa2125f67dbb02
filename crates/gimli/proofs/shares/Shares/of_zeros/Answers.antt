use Rattle.std.proofs.Common.{[], ◌∷◌, ap, ◌∙◌}
use Rattle.gimli.specs.Shares.{joined}
use Rattle.gimli.specs.Strings.{string}
use Rattle.gimli.specs.declared.state.State.{State}
use Rattle.gimli.proofs.SharedStrings.{cleared}
use Rattle.gimli.proofs.shares.Shares.of_zeros.Goals as goal

pub returns : goal.returns
returns c =
    let one = c.args.one in
    let two = c.args.two in
    record {
      shares = ap (λ (s : State). s ∷ one ∷ two ∷ []) c.xor.ensures;
      meaning = ap (λ (s : State). string (joined (s ∷ one ∷ two ∷ []))) c.xor.ensures ∙ cleared one two;
    }
