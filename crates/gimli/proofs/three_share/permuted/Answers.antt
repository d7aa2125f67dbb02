use Rattle.std.proofs.Common.{ap, ◌∙◌}
use Rattle.gimli.specs.Permutation.{permutation}
use Rattle.gimli.specs.Shares.{joined, shared_permutation}
use Rattle.gimli.specs.declared.shares.Shares.{Shares}
use Rattle.gimli.proofs.SharedStrings.{joined_whole}
use Rattle.gimli.specs.StringsLemmas.{permuted_string}
use Rattle.gimli.proofs.three_share.permuted.Goals as goal

pub returns : goal.returns
returns c =
    let made = c.permutation.ensures in
    let before = c.args.shares.share in
    let same = c.known.ensures.same in
    record {
      shares = made.each ∙ ap (λ (s : Shares). shared_permutation s.share) same;
      meaning =
          permuted_string (joined before) (joined c.permutation.result.share) (joined_whole before c.known.ensures.whole)
          (made.joined ∙ ap (λ (s : Shares). permutation (joined s.share)) same);
    }
