use Rattle.std.proofs.Common.{ap, ◌∙◌}
use Rattle.gimli.specs.Shares.{shared_permutation}
use Rattle.c_interface.specs.Permuting.{sharing_string}
use Rattle.c_interface.proofs.Shared.{shared_permuted}
use Rattle.c_interface.proofs.permute.gimli_permute_three_share.Goals as goal

pub returns : goal.returns
returns c =
    let read = c.in-Some.ensures in
    let made = c.permutation.ensures in
    let written = c.write_shares.ensures in
    record {
      long = read.long;
      each = written ∙ ap sharing_string (made.each ∙ ap shared_permutation read.each);
      joined_is = shared_permuted c.args.shares.now _ c.in-Some.words.share c.permutation.result.share read.whole read.back written made.joined;
    }
