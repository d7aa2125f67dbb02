-- Both tables, by computation.
use Rattle.std.proofs.Common.{refl}
use Rattle.gimli.specs.Words.{shifted, rotated}
use Rattle.gimli.specs.Permutation.{sp_box, columns, small_swap, big_swap, add_constant, round, first_rounds, permutation}
use Rattle.gimli.specs.Shares.{share_sp_box}
use Rattle.gimli.specs.Strings.{string, state, gimli}
use Rattle.sponge.specs.Blocks.{mixed, after_full, absorbed, cipher_full, ciphertext, boxed, sealed_box, squeezed}
use Rattle.cases.specs.Published.{Published}
use Rattle.cases.specs.Table.{Table, ShareTerms}

pub table : Table
unfolding shifted rotated sp_box columns small_swap big_swap add_constant round first_rounds share_sp_box
table = record {
  last_bit = refl;
  middle_bit = refl;
  first_bit = refl;
  all_ones = refl;
  after_24 = refl;
  after_23 = refl;
  share_0 = refl;
  share_1 = refl;
  share_2 = refl;
  blocks_0 = refl;
  blocks_15 = refl;
  blocks_16 = refl;
  nonce_end = refl;
}

pub share_terms : ShareTerms
unfolding shifted rotated sp_box share_sp_box
share_terms = refl

pub published : Published
unfolding shifted rotated sp_box columns small_swap big_swap add_constant round first_rounds permutation string state gimli mixed after_full absorbed cipher_full ciphertext boxed sealed_box squeezed
published = record { permuted = refl; hash_0 = refl; hash_16 = refl; box_1 = refl; box_34 = refl; box_106 = refl }
