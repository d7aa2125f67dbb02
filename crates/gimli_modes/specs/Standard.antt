-- The modes of a sponge over the Gimli rule are the published ones, for every string of bytes.
use Rattle.std.specs.Prelude.{◌≡◌, ℕ, List, length}
use Rattle.engine.specs.Strings.{Bytes}
use Rattle.gimli.specs.Strings.{gimli}
use Rattle.sponge.specs.Blocks.{sealed_box, output, hash}
use Rattle.gimli_modes.specs.Published.{published_hash, published_output, published_box}

abbrev pub HashIsPublished : Type 0
HashIsPublished = (m : List ℕ) → Bytes m → hash gimli m ≡ published_hash m

abbrev pub OutputIsPublished : Type 0
OutputIsPublished = (m : List ℕ) (n : ℕ) → Bytes m → output gimli m n ≡ published_output m n

abbrev pub BoxIsPublished : Type 0
BoxIsPublished =
    (key nonce ad m : List ℕ) → length key ≡ 32 → length nonce ≡ 16 → Bytes key → Bytes nonce → Bytes ad → Bytes m
    → sealed_box gimli key nonce ad m ≡ published_box key nonce ad m

-- all three
pub record Standard : Type 0 where
  pub hash_is : HashIsPublished
  pub output_is : OutputIsPublished
  pub box_is : BoxIsPublished
