-- One permutation of a state's string.
use Rattle.std.specs.Prelude.{◌≡◌, ℕ, ◌*◌, ◌/◌, ◌%◌, Bool, true, false, List, [], ◌∷◌, ◌++◌, length, take, drop, Some, None, Option, ◌≢◌, bit_xor, slice_index}
use Rattle.std.specs.Simd.Lanes.{zip2}
use Rattle.engine.specs.Strings.{width}
use Rattle.gimli.specs.Shares.{Sharing, share, WholeShares, shared_permutation}
use Rattle.gimli.specs.Strings.{gimli, state, string}
use Rattle.gimli.specs.declared.shares.Shares.{Shares}

-- a string of 48 bytes is permuted; any other is as it was
abbrev pub Permuted : List ℕ → Bool → List ℕ → Type 0
Permuted before true after = (length before ≡ width) × (after ≡ gimli before)
Permuted before false after = (length before ≢ width) × (after ≡ before)

-- three shares in one string, one behind another
abbrev pub sharing : List ℕ → Sharing
sharing m = state (take width m) ∷ state (take width (drop width m)) ∷ state (take width (drop (2 * width) m)) ∷ []

-- each share's string, one behind another
abbrev pub sharing_string : Sharing → List ℕ
sharing_string s = string (share s 0) ++ (string (share s 1) ++ string (share s 2))

-- two strings made into one by the xor of their bytes
abbrev pub xor_strings : List ℕ → List ℕ → List ℕ
xor_strings = zip2 bit_xor

-- the string that three shares in one string have in common: the xor of the three
abbrev pub shared_string : List ℕ → List ℕ
shared_string m = xor_strings (xor_strings (take width m) (take width (drop width m))) (take width (drop (2 * width) m))

-- three shares read from a string, which they give back
pub record SharesOf (m : List ℕ) (s : Sharing) : Type 0 where
  pub long : length m ≡ 3 * width
  pub each : s ≡ sharing m
  pub back : sharing_string s ≡ m
  pub whole : WholeShares s

-- the shares of a string of three times 48 bytes, and of no other
abbrev pub SharesRead : List ℕ → Option Shares → Type 0
SharesRead m None = length m ≡ 3 * width → ⊥
SharesRead m (Some s) = SharesOf m s.share

-- each share is permuted by its own rules, and by that the string that they have in common
pub record SharedPermutation (before after : List ℕ) : Type 0 where
  pub long : length before ≡ 3 * width
  pub each : after ≡ sharing_string (shared_permutation (sharing before))
  pub joined_is : shared_string after ≡ gimli (shared_string before)

-- three shares are permuted; any other string is as it was
abbrev pub SharesPermuted : List ℕ → Bool → List ℕ → Type 0
SharesPermuted before true after = SharedPermutation before after
SharesPermuted before false after = (length before ≢ 3 * width) × (after ≡ before)

-- the four bytes of a word, the lowest first
abbrev pub word_bytes : ℕ → List ℕ
word_bytes w = w % 256 ∷ w / 256 % 256 ∷ w / 65536 % 256 ∷ w / 16777216 % 256 ∷ []

-- the bytes of the four words of a row
abbrev pub row_bytes : List ℕ → List ℕ
row_bytes r = word_bytes (slice_index r 0) ++ (word_bytes (slice_index r 1) ++ (word_bytes (slice_index r 2) ++ word_bytes (slice_index r 3)))
