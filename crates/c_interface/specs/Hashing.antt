-- The hash of a message, Gimli-24-Hash, in one call.
use Rattle.std.specs.Prelude.{◌≡◌, ℕ, List, ◌++◌, length, drop, ◌≢◌, nat_le}
use Rattle.gimli.specs.Strings.{gimli}
use Rattle.sponge.specs.Blocks.{hash}
use Rattle.c_interface.specs.Faults.{done, unless}

-- how many bytes a hash has
abbrev pub hash_length : ℕ
hash_length = 32

-- the digest has room for the hash
abbrev pub hash_fault : List ℕ → ℕ
hash_fault digest = unless (nat_le hash_length (length digest)) 7 done

pub record HashAnswered (m before : List ℕ) (answer : ℕ) (after : List ℕ) : Type 0 where
  pub answer_is : answer ≡ hash_fault before
  -- the digest's first bytes are the hash, and the rest stays
  pub done_is : answer ≡ done → after ≡ hash gimli m ++ drop hash_length before
  pub refused_is : (answer ≢ done) → after ≡ before
