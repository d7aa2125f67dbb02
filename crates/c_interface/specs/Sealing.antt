-- A message sealed in one call, under the next nonce of a book.
use Rattle.std.specs.Prelude.{◌≡◌, ℕ, ◌+◌, List, ◌++◌, length, drop, ◌==◌, ◌≢◌, nat_le, nat_lt}
use Rattle.gimli.specs.Strings.{gimli}
use Rattle.sponge.specs.Blocks.{rate, sealed_box}
use Rattle.cipher.specs.Keys.{key_length}
use Rattle.cipher.specs.Nonces.{nonce_length, name_length, nonce_of, last_count}
use Rattle.c_interface.specs.Faults.{done, unless}

-- a key, the name and count of a book, associated data, a message, and the buffers of the box and the nonce before
module _ (key name ad m : List ℕ) (count : ℕ) (sealed nonce : List ℕ) where
  -- in this order: the key's length, the name's length, a count that is left, room for exactly a nonce, room for the box
  abbrev pub seal_fault : ℕ
  seal_fault =
      unless (length key == key_length) 3
      (unless (length name == name_length) 4
      (unless (nat_lt count last_count) 5
      (unless (length nonce == nonce_length) 6
      (unless (nat_le (length m + rate) (length sealed)) 7 done))))

  -- the count and the buffers after
  module _ (count' : ℕ) (sealed' nonce' : List ℕ) where
    -- the nonce is the name and the count, which goes up by one; the buffer's first bytes are the box, and the rest stays
    pub record Sealed : Type 0 where
      pub nonce_is : nonce' ≡ nonce_of name count
      pub count_is : count' ≡ count + 1
      pub box : sealed' ≡ sealed_box gimli key (nonce_of name count) ad m ++ drop (length m + rate) sealed

    -- everything is as it was
    pub record Untouched : Type 0 where
      pub nonce_is : nonce' ≡ nonce
      pub count_is : count' ≡ count
      pub box : sealed' ≡ sealed

    -- what the call answers, and what it leaves
    pub record SealAnswered (answer : ℕ) : Type 0 where
      pub answer_is : answer ≡ seal_fault
      pub done_is : answer ≡ done → Sealed
      pub refused_is : (answer ≢ done) → Untouched
