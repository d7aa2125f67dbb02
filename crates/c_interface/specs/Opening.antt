-- A box opened in one call.
use Rattle.std.specs.Prelude.{◌≡◌, ℕ, ◌-◌, ◌⊎◌, List, ◌++◌, length, drop, replicate, ◌==◌, ◌≢◌, nat_le}
use Rattle.gimli.specs.Strings.{gimli}
use Rattle.sponge.specs.Blocks.{rate, sealed_box}
use Rattle.cipher.specs.Keys.{key_length}
use Rattle.cipher.specs.Nonces.{nonce_length}
use Rattle.c_interface.specs.Faults.{done, unless}

-- a key, a nonce, associated data, a box, and the buffer of the message before and after
module _ (key nonce ad sealed before after : List ℕ) where
  -- the box is that of the message m
  abbrev pub BoxOf : List ℕ → Type 0
  BoxOf m = sealed ≡ sealed_box gimli key nonce ad m

  -- in this order: the key's length, the nonce's length, a box that has a tag, room for what is left of it
  abbrev pub open_fault : ℕ
  open_fault =
      unless (length key == key_length) 3
      (unless (length nonce == nonce_length) 6
      (unless (nat_le rate (length sealed)) 8
      (unless (nat_le (length sealed - rate) (length before)) 7 done)))

  -- the box is that of the message m and of no other, which now stands first in the buffer; the rest stays
  pub record Opened (m : List ℕ) : Type 0 where
    pub box : BoxOf m
    pub sole : (m' : List ℕ) → BoxOf m' → m' ≡ m
    pub long : length m ≡ length sealed - rate
    pub buffer : after ≡ m ++ drop (length m) before

  -- the box is that of no message; zeros stand where one would, and the rest stays
  pub record NoMessage : Type 0 where
    pub none : (m : List ℕ) → BoxOf m → ⊥
    pub buffer : after ≡ replicate (length sealed - rate) 0 ++ drop (length sealed - rate) before

  -- a box that has no fault so far
  abbrev pub Looked : ℕ → Type 0
  Looked answer = ((answer ≡ done) × ((m : List ℕ) × Opened m)) ⊎ ((answer ≡ 9) × NoMessage)

  -- what the call answers, and what it leaves
  pub record OpenAnswered (answer : ℕ) : Type 0 where
    pub looked : open_fault ≡ done → Looked answer
    pub refused : (open_fault ≢ done) → (answer ≡ open_fault) × (after ≡ before)
