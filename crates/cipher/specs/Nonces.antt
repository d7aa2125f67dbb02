-- Nonces, and the books that issue them.
use Rattle.std.specs.Prelude.{◌≡◌, ℕ, ◌+◌, ◌<◌, List, ◌++◌, length, Ok, Err, Result, ◌≢◌}
use Rattle.std.specs.Int.{w32, to_le_bytes}
use Rattle.engine.specs.Refusals.{number}
use Rattle.engine.specs.declared.refusal.Refusal.{Refusal}
use Rattle.cipher.specs.declared.book.IssuedNonce.{IssuedNonce}
use Rattle.cipher.specs.declared.book.NonceBook.{NonceBook}
use Rattle.cipher.specs.declared.nonce.BoxNonce.{BoxNonce}

-- how many bytes a nonce has, and how many of them are the bench's name
abbrev pub nonce_length : ℕ
nonce_length = 16

abbrev pub name_length : ℕ
name_length = 12

-- the string of a nonce that a book issued, and of one that came with a box
abbrev pub issued_bytes : IssuedNonce → List ℕ
issued_bytes n = n.bytes

abbrev pub box_nonce_bytes : BoxNonce → List ℕ
box_nonce_bytes n = n.bytes

-- a count as four bytes, lowest first
abbrev pub count_bytes : ℕ → List ℕ
count_bytes n = to_le_bytes w32 n

-- the nonce of a bench's name and a count
abbrev pub nonce_of : List ℕ → ℕ → List ℕ
nonce_of name count = name ++ count_bytes count

-- the largest count, at which a book is used up
abbrev pub last_count : ℕ
last_count = 4294967295

-- a string made into a box nonce; one that is not 16 bytes is refused with 6
abbrev pub BoxNonceMade : List ℕ → Result BoxNonce Refusal → Type 0
BoxNonceMade s (Ok n) = (length s ≡ nonce_length) × (box_nonce_bytes n ≡ s)
BoxNonceMade s (Err e) = (length s ≢ nonce_length) × (number e ≡ 6)

-- a book made of a name and a first count; a name that is not 12 bytes is refused with 4
abbrev pub BookMade : List ℕ → ℕ → Result NonceBook Refusal → Type 0
BookMade name count (Ok b) = (length name ≡ name_length) × (b.name ≡ name) × (b.count ≡ count)
BookMade name count (Err e) = (length name ≢ name_length) × (number e ≡ 4)

-- a nonce issued by the book b, which is then the book b'
pub record Issues (b : NonceBook) (n : IssuedNonce) (b' : NonceBook) : Type 0 where
  pub left : b.count < last_count
  pub bytes : issued_bytes n ≡ nonce_of b.name b.count
  -- no other count has this nonce
  pub sole : (count : ℕ) → count < last_count → issued_bytes n ≡ nonce_of b.name count → count ≡ b.count
  pub name : b'.name ≡ b.name
  pub count : b'.count ≡ b.count + 1

-- a book that is used up refuses with 5, and is as it was
abbrev pub Issued : NonceBook → Result IssuedNonce Refusal → NonceBook → Type 0
Issued b (Ok n) b' = Issues b n b'
Issued b (Err e) b' = (b.count ≡ last_count) × (number e ≡ 5) × (b' ≡ b)
