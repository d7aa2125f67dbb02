-- What a call brings, but for what stands in its buffer.
use Rattle.std.specs.Prelude.{ℕ, List, vec_items, vec_len}
use Rattle.cipher.specs.Keys.{key_bytes}
use Rattle.cipher.specs.Nonces.{box_nonce_bytes}
use Rattle.runs.specs.declared.script.Call.{Call}
use Rattle.runs.specs.declared.script.Call.TheVariants.{Issue, StartSealing, StartOpening, Add, Close, Write, Finish, Open, BeginDigest, Feed, FeedList, EndFeeding, Draw, Release}

pub data Ask (L : Type 0) : Type 0 where
  issues : Ask L
  starts_sealing : (key : List ℕ) (issue : ℕ) → Ask L
  starts_opening : (key nonce : List ℕ) → Ask L
  adds : (piece : List ℕ) → Ask L
  closes : Ask L
  writes : (piece : List ℕ) (room : ℕ) → Ask L
  finishes : Ask L
  opens : (box : List ℕ) (room : ℕ) → Ask L
  begins_digest : Ask L
  feeds : (piece : List ℕ) → Ask L
  feeds_list : L → Ask L
  ends_feeding : Ask L
  draws : (room : ℕ) → Ask L
  releases : Ask L

abbrev pub asked : {L : Type 0} → Call L → Ask L
asked Issue = issues
asked (StartSealing k i) = starts_sealing (key_bytes k) i
asked (StartOpening k n) = starts_opening (key_bytes k) (box_nonce_bytes n)
asked (Add p) = adds (vec_items p)
asked Close = closes
asked (Write p b) = writes (vec_items p) (vec_len b)
asked Finish = finishes
asked (Open s b) = opens (vec_items s) (vec_len b)
asked BeginDigest = begins_digest
asked (Feed p) = feeds (vec_items p)
asked (FeedList l) = feeds_list l
asked EndFeeding = ends_feeding
asked (Draw b) = draws (vec_len b)
asked Release = releases
