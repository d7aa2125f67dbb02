-- Which lists of calls are allowed, and how far any list runs.
use Rattle.std.specs.Prelude.{ℕ, ◌+◌, Bool, false, cond, not, List, [], ◌∷◌, ◌++◌, Some, None, Option, ◌==◌, slice_index_or, slice_set}
use Rattle.std.specs.Option.{option_map}
use Rattle.cipher.specs.Nonces.{last_count}
use Rattle.runs.specs.declared.script.Call.{Call}
use Rattle.runs.specs.declared.script.Call.TheVariants.{Issue, StartSealing, StartOpening, Add, Close, Write, Finish, Open, BeginDigest, Feed, FeedList, EndFeeding, Draw, Release}

-- what the engine is taken by
pub data Point : Type 0 where
  free : Point
  sealing_adds : Point
  sealing_writes : Point
  opening_adds : Point
  opening_opens : Point
  digest_feeds : Point
  digest_draws : Point

abbrev rank : Point → ℕ
rank free = 0
rank sealing_adds = 1
rank sealing_writes = 2
rank opening_adds = 3
rank opening_opens = 4
rank digest_feeds = 5
rank digest_draws = 6

-- from the point a to the point b, and from no other
abbrev pub only : Point → Point → Point → Option Point
only a b p = cond (rank p == rank a) (Some b) None

abbrev or_else : Option Point → Option Point → Option Point
or_else (Some p) q = Some p
or_else None q = q

-- the table: the points in which each call may stand, and the points that it leads to; issue is the book's, and stands anywhere
abbrev pub leads : {L : Type 0} → Point → Call L → Option Point
leads p Issue = None
leads p (StartSealing k i) = only free sealing_adds p
leads p (StartOpening k n) = only free opening_adds p
leads p (Add a) = or_else (only sealing_adds sealing_adds p) (only opening_adds opening_adds p)
leads p Close = or_else (only sealing_adds sealing_writes p) (only opening_adds opening_opens p)
leads p (Write m b) = only sealing_writes sealing_writes p
leads p Finish = only sealing_writes free p
leads p (Open s b) = only opening_opens free p
leads p BeginDigest = only free digest_feeds p
leads p (Feed f) = only digest_feeds digest_feeds p
leads p (FeedList l) = only digest_feeds digest_feeds p
leads p EndFeeding = only digest_feeds digest_draws p
leads p (Draw b) = only digest_draws digest_draws p
leads p Release = cond (rank p == rank free) None (Some free)

-- what a call has to do with nonces
pub data Use : Type 0 where
  issues : Use
  takes : (issue : ℕ) → Use
  neither : Use

abbrev pub use_of : {L : Type 0} → Call L → Use
use_of Issue = issues
use_of (StartSealing k i) = takes i
use_of (StartOpening k n) = neither
use_of (Add a) = neither
use_of Close = neither
use_of (Write m b) = neither
use_of Finish = neither
use_of (Open s b) = neither
use_of BeginDigest = neither
use_of (Feed f) = neither
use_of (FeedList l) = neither
use_of EndFeeding = neither
use_of (Draw b) = neither
use_of Release = neither

-- where a list stands after some of its calls
pub record Place : Type 0 where
  pub point : Point
  -- the book's count
  pub count : ℕ
  -- of each call so far, whether it issued a nonce that no sealing has taken
  pub unspent : List Bool

-- a call that leads the engine to a point, if to any
abbrev pub placed : ℕ → List Bool → Option Point → Option Place
placed count unspent q = option_map (λ q. record { point = q; count = count; unspent = unspent ++ false ∷ [] }) q

-- issue: the count goes up by one, unless the book is used up
abbrev pub issue_place : Place → Bool → Place
issue_place p used_up = record { point = p.point; count = cond used_up p.count (p.count + 1); unspent = p.unspent ++ not used_up ∷ [] }

-- a sealing takes the nonce of an earlier issue, once
abbrev pub place_by : Place → Use → Option Point → Option Place
place_by p issues q = Some (issue_place p (p.count == last_count))
place_by p (takes i) q = cond (slice_index_or p.unspent i false) (placed p.count (slice_set p.unspent i false) q) None
place_by p neither q = placed p.count p.unspent q

-- one call on; none where it may not stand
abbrev pub next_place : {L : Type 0} → Place → Call L → Option Place
next_place p c = place_by p (use_of c) (leads p.point c)

-- one more than the rest, from where a call leads
abbrev pub one_more : Option Place → (Place → ℕ) → ℕ
one_more None rest = 0
one_more (Some p) rest = rest p + 1

-- how many calls of a list run: all of them if it is allowed, else those before its first misplaced call
abbrev pub how_far : {L : Type 0} → List (Call L) → Place → ℕ
how_far [] p = 0
how_far (c ∷ cs) p = one_more (next_place p c) (how_far cs)
