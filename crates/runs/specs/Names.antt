-- What the calls are called.
use Rattle.std.specs.Prelude.{ℕ, List, codes}
use Rattle.runs.specs.declared.script.Call.{Call}
use Rattle.runs.specs.declared.script.Call.TheVariants.{Issue, StartSealing, StartOpening, Add, Close, Write, Finish, Open, BeginDigest, Feed, FeedList, EndFeeding, Draw, Release}

-- a call's words, without what it brings
abbrev pub call_name : {L : Type 0} → Call L → List ℕ
call_name Issue = codes "issue"
call_name (StartSealing k i) = codes "start sealing"
call_name (StartOpening k n) = codes "start opening"
call_name (Add p) = codes "add"
call_name Close = codes "close"
call_name (Write p b) = codes "write"
call_name Finish = codes "finish"
call_name (Open s b) = codes "open"
call_name BeginDigest = codes "begin digest"
call_name (Feed p) = codes "feed"
call_name (FeedList l) = codes "feed"
call_name EndFeeding = codes "end feeding"
call_name (Draw b) = codes "draw"
call_name Release = codes "release"
