-- Every right trace is lawful.
use Rattle.std.proofs.Common.{◌≡◌, ℕ, ◌-◌, List, [], ◌∷◌, ◌++◌, length, take, drop, replicate, sym, refl, ap, ◌∙◌, subst, ap₂, inl, inr, append_assoc, append-nil}
use Rattle.std.proofs.lemmas.List.{take_at}
use Rattle.sponge.specs.Blocks.{sealed_box, output}
use Rattle.runs.specs.History.{Answer, done, refused, Event, issued, used_up, sealing_started, opening_started, digest_begun, added, closed, written, opened, finished, fed, feeding_ended, drawn, released, Midway, AllMidway, Parts, nothing, parts, additions, message, cipher_joined, inputs, draws}
use Rattle.runs.specs.Laws.{Returns, Seals, Digests, Opening, Opens, Tells, Silent, Zeroed, Lawful}
use Rattle.runs.specs.Traces.{Model, begun, grown, next, Happened, Answered, Sound, Fresh, AllRight}

-- ---- how a trace goes on

abbrev pub model_after : Model → List Event → Model
model_after M [] = M
model_after M (e ∷ h) = model_after (next M e) h

all_parts : List Event → Parts
all_parts h = record { addition = additions h; piece = message h; cipher = cipher_joined h; input = inputs h; draw = draws h }

pub grown-nothing : (M : Model) → grown M nothing ≡ M
grown-nothing M = λ i. record {
  key = M.key;
  nonce = M.nonce;
  so_far = record {
    addition = append-nil M.so_far.addition i;
    piece = append-nil M.so_far.piece i;
    cipher = append-nil M.so_far.cipher i;
    input = append-nil M.so_far.input i;
    draw = append-nil M.so_far.draw i;
  };
}

grown_twice : (M : Model) (p : Parts) (h : List Event) (e : Event) → p ≡ parts e → grown (grown M p) (all_parts h) ≡ grown M (all_parts (e ∷ h))
unfolding all_parts
grown_twice M p h e same =
    ap (λ (q : Parts). grown (grown M q) (all_parts h)) same
    ∙ (λ i. record {
      key = M.key;
      nonce = M.nonce;
      so_far = record {
        addition = append_assoc M.so_far.addition (parts e).addition (additions h) i;
        piece = append_assoc M.so_far.piece (parts e).piece (message h) i;
        cipher = append_assoc M.so_far.cipher (parts e).cipher (cipher_joined h) i;
        input = append_assoc M.so_far.input (parts e).input (inputs h) i;
        draw = append_assoc M.so_far.draw (parts e).draw (draws h) i;
      };
    })

next_midway : (M : Model) (e : Event) → Midway e → next M e ≡ grown M (parts e)
next_midway M (issued n) w = refl
next_midway M used_up w = refl
next_midway M (sealing_started k n) w = absurd w
next_midway M (opening_started k n) w = absurd w
next_midway M digest_begun w = absurd w
next_midway M (added a) w = refl
next_midway M closed w = refl
next_midway M (written p x y r) w = refl
next_midway M (opened b x y r) w = absurd w
next_midway M (finished t) w = absurd w
next_midway M (fed f) w = refl
next_midway M feeding_ended w = refl
next_midway M (drawn d) w = refl
next_midway M released w = absurd w

-- a stretch midway adds up to its parts
midway_grows : (M : Model) (d : List Event) → AllMidway d → model_after M d ≡ grown M (all_parts d)
unfolding all_parts
midway_grows M [] w = sym (grown-nothing M)
midway_grows M (e ∷ d) w =
    ap (λ (N : Model). model_after N d) (next_midway M e w.0) ∙ midway_grows (grown M (parts e)) d w.1 ∙ grown_twice M (parts e) d e refl

happened_split : (e : Event) (past : List Event) → Happened e past → (b : List Event) × ((a : List Event) × (past ≡ b ++ e ∷ a))
happened_split e [] h = absurd h
happened_split e (x ∷ past) (inl same) = ([], (past, ap (λ (y : Event). y ∷ past) same))
happened_split e (x ∷ past) (inr h) =
    let s = happened_split e past h in
    (x ∷ s.0, (s.1.0, ap (λ (p : List Event). x ∷ p) s.1.1))

pub happened_within : (e : Event) (b a : List Event) → Happened e (b ++ e ∷ a)
happened_within e [] a = inl refl
happened_within e (x ∷ b) a = inr (happened_within e b a)

-- a buffer and an answer show one message
one_returned : (r : Answer) (before after m m' : List ℕ) → Returns r before after m → Returns r before after m' → m ≡ m'
one_returned r before after m m' p q =
    let long : length m ≡ length m' = cc in
    sym (take_at m (drop (length m) before) (length m) refl) ∙ ap (take (length m)) (sym p.1 ∙ q.1) ∙ take_at m' (drop (length m') before) (length m) (sym long)

pub silent_from_zeroed : (h h' : List Event) → Zeroed h → Zeroed h' → Silent h h'
silent_from_zeroed h h' z z' b a b' a' box before after box' before' after' same same' long alike =
    z b a box before after same
    ∙ ap₂ (λ (n : ℕ) (x : List ℕ). replicate (n - 16) 0 ++ drop (n - 16) x) long alike
    ∙ sym (z' b' a' box' before' after' same')

module _ (rule : List ℕ → List ℕ) where
  right_split : (M : Model) (past b a : List Event) → AllRight rule M past (b ++ a) → AllRight rule M past b × AllRight rule (model_after M b) (past ++ b) a
  right_split M past [] a r = (tt, rw append-nil r)
  right_split M past (e ∷ b) a r =
      let rest = right_split (next M e) (past ++ e ∷ []) b a r.2 in
      ((r.0, r.1, rest.0), rw append_assoc at rest.1)

  -- ---- digests

  abbrev DrawnSoFar : Model → Type 0
  DrawnSoFar M = M.so_far.draw ≡ output rule M.so_far.input (length M.so_far.draw)

  pub none_drawn : (m : List ℕ) → [] ≡ output rule m 0
  none_drawn m = refl

  drawn_same : (M : Model) → DrawnSoFar M → DrawnSoFar (grown M nothing)
  drawn_same M o = subst DrawnSoFar (sym (grown-nothing M)) o

  drawn_next : (M : Model) (past : List Event) (e : Event) → Midway e → Sound rule M e → DrawnSoFar M → DrawnSoFar (next M e)
  drawn_next M past (issued n) w r o = drawn_same M o
  drawn_next M past used_up w r o = drawn_same M o
  drawn_next M past (sealing_started k n) w r o = absurd w
  drawn_next M past (opening_started k n) w r o = absurd w
  drawn_next M past digest_begun w r o = absurd w
  drawn_next M past (added a) w r o = drawn_same M o
  drawn_next M past closed w r o = drawn_same M o
  drawn_next M past (written p x y a) w r o = drawn_same M o
  drawn_next M past (opened b x y a) w r o = absurd w
  drawn_next M past (finished t) w r o = absurd w
  drawn_next M past (fed f) w r o = rw r (none_drawn (M.so_far.input ++ f))
  drawn_next M past feeding_ended w r o = drawn_same M o
  drawn_next M past (drawn d) w r o = rw append-nil r
  drawn_next M past released w r o = absurd w

  drawn_midway : (M : Model) (past d : List Event) → AllMidway d → AllRight rule M past d → DrawnSoFar M → DrawnSoFar (model_after M d)
  drawn_midway M past [] w r o = o
  drawn_midway M past (e ∷ d) w r o = drawn_midway (next M e) (past ++ e ∷ []) d w.1 r.2 (drawn_next M past e w.0 r.0 o)

  -- ---- every right trace is lawful

  module _ (h : List Event) (right : AllRight rule (begun [] []) [] h) where
    -- right at an event of the trace
    right_at : (b : List Event) (e : Event) (a : List Event) → h ≡ b ++ e ∷ a → Sound rule (model_after (begun [] []) b) e × Fresh b e × AllRight rule (next (model_after (begun [] []) b) e) (b ++ e ∷ []) a
    right_at b e a same = (right_split (begun [] []) [] b (e ∷ a) (subst (AllRight rule (begun [] []) []) same right)).1

    seals : Seals rule h
    unfolding all_parts
    seals = record {
      box = λ b d a k n t same midway.
          let started = (right_at b (sealing_started k n) (d ++ finished t ∷ a) same).2 in
          let ended = (right_split (begun k n) (b ++ sealing_started k n ∷ []) d (finished t ∷ a) started).1.0 in
          subst (λ (M : Model). Sound rule M (finished t)) (midway_grows (begun k n) d midway) ended;
      from_book = λ b a k n same. happened_split (issued n) b (right_at b (sealing_started k n) a same).1.0;
      apart = λ b d a k n k' n' same one.
          let second = (right_at (b ++ sealing_started k n ∷ d) (sealing_started k' n') a (same ∙ sym (append_assoc b (sealing_started k n ∷ d) (sealing_started k' n' ∷ a)))).1.1 in
          second (k, subst (λ (m : List ℕ). Happened (sealing_started k m) (b ++ sealing_started k n ∷ d)) one (happened_within (sealing_started k n) b d));
    }

    digests : Digests rule h
    unfolding all_parts
    digests = record {
      front = λ b d a same midway.
          let during = (right_split (begun [] []) (b ++ digest_begun ∷ []) d a (right_at b digest_begun (d ++ a) same).2).0 in
          subst DrawnSoFar (midway_grows (begun [] []) d midway) (drawn_midway (begun [] []) (b ++ digest_begun ∷ []) d midway during (none_drawn []));
    }

    answered : (k n ad box before after : List ℕ) (r : Answer) → Opening rule h k n ad box before after r → Answered rule k n ad box before after r
    unfolding all_parts
    answered k n ad box before after r o =
        let started = (right_at o.before_it (opening_started k n) (o.during ++ opened box before after r ∷ o.after_it) o.stands).2 in
        let ended = (right_split (begun k n) (o.before_it ++ opening_started k n ∷ []) o.during (opened box before after r ∷ o.after_it) started).1.0 in
        rw o.data_is (subst (λ (M : Model). Sound rule M (opened box before after r)) (midway_grows (begun k n) o.during o.midway) ended)

    same : (k n ad box before after : List ℕ) (r : Answer) → Opening rule h k n ad box before after r → (m : List ℕ) → Returns r before after m → box ≡ sealed_box rule k n ad m
    same k n ad box before after r o m p =
        let x = (answered k n ad box before after r o).returns (length m) p.0 in
        x.2 ∙ ap (sealed_box rule k n ad) (sym (one_returned r before after m x.0 p x.1))

    found : (k n ad box before after : List ℕ) (r : Answer) → Opening rule h k n ad box before after r → (m : List ℕ) → box ≡ sealed_box rule k n ad m → (x : List ℕ) × Returns r before after x
    found k n ad box before after (done c) o m e = let x = (answered k n ad box before after (done c) o).returns c refl in (x.0, x.1)
    found k n ad box before after (refused c) o m e = absurd ((answered k n ad box before after (refused c) o).refuses c refl o.room m e)

    opens : Opens rule h
    opens = record {
      exactly = λ k n ad box before after r o. (λ p. (p.0, same k n ad box before after r o p.0 p.1), λ p. found k n ad box before after r o p.0 p.1);
      sole = λ k n ad box before after r o. (answered k n ad box before after r o).sole;
      same = same;
      answers = λ k n ad box before after r o c e. let x = (answered k n ad box before after r o).returns c e in (x.0, x.1);
    }

    tells : Tells h
    tells = record {
      writes = λ b a piece before after r same. (right_at b (written piece before after r) a same).0;
      refusals = λ b a box before after r same. (right_at b (opened box before after r) a same).0.tells;
    }

    -- what an opening refused for its tag leaves is known from the box's length and the buffer
    zeroed : Zeroed h
    zeroed b a box before after same = (right_at b (opened box before after (refused 9)) a same).0.zeroed refl

  pub lawful : (h : List Event) → AllRight rule (begun [] []) [] h → Lawful rule h
  lawful h right = record { seals = seals h right; digests = digests h right; opens = opens h right; tells = tells h right; zeroed = zeroed h right; silent = silent_from_zeroed h h (zeroed h right) (zeroed h right) }
