-- A run that has come to its i-th call: what holds of the script, the stage and the book, and what one call more has to show.
use Rattle.std.proofs.Common.{◌≡◌, ℕ, suc, ◌+◌, ◌<◌, ◌≤◌, Bool, false, ◌&&◌, ◌⊎◌, List, [], ◌∷◌, ◌++◌, length, get_or, drop, Some, Option, sym, refl, ap, ◌∙◌, ap₂, inl, inr, add-zero, add_assoc, add-one, arith}
use Rattle.std.proofs.lemmas.List.{get_or_default, drop_all, drop_more, length-map, get_or-map}
use Rattle.std.proofs.lemmas.Bool.{cases_eq, cases_lt}
use Rattle.std.proofs.Math.Bool.{and-true, and_assoc}
use Rattle.cipher.specs.declared.book.NonceBook.{NonceBook}
use Rattle.runs.specs.Allowed.{Place, next_place, one_more, how_far}
use Rattle.runs.specs.Asks.{asked}
use Rattle.runs.specs.History.{Event}
use Rattle.runs.specs.Runs.{calls, start, nonces_of, issued_in, IssueTold, IssuesAlong, bookish, untaken, Kept, RanCalls}
use Rattle.runs.specs.Scripts.{Replied, event, history}
use Rattle.runs.specs.Stages.{point_of, token, Holds, Cleared}
use Rattle.runs.specs.Traces.{Model, begun, next, Sound, Fresh, AllRight}
use Rattle.runs.proofs.Histories.{Alike, history_agrees, history_more, model_more, right_more}
use Rattle.runs.proofs.Nonces.{Nonces, here_or_before}
use Rattle.runs.proofs.Lawful.{model_after, lawful}
use Rattle.runs.specs.declared.script.Call.{Call}
use Rattle.runs.specs.declared.script.Step.{Step}
use Rattle.runs.specs.declared.stage.Stage.{Stage}
use Rattle.runs.specs.declared.stage.Stage.TheVariants.{Free, AddingSealing, Writing, AddingOpening, ReadyToOpen, Fed, Drawn}

issued_in_more : (h : List Event) (e : Event) → issued_in (h ++ e ∷ []) ≡ issued_in h + nonces_of e
issued_in_more [] e = omega arith
issued_in_more (x ∷ h) e = omega (arith, issued_in_more h e)

along_more : (name : List ℕ) (c : ℕ) (h : List Event) (e : Event) → IssuesAlong name c h → IssueTold name (c + issued_in h) e → IssuesAlong name c (h ++ e ∷ [])
along_more name c [] e a told = (rw add-zero at told, tt)
along_more name c (x ∷ h) e a told = (a.0, along_more name (c + nonces_of x) h e a.1 (rw add_assoc told))

pub untaken_more : (h : List Event) (e : Event) → untaken (h ++ e ∷ []) ≡ (untaken h && bookish e)
untaken_more [] e = and-true (bookish e)
untaken_more (x ∷ h) e = ap (λ (b : Bool). bookish x && b) (untaken_more h e) ∙ sym (and_assoc (bookish x) (untaken h) (bookish e))

module _ {E : Type 0} (meaning : E → List ℕ) where
  pub kept_same : (s : Stage E) (h h' : List Event) (e : E) → untaken h' ≡ untaken h → Kept meaning s h e → Kept meaning s h' e
  kept_same (Free x) h h' e same k = rw same k
  kept_same (AddingSealing x) h h' e same k = same ∙ k
  kept_same (Writing x) h h' e same k = same ∙ k
  kept_same (AddingOpening x) h h' e same k = same ∙ k
  kept_same (ReadyToOpen x) h h' e same k = same ∙ k
  kept_same (Fed x) h h' e same k = same ∙ k
  kept_same (Drawn x) h h' e same k = same ∙ k

module _ {E : Type 0} (meaning : E → List ℕ) (rule : List ℕ → List ℕ) where
  pub kept_taken : (s : Stage E) (h : List Event) (e : E) → untaken h ≡ false → Cleared meaning rule s → Kept meaning s h e
  kept_taken (Free x) h e taken c = rw taken c
  kept_taken (AddingSealing x) h e taken c = taken
  kept_taken (Writing x) h e taken c = taken
  kept_taken (AddingOpening x) h e taken c = taken
  kept_taken (ReadyToOpen x) h e taken c = taken
  kept_taken (Fed x) h e taken c = taken
  kept_taken (Drawn x) h e taken c = taken

module _ {E : Type 0} (meaning : E → List ℕ) (rule : List ℕ → List ℕ) {L : Type 0} (string : L → List ℕ) where
  pub record Come (b₀ : NonceBook) (e₀ : E) (xs ys : List (Step L)) (i : ℕ) (s : Stage E) (b : NonceBook) : Type 0 where
    pub long : length ys ≡ length xs
    pub rest : (j : ℕ) (d : Step L) → i ≤ j → get_or ys j d ≡ get_or xs j d
    pub asks : (j : ℕ) (d : Step L) → asked (get_or ys j d).call ≡ asked (get_or xs j d).call
    pub right : AllRight rule (begun [] []) [] (history string i xs ys)
    pub holds : Holds meaning rule s (model_after (begun [] []) (history string i xs ys))
    pub kept : Kept meaning s (history string i xs ys) e₀
    pub place : Place
    pub far : how_far (calls xs) (start b₀) ≡ i + how_far (drop i (calls xs)) place
    pub point : place.point ≡ point_of s
    pub count : place.count ≡ b.count
    pub slots_long : length place.unspent ≡ i
    pub slots : (j : ℕ) (d : Step L) → j < i → get_or place.unspent j false ≡ token (get_or ys j d)
    pub name : b.name ≡ b₀.name
    pub issued_so_far : b.count ≡ b₀.count + issued_in (history string i xs ys)
    pub nonces : Nonces ys i (history string i xs ys) b
    pub along : IssuesAlong b₀.name b₀.count (history string i xs ys)
    pub replies : (j : ℕ) (d : Step L) → j < i → Replied (get_or xs j d).call (get_or ys j d).reply

  -- ---- the start

  pub at_start : (b : NonceBook) (e : E) (xs : List (Step L)) → Come b e xs xs 0 (Free e) b
  at_start b e xs = record {
    long = refl;
    rest = λ j d h. refl;
    asks = λ j d. refl;
    right = tt;
    holds = tt;
    kept = refl;
    place = start b;
    far = omega arith;
    point = refl;
    count = refl;
    slots_long = refl;
    slots = λ j d h. absurd (omega arith);
    name = refl;
    issued_so_far = omega arith;
    nonces = record {
      issued_before = λ j d n h. absurd (omega arith);
      unspent = λ j d n h. absurd (omega arith);
      apart = λ j j' d n n' h. absurd (omega arith);
      counted = λ j d n h. absurd (omega arith);
      spent_counted = λ n s. absurd s.1;
    };
    along = tt;
    replies = λ j d h. absurd (omega arith);
  }

-- ---- one call more

-- what a step has to show, and that the run has then come one call further
module _ {E : Type 0} {meaning : E → List ℕ} {rule : List ℕ → List ℕ} {L : Type 0} {string : L → List ℕ} {b₀ : NonceBook} {e₀ : E} {xs ys : List (Step L)} {i : ℕ} {s : Stage E} {b : NonceBook} (come : Come meaning rule string b₀ e₀ xs ys i s b) (within : i < length xs) (d : Step L) where
  abbrev h : List Event
  h = history string i xs ys

  abbrev M : Model
  M = model_after (begun [] []) h

  pub record Further (ys' : List (Step L)) (s' : Stage E) (b' : NonceBook) (e : Event) : Type 0 where
    pub long : length ys' ≡ length ys
    pub alike : (j : ℕ) (d : Step L) → j < i → Alike (get_or ys' j d) (get_or ys j d)
    pub beyond : (j : ℕ) (d : Step L) → i < j → get_or ys' j d ≡ get_or ys j d
    pub asks : (d : Step L) → asked (get_or ys' i d).call ≡ asked (get_or xs i d).call
    pub event_is : event string (get_or xs i d) (get_or ys' i d) ≡ e
    pub sound : Sound rule M e
    pub fresh : Fresh h e
    pub holds : Holds meaning rule s' (next M e)
    pub kept : Kept meaning s' (h ++ e ∷ []) e₀
    pub place : Place
    pub placed_at : next_place come.place (get_or xs i d).call ≡ Some place
    pub point : place.point ≡ point_of s'
    pub count : place.count ≡ b'.count
    pub slots_long : length place.unspent ≡ suc i
    pub slots : (j : ℕ) (d : Step L) → j < suc i → get_or place.unspent j false ≡ token (get_or ys' j d)
    pub name : b'.name ≡ b.name
    pub issued_more : b'.count ≡ b.count + nonces_of e
    pub nonces : Nonces ys' (suc i) (h ++ e ∷ []) b'
    pub told : IssueTold b₀.name (b₀.count + issued_in h) e
    pub replied : Replied (get_or xs i d).call (get_or ys' i d).reply

  pub further : (ys' : List (Step L)) (s' : Stage E) (b' : NonceBook) (e : Event) → Further ys' s' b' e → Come meaning rule string b₀ e₀ xs ys' (suc i) s' b'
  further ys' s' b' e f =
      let inside : i < length ys' = omega (arith, f.long, come.long) in
      let grew : history string (suc i) xs ys' ≡ h ++ e ∷ [] =
      history_more string i xs ys' d within inside
      ∙ ap₂ (λ (t : List Event) (x : Event). t ++ x ∷ []) (history_agrees string i xs ys' ys f.long f.alike) f.event_is in
      let call : get_or (calls xs) i d.call ≡ (get_or xs i d).call = get_or-map (λ (x : Step L). x.call) xs i d d.call within in
      let fits : i < length (calls xs) = rw (length-map xs (λ (x : Step L). x.call)) within in
      let ahead : drop i (calls xs) ≡ (get_or xs i d).call ∷ drop (i + 1) (calls xs) = drop_more (calls xs) i d.call fits ∙ ap (λ (c : Call L). c ∷ drop (i + 1) (calls xs)) call in
      let led : how_far (drop i (calls xs)) come.place ≡ how_far (drop (i + 1) (calls xs)) f.place + 1 =
      ap (λ (cs : List (Call L)). how_far cs come.place) ahead ∙ ap (λ (p : Option Place). one_more p (how_far (drop (i + 1) (calls xs)))) f.placed_at in
      record {
        long = f.long ∙ come.long;
        rest = λ j d k. f.beyond j d k ∙ come.rest j d (omega arith);
        asks = λ j d. asks_at j d (cases_lt j i) (cases_eq j i);
        right = rw grew (right_more rule (begun [] []) [] h e come.right f.sound f.fresh);
        holds = rw (grew, model_more (begun [] []) h e) f.holds;
        kept = rw grew f.kept;
        place = f.place;
        far = come.far ∙ ap (λ (n : ℕ). i + n) led ∙ rw (← add-one i) (omega arith);
        point = f.point;
        count = f.count;
        slots_long = f.slots_long;
        slots = f.slots;
        name = f.name ∙ come.name;
        issued_so_far = rw grew (omega (arith, f.issued_more, come.issued_so_far, issued_in_more h e));
        nonces = rw grew f.nonces;
        along = rw grew (along_more b₀.name b₀.count h e come.along f.told);
        replies = λ j d' k. elim (here_or_before j i k) [ inl at·here ↦ rw (at·here, get_or_default xs i d' d within, get_or_default ys' i d' d inside) f.replied | inr l ↦ rw (f.alike j d' l).1 (come.replies j d' l) ];
      }
    where
      asks_at : (j : ℕ) (d : Step L) → (j < i) ⊎ (i ≤ j) → (j ≡ i) ⊎ (j ≡ i → ⊥) → asked (get_or ys' j d).call ≡ asked (get_or xs j d).call
      asks_at j d (inl k) q = ap asked (f.alike j d k).0 ∙ come.asks j d
      asks_at j d (inr k) (inl same) = rw same (f.asks d)
      asks_at j d (inr k) (inr other) = ap (λ (x : Step L). asked x.call) (f.beyond j d (omega arith)) ∙ come.asks j d

-- the step at which the run has come is as it was
pub step_is : {E : Type 0} {meaning : E → List ℕ} {rule : List ℕ → List ℕ} {L : Type 0} {string : L → List ℕ} {b₀ : NonceBook} {e₀ : E} {xs ys : List (Step L)} {i : ℕ} {s : Stage E} {b : NonceBook} → Come meaning rule string b₀ e₀ xs ys i s b → (d : Step L) → get_or ys i d ≡ get_or xs i d
step_is {i} come d = come.rest i d (omega arith)

-- ---- the end

module _ {E : Type 0} {meaning : E → List ℕ} {rule : List ℕ → List ℕ} {L : Type 0} {string : L → List ℕ} {b₀ : NonceBook} {e₀ : E} {xs ys : List (Step L)} {n : ℕ} {s : Stage E} {b : NonceBook} (come : Come meaning rule string b₀ e₀ xs ys n s b) where
  pub ended : how_far (calls xs) (start b₀) ≡ n → RanCalls meaning rule string b₀ e₀ xs s n b ys
  ended far = record {
    outcome = record {
      far = sym far;
      law = lawful rule (history string n xs ys) come.right;
      rest = come.rest;
      asks = come.asks;
      name = come.name;
      replies = come.replies;
      nonces = come.along;
      count = come.issued_so_far;
    };
    engine = come.kept;
  }

  -- all calls ran
  pub all_ran : n ≤ length xs → length xs ≤ n → RanCalls meaning rule string b₀ e₀ xs s (length ys) b ys
  all_ran under over =
      let none : drop n (calls xs) ≡ [] = drop_all n (calls xs) (rw (length-map xs (λ (x : Step L). x.call)) over) in
      let far : how_far (calls xs) (start b₀) ≡ n = come.far ∙ ap (λ (cs : List (Call L)). n + how_far cs come.place) none ∙ omega arith in
      let all : n ≡ length ys = omega (arith, come.long) in
      rw (← all) (ended far)
