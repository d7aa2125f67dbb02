-- A run one call further by issue.
use Rattle.std.proofs.Common.{◌≡◌, ℕ, suc, ◌+◌, ◌<◌, Bool, true, false, cond, not, eqb, ◌≢◌, List, [], ◌∷◌, ◌++◌, length, get_or, set, Some, sym, refl, ap, ◌∙◌, inl, inr, arith, eq-eqb, ne_eqb}
use Rattle.std.proofs.lemmas.List.{get_or_default, get_or-set_same, get_or-set_other, length-set, length-append, get_or_append_left, get_or_push}
use Rattle.std.proofs.Math.Bool.{and-true}
use Rattle.cipher.specs.Nonces.{issued_bytes, last_count}
use Rattle.cipher.specs.declared.book.NonceBook.{NonceBook}
use Rattle.runs.specs.Allowed.{issues, use_of, issue_place}
use Rattle.runs.specs.Asks.{asked}
use Rattle.runs.specs.History.{refused, Event, issued, used_up}
use Rattle.runs.specs.Runs.{nonces_of, IssueTold, bookish, untaken}
use Rattle.runs.specs.Scripts.{kind, answer_in, Replied, buffer_in, event, call_event, issue_event, history}
use Rattle.runs.specs.Stages.{token, IssueRan}
use Rattle.runs.specs.Traces.{begun, next, Sound, Fresh}
use Rattle.runs.proofs.Nonces.{no, same_held, Nonces, here_or_before, nonces_quiet, nonces_issued}
use Rattle.runs.proofs.Sorts.{is_issue}
use Rattle.runs.proofs.Lawful.{model_after, grown-nothing}
use Rattle.runs.specs.declared.script.Call.{Call}
use Rattle.runs.specs.declared.script.Call.TheVariants.{Issue}
use Rattle.runs.specs.declared.script.Step.{Step}
use Rattle.runs.specs.declared.stage.Stage.{Stage}
use Rattle.runs.proofs.Progress.{Come, further, step_is, untaken_more, kept_same}

module _ {E : Type 0} {meaning : E → List ℕ} {rule : List ℕ → List ℕ} {L : Type 0} {string : L → List ℕ} {b₀ : NonceBook} {e₀ : E} {xs ys : List (Step L)} {i : ℕ} {s : Stage E} {b : NonceBook} (come : Come meaning rule string b₀ e₀ xs ys i s b) (within : i < length xs) (d : Step L) where
  abbrev past : List Event
  past = history string i xs ys

  inside : i < length ys
  inside = rw come.long within

  -- issue
  module _ (y : Step L) (b' : NonceBook) (issue-call : use_of (get_or ys i d).call ≡ issues) where
    abbrev with_step : List (Step L)
    with_step = set ys i y

    others : (j : ℕ) (d : Step L) → j ≢ i → get_or with_step j d ≡ get_or ys j d
    others j d ne = get_or-set_other ys i j y d ne

    here : (d : Step L) → get_or with_step i d ≡ y
    here d = get_or-set_same ys i y d inside

    call_is : (get_or xs i d).call ≡ Issue
    call_is = is_issue string (get_or xs i d).call (rw (step_is come d) at issue-call)

    issue_event_is : y.call ≡ (get_or ys i d).call → event string (get_or xs i d) (get_or with_step i d) ≡ issue_event y.reply
    issue_event_is same = ap (λ (x : Step L). event string (get_or xs i d) x) (here d) ∙ ap (λ (c : Call L). call_event string c (buffer_in y.call) y.reply) call_is

    slots_then : (v : Bool) → v ≡ token y → (j : ℕ) (d : Step L) → j < suc i → get_or (come.place.unspent ++ v ∷ []) j false ≡ token (get_or with_step j d)
    slots_then v same j d k =
        elim (here_or_before j i k) [
          | inl at·here ↦ rw at·here (get_or_push come.place.unspent v false i come.slots_long ∙ same ∙ ap token (sym (here d)))
          | inr l ↦ get_or_append_left come.place.unspent (v ∷ []) false j (rw come.slots_long l) ∙ come.slots j d l ∙ ap token (sym (others j d (omega arith)))
        ]

    module _ (e : Event) (same-call : y.call ≡ (get_or ys i d).call) (event_is : issue_event y.reply ≡ e) (bookly : bookish e ≡ true) (sound : Sound rule (model_after (begun [] []) past) e) (fresh : Fresh past e) (midway : next (model_after (begun [] []) past) e ≡ model_after (begun [] []) past) (used_up? : Bool) (last : eqb come.place.count last_count ≡ used_up?) (held : not used_up? ≡ token y) (count : b'.count ≡ cond used_up? b.count (b.count + 1)) (more : b'.count ≡ b.count + nonces_of e) (name : b'.name ≡ b.name) (nonces : Nonces with_step (suc i) (past ++ e ∷ []) b') (told : IssueTold b.name b.count e) (replied : Replied {L = L} Issue y.reply) where
      issue_further : Come meaning rule string b₀ e₀ xs with_step (suc i) s b'
      issue_further = further come within d with_step s b' e record {
        long = length-set ys i y;
        alike = λ j d k. (ap (λ (x : Step L). x.call) (others j d (omega arith)), ap (λ (x : Step L). x.reply) (others j d (omega arith)));
        beyond = λ j d k. others j d (omega arith);
        asks = λ d'. ap (λ (x : Step L). asked x.call) (here d') ∙ ap asked same-call ∙ ap (λ (x : Step L). asked x.call) (get_or_default ys i d d' inside ∙ step_is come d');
        event_is = issue_event_is same-call ∙ event_is;
        sound = sound;
        fresh = fresh;
        holds = rw midway come.holds;
        kept = kept_same meaning s past (past ++ e ∷ []) e₀ (untaken_more past e ∙ rw bookly (and-true (untaken past))) come.kept;
        place = issue_place come.place used_up?;
        placed_at = rw (call_is, last);
        point = come.point;
        count = rw come.count (sym count);
        slots_long = length-append come.place.unspent (not used_up? ∷ []) ∙ omega (arith, come.slots_long);
        slots = slots_then (not used_up?) held;
        name = name;
        issued_more = more;
        nonces = nonces;
        told = rw (← come.name, ← come.issued_so_far) told;
        replied = rw (call_is, here d) replied;
      }

    pub after_issue : IssueRan b (get_or ys i d) b' y → Come meaning rule string b₀ e₀ xs with_step (suc i) s b'
    after_issue (inl (n, ni)) =
        let left : come.place.count ≡ last_count → ⊥ = λ same. omega (arith, ni.issues.left, come.count) in
        let used : use_of y.call ≡ issues = ap use_of ni.call ∙ issue-call in
        issue_further (issued (issued_bytes n)) ni.call (ap issue_event ni.reply) refl tt tt (grown-nothing (model_after (begun [] []) past)) false (ne_eqb come.place.count last_count left)
        (rw (used, ni.nonce)) ni.issues.count ni.issues.count ni.issues.name
        (nonces_issued ys with_step i past (issued (issued_bytes n)) b b' come.nonces ni.issues.name (omega (arith, ni.issues.count)) n refl ni.issues
        (λ j d m k held. same_held (get_or with_step j d) (get_or ys j d) m (others j d (omega arith)) held)
        (λ d m held. let slot : y.nonce ≡ Some m = rw (here d) at held.1 in let own = ni.nonce in cc))
        (ni.issues.left, ni.issues.bytes) (inl (ap kind ni.reply))
    after_issue (inr (e, refusal)) =
        let used : use_of y.call ≡ issues = ap use_of refusal.call ∙ issue-call in
        let same : b' ≡ b = refusal.book in
        issue_further used_up refusal.call (ap issue_event refusal.reply) refl tt tt (grown-nothing (model_after (begun [] []) past)) true (eq-eqb come.place.count last_count (come.count ∙ refusal.used_up))
        (rw (used, refusal.nonce)) (ap (λ (x : NonceBook). x.count) same) (omega (arith, ap (λ (x : NonceBook). x.count) same)) (ap (λ (x : NonceBook). x.name) same)
        (nonces_quiet ys with_step i past used_up b b' come.nonces (ap (λ (x : NonceBook). x.name) same) (omega (arith, ap (λ (x : NonceBook). x.count) same))
        (λ j d m k held. same_held (get_or with_step j d) (get_or ys j d) m (others j d (omega arith)) held)
        (λ d m held. let slot : y.nonce ≡ Some m = rw (here d) at held.1 in let own = refusal.nonce in no cc)
        (λ k n e. no cc))
        refusal.used_up (inr (ap answer_in refusal.reply ∙ ap refused refusal.number_is))
