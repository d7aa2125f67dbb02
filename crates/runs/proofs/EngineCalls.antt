-- A run one call further by a call of the engine: one that has nothing to do with nonces, or a sealing that starts.
use Rattle.std.proofs.Common.{◌≡◌, ℕ, suc, ◌+◌, ◌<◌, ◌≤◌, Bool, true, false, ◌≢◌, List, [], ◌∷◌, ◌++◌, length, get_or, set, Some, None, Option, sym, refl, ap, ◌∙◌, subst, inl, inr, arith}
use Rattle.std.proofs.lemmas.List.{get_or_default, get_or-set_same, get_or-set_other, length-set, length-append, get_or_append_left, get_or_push}
use Rattle.std.proofs.lemmas.Bool.{and_right, cases_eq}
use Rattle.cipher.specs.Keys.{key_bytes}
use Rattle.cipher.specs.Nonces.{issued_bytes}
use Rattle.cipher.specs.declared.book.IssuedNonce.{IssuedNonce}
use Rattle.cipher.specs.declared.book.NonceBook.{NonceBook}
use Rattle.runs.specs.Allowed.{Point, leads, issues, takes, neither, use_of, placed, next_place}
use Rattle.runs.specs.Asks.{asked}
use Rattle.runs.specs.History.{Event, sealing_started}
use Rattle.runs.specs.Runs.{nonces_of, issued_in, IssueTold, bookish, untaken}
use Rattle.runs.specs.Scripts.{buffer_in, event, call_event, nonce_in, history}
use Rattle.runs.specs.Stages.{point_of, token, emptied, Ran}
use Rattle.runs.specs.Traces.{begun, Fresh}
use Rattle.runs.proofs.Histories.{Alike}
use Rattle.runs.proofs.Nonces.{no, Held, same_held, Nonces, here_or_before, nonces_quiet, nonces_started}
use Rattle.runs.proofs.Sorts.{is_start, is_plain}
use Rattle.runs.proofs.Lawful.{model_after}
use Rattle.runs.specs.declared.script.Call.{Call}
use Rattle.runs.specs.declared.script.Reply.{Reply}
use Rattle.runs.specs.declared.script.Reply.TheVariants.{Nonce}
use Rattle.runs.specs.declared.script.Step.{Step}
use Rattle.runs.specs.declared.stage.Stage.{Stage}
use Rattle.runs.proofs.Progress.{Come, further, step_is, untaken_more, kept_taken}

module _ {E : Type 0} {meaning : E → List ℕ} {rule : List ℕ → List ℕ} {L : Type 0} {string : L → List ℕ} {b₀ : NonceBook} {e₀ : E} {xs ys : List (Step L)} {i : ℕ} {s : Stage E} {b : NonceBook} (come : Come meaning rule string b₀ e₀ xs ys i s b) (within : i < length xs) (d : Step L) where
  abbrev past : List Event
  past = history string i xs ys

  inside : i < length ys
  inside = rw come.long within

  -- a call of the engine, on a script `mid` that is ys but for a nonce taken out
  module _ (mid : List (Step L)) (t : Stage E) (y : Step L) (same-long : length mid ≡ length ys) (untouched : (j : ℕ) (d : Step L) → i ≤ j → get_or mid j d ≡ get_or ys j d) (mid_alike : (j : ℕ) (d : Step L) → j < i → Alike (get_or mid j d) (get_or ys j d)) (ran : Ran meaning rule string s (get_or mid i d).call t y.call y.reply) where
    abbrev then : List (Step L)
    then = set mid i y

    mid_here : get_or mid i d ≡ get_or xs i d
    mid_here = untouched i d (omega arith) ∙ step_is come d

    mid_inside : i < length mid
    mid_inside = rw same-long inside

    then_here : (d : Step L) → get_or then i d ≡ y
    then_here d = get_or-set_same mid i y d mid_inside

    then_else : (j : ℕ) (d : Step L) → j ≢ i → get_or then j d ≡ get_or mid j d
    then_else j d ne = get_or-set_other mid i j y d ne

    abbrev e : Event
    e = event string (get_or xs i d) y

    x_ran : Ran meaning rule string s (get_or xs i d).call t y.call y.reply
    x_ran = subst (λ (x : Step L). Ran meaning rule string s x.call t y.call y.reply) mid_here ran

    slots_after : (u : List Bool) → length u ≡ i → ((j : ℕ) (d : Step L) → j < i → get_or u j false ≡ token (get_or mid j d)) → false ≡ token y → (j : ℕ) (d : Step L) → j < suc i → get_or (u ++ false ∷ []) j false ≡ token (get_or then j d)
    slots_after u u-long before none j d k =
        elim (here_or_before j i k) [
          | inl at·here ↦ rw at·here (get_or_push u false false i u-long ∙ none ∙ ap token (sym (then_here d)))
          | inr l ↦ get_or_append_left u (false ∷ []) false j (rw u-long l) ∙ before j d l ∙ ap token (sym (then_else j d (omega arith)))
        ]

    module _ (engine's : bookish e ≡ false) (none_issued : nonces_of e ≡ 0) (fresh : Fresh past e) (u : List Bool) (u-long : length u ≡ i) (led : next_place come.place (get_or xs i d).call ≡ placed come.place.count u (leads (point_of s) (get_or xs i d).call)) (before : (j : ℕ) (d : Step L) → j < i → get_or u j false ≡ token (get_or mid j d)) (none : false ≡ token y) (nonces : Nonces then (suc i) (past ++ e ∷ []) b) (told : IssueTold b₀.name (b₀.count + issued_in past) e) where
      engine_further : Come meaning rule string b₀ e₀ xs then (suc i) t b
      engine_further = further come within d then t b e record {
        long = length-set mid i y ∙ same-long;
        alike = λ j d k. let a = mid_alike j d k in (ap (λ (x : Step L). x.call) (then_else j d (omega arith)) ∙ a.0, ap (λ (x : Step L). x.reply) (then_else j d (omega arith)) ∙ a.1);
        beyond = λ j d k. then_else j d (omega arith) ∙ untouched j d (omega arith);
        asks = λ d'. ap (λ (x : Step L). asked x.call) (then_here d') ∙ x_ran.asks ∙ ap (λ (x : Step L). asked x.call) (get_or_default xs i d d' within);
        event_is = ap (λ (x : Step L). event string (get_or xs i d) x) (then_here d);
        sound = x_ran.sound (model_after (begun [] []) past) come.holds;
        fresh = fresh;
        holds = x_ran.holds (model_after (begun [] []) past) come.holds;
        kept = kept_taken meaning rule t (past ++ e ∷ []) e₀ (untaken_more past e ∙ and_right (untaken past) (bookish e) engine's) x_ran.cleared;
        place = record { point = point_of t; count = come.place.count; unspent = u ++ false ∷ [] };
        placed_at = led ∙ ap (placed come.place.count u) x_ran.table;
        point = refl;
        count = come.count;
        slots_long = length-append u (false ∷ []) ∙ omega (arith, u-long);
        slots = slots_after u u-long before none;
        name = refl;
        issued_more = omega (arith, none_issued);
        nonces = nonces;
        told = told;
        replied = rw (then_here d) x_ran.replied;
      }

  -- a call that has nothing to do with nonces
  pub after_plain : (t : Stage E) (y : Step L) → use_of (get_or xs i d).call ≡ neither → Ran meaning rule string s (get_or ys i d).call t y.call y.reply → Come meaning rule string b₀ e₀ xs (set ys i y) (suc i) t b
  after_plain t y plain ran =
      let x_ran : Ran meaning rule string s (get_or xs i d).call t y.call y.reply = subst (λ (x : Step L). Ran meaning rule string s x.call t y.call y.reply) (step_is come d) ran in
      let quiet = is_plain string (get_or xs i d).call (buffer_in y.call) y.reply plain in
      let used : use_of y.call ≡ neither = x_ran.uses ∙ plain in
      engine_further ys t y refl (λ j d k. refl) (λ j d k. (refl, refl)) ran quiet.engine's quiet.none_issued (quiet.fresh past) come.place.unspent come.slots_long
      (ap (λ (p : Point). next_place record { point = p; count = come.place.count; unspent = come.place.unspent } (get_or xs i d).call) come.point ∙ rw plain refl)
      come.slots (rw used refl)
      (nonces_quiet ys (set ys i y) i past (event string (get_or xs i d) y) b b come.nonces refl (omega arith)
      (λ j d m k held. same_held (get_or (set ys i y) j d) (get_or ys j d) m (get_or-set_other ys i j y d (omega arith)) held)
      (λ d m held. let own : use_of y.call ≡ issues = rw (get_or-set_same ys i y d inside) at held.0 in no cc)
      quiet.no_start)
      (quiet.silent b₀.name (b₀.count + issued_in past))

  -- a sealing that starts with the nonce of step j
  pub after_start : (j : ℕ) (n : IssuedNonce) (t : Stage E) (y : Step L) → use_of (get_or xs i d).call ≡ takes j → j < i → Held (get_or ys j d) n → Ran meaning rule string s (get_or (set ys j (emptied (get_or ys j d))) i d).call t y.call y.reply → y.reply ≡ Nonce (issued_bytes n) → Come meaning rule string b₀ e₀ xs (set (set ys j (emptied (get_or ys j d))) i y) (suc i) t b
  after_start j n t y takes-j earlier had ran reply =
      let mid = set ys j (emptied (get_or ys j d)) in
      let j_in : j < length ys = omega (arith, inside) in
      let long : length mid ≡ length ys = length-set ys j (emptied (get_or ys j d)) in
      let other : (k : ℕ) (d : Step L) → k ≢ j → get_or mid k d ≡ get_or ys k d = λ k d' ne. get_or-set_other ys j k (emptied (get_or ys j d)) d' ne in
      let at_j : (d' : Step L) → get_or mid j d' ≡ emptied (get_or ys j d) = λ d'. get_or-set_same ys j (emptied (get_or ys j d)) d' j_in in
      let default : (d' : Step L) → get_or ys j d' ≡ get_or ys j d = λ d'. get_or_default ys j d' d j_in in
      let mid_alike : (k : ℕ) (d : Step L) → k < i → Alike (get_or mid k d) (get_or ys k d) = λ k d' l.
      elim (cases_eq k j) [
        | inl same ↦ rw same (ap (λ (x : Step L). x.call) (at_j d') ∙ ap (λ (x : Step L). x.call) (sym (default d')), ap (λ (x : Step L). x.reply) (at_j d') ∙ ap (λ (x : Step L). x.reply) (sym (default d')))
        | inr ne ↦ (ap (λ (x : Step L). x.call) (other k d' ne), ap (λ (x : Step L). x.reply) (other k d' ne))
      ] in
      let untouched : (k : ℕ) (d : Step L) → i ≤ k → get_or mid k d ≡ get_or ys k d = λ k d' l. other k d' (omega arith) in
      let here : get_or mid i d ≡ get_or xs i d = untouched i d (omega arith) ∙ step_is come d in
      let x_ran : Ran meaning rule string s (get_or xs i d).call t y.call y.reply = subst (λ (x : Step L). Ran meaning rule string s x.call t y.call y.reply) here ran in
      let start_call = is_start string (get_or xs i d).call j takes-j in
      let k₀ = key_bytes start_call.0 in
      let e_is : event string (get_or xs i d) y ≡ sealing_started k₀ (issued_bytes n) =
      ap (λ (c : Call L). call_event string c (buffer_in y.call) y.reply) start_call.1 ∙ ap (λ (r : Reply). sealing_started k₀ (nonce_in r)) reply in
      let held_token : get_or come.place.unspent j false ≡ true = come.slots j d earlier ∙ rw (had.0, had.1) in
      let used : use_of y.call ≡ takes j = x_ran.uses ∙ takes-j in
      let inside_mid : i < length mid = rw long inside in
      engine_further mid t y long untouched mid_alike ran (ap bookish e_is) (ap nonces_of e_is)
      (subst (Fresh past) (sym e_is) (come.nonces.issued_before j d n earlier had, come.nonces.unspent j d n earlier had))
      (set come.place.unspent j false) (length-set come.place.unspent j false ∙ come.slots_long)
      (ap (λ (p : Point). next_place record { point = p; count = come.place.count; unspent = come.place.unspent } (get_or xs i d).call) come.point ∙ rw (takes-j, held_token) refl)
      (λ k d' l. elim (cases_eq k j) [
        | inl same ↦ rw same (get_or-set_same come.place.unspent j false false (rw come.slots_long earlier) ∙ rw (at_j d', had.0))
        | inr ne ↦ get_or-set_other come.place.unspent j k false false ne ∙ come.slots k d' l ∙ ap token (sym (other k d' ne))
      ])
      (rw used refl)
      (nonces_started ys (set mid i y) i past (event string (get_or xs i d) y) b b come.nonces refl (omega arith) k₀ n j d e_is earlier had
      (λ k d' m l held.
      let in_mid : Held (get_or mid k d') m = same_held (get_or (set mid i y) k d') (get_or mid k d') m (get_or-set_other mid i k y d' (omega arith)) held in
      let not_j : k ≢ j = λ same. (let slot : ◌≡◌ {A = Option IssuedNonce} None (Some m) = rw (same, at_j d') at in_mid.1 in no cc) in
      (same_held (get_or mid k d') (get_or ys k d') m (other k d' not_j) in_mid, not_j))
      (λ d' m held. let own : use_of y.call ≡ issues = rw (get_or-set_same mid i y d' inside_mid) at held.0 in no cc)
      default)
      (subst (IssueTold b₀.name (b₀.count + issued_in past)) (sym e_is) tt)
