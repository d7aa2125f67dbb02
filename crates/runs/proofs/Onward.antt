-- A run one call further, or halted, by any call.
use Rattle.std.proofs.Common.{◌≡◌, ℕ, suc, ◌+◌, ◌<◌, Bool, true, false, cond, ◌⊎◌, List, [], ◌∷◌, length, get_or, drop, set, Some, None, Ok, Err, Option, Result, sym, refl, ap, ◌∙◌, subst, inl, inr, add-one, arith}
use Rattle.std.proofs.lemmas.List.{get_or-set_other, get_or_past, set-get_or, drop_more, length-map, get_or-map}
use Rattle.std.proofs.lemmas.Bool.{cases_lt}
use Rattle.cipher.specs.Nonces.{issued_bytes}
use Rattle.cipher.specs.declared.book.IssuedNonce.{IssuedNonce}
use Rattle.cipher.specs.declared.book.NonceBook.{NonceBook}
use Rattle.runs.specs.Allowed.{Point, free, sealing_adds, sealing_writes, opening_adds, opening_opens, digest_feeds, digest_draws, only, leads, Use, issues, takes, neither, use_of, Place, placed, next_place, one_more, how_far}
use Rattle.runs.specs.Runs.{calls, start, RanCalls}
use Rattle.runs.specs.Stages.{point_of, emptied, Spends, Readied, Takes, Lacks, Advanced, EngineStep, SteppedBy, Stepped}
use Rattle.runs.proofs.Nonces.{no, Held}
use Rattle.runs.proofs.Sorts.{is_start}
use Rattle.runs.specs.declared.script.Call.{Call}
use Rattle.runs.specs.declared.script.Reply.TheVariants.{Nonce}
use Rattle.runs.specs.declared.script.Step.{Step}
use Rattle.runs.specs.declared.stage.Misplaced.{Misplaced}
use Rattle.runs.specs.declared.stage.Stage.{Stage}
use Rattle.runs.proofs.Progress.{Come, step_is, ended}
use Rattle.runs.proofs.Issuing.{after_issue}
use Rattle.runs.proofs.EngineCalls.{after_plain, after_start}

module _ {E : Type 0} {meaning : E → List ℕ} {rule : List ℕ → List ℕ} {L : Type 0} {string : L → List ℕ} {b₀ : NonceBook} {e₀ : E} {xs ys : List (Step L)} {i : ℕ} {s : Stage E} {b : NonceBook} (come : Come meaning rule string b₀ e₀ xs ys i s b) (within : i < length xs) (d : Step L) where
  -- the run has come no further: nothing is changed, and no call more may stand
  pub record Halted (ys' : List (Step L)) (t : Stage E) (b' : NonceBook) : Type 0 where
    pub script : ys' ≡ ys
    pub stage : t ≡ s
    pub book : b' ≡ b
    pub far : how_far (calls xs) (start b₀) ≡ i

  halted : (ys' : List (Step L)) (t : Stage E) (b' : NonceBook) → ys' ≡ ys → t ≡ s → b' ≡ b → next_place come.place (get_or xs i d).call ≡ None → Halted ys' t b'
  halted ys' t b' script stage book nowhere =
      let call : get_or (calls xs) i d.call ≡ (get_or xs i d).call = get_or-map (λ (x : Step L). x.call) xs i d d.call within in
      let fits : i < length (calls xs) = rw (length-map xs (λ (x : Step L). x.call)) within in
      let ahead : drop i (calls xs) ≡ (get_or xs i d).call ∷ drop (i + 1) (calls xs) = drop_more (calls xs) i d.call fits ∙ ap (λ (c : Call L). c ∷ drop (i + 1) (calls xs)) call in
      let none : how_far (drop i (calls xs)) come.place ≡ 0 =
      ap (λ (cs : List (Call L)). how_far cs come.place) ahead ∙ ap (λ (p : Option Place). one_more p (how_far (drop (i + 1) (calls xs)))) nowhere in
      record { script = script; stage = stage; book = book; far = come.far ∙ omega (arith, none) }

  -- a call by its use
  use_here : (u : Use) → use_of (get_or ys i d).call ≡ u → use_of (get_or xs i d).call ≡ u
  use_here u same = ap (λ (x : Step L). use_of x.call) (sym (step_is come d)) ∙ same

  -- the script in the middle of a call that takes a nonce: there is none, or it has been taken out
  abbrev Middle : ℕ → Option IssuedNonce → List (Step L) → Type 0
  Middle j nonce mid =
      ((nonce ≡ None) × (mid ≡ ys) × (point_of s ≡ free → get_or come.place.unspent j false ≡ false))
      ⊎ ((n : IssuedNonce) × (nonce ≡ Some n) × (point_of s ≡ free) × (j < i) × Held (get_or ys j d) n × (mid ≡ set ys j (emptied (get_or ys j d))))

  from_spends : (j : ℕ) (nonce : Option IssuedNonce) (mid : List (Step L)) → point_of s ≡ free → Spends ys j i d nonce mid → Middle j nonce mid
  from_spends j None mid is_free (same, why) =
      inl (
        refl,
        same,
        λ f. elim why [
          | inl late ↦ get_or_past come.place.unspent j false (rw come.slots_long late)
          | inr none ↦ elim (cases_lt j i) [ inl l ↦ come.slots j d l ∙ none | inr late ↦ get_or_past come.place.unspent j false (rw come.slots_long late) ]
        ],
      )
  from_spends j (Some n) mid is_free (earlier, issue, slot, same) = inr (n, refl, is_free, earlier, (issue, slot), same)

  middle : (p : Point) (j : ℕ) (nonce : Option IssuedNonce) (mid : List (Step L)) → point_of s ≡ p → Readied p (takes j) ys i d nonce mid → Middle j nonce mid
  middle free j held mid p r = from_spends j held mid p r
  middle sealing_adds j held mid p r = inl (r.0, r.1, λ f. no cc)
  middle sealing_writes j held mid p r = inl (r.0, r.1, λ f. no cc)
  middle opening_adds j held mid p r = inl (r.0, r.1, λ f. no cc)
  middle opening_opens j held mid p r = inl (r.0, r.1, λ f. no cc)
  middle digest_feeds j held mid p r = inl (r.0, r.1, λ f. no cc)
  middle digest_draws j held mid p r = inl (r.0, r.1, λ f. no cc)

  not_free_none : (p : Point) → (p ≡ free → ⊥) → only free sealing_adds p ≡ None
  not_free_none free ne = absurd (ne refl)
  not_free_none sealing_adds ne = refl
  not_free_none sealing_writes ne = refl
  not_free_none opening_adds ne = refl
  not_free_none opening_opens ne = refl
  not_free_none digest_feeds ne = refl
  not_free_none digest_draws ne = refl

  is-free? : (p : Point) → (p ≡ free) ⊎ (p ≡ free → ⊥)
  is-free? free = inl refl
  is-free? sealing_adds = inr (λ e. no cc)
  is-free? sealing_writes = inr (λ e. no cc)
  is-free? opening_adds = inr (λ e. no cc)
  is-free? opening_opens = inr (λ e. no cc)
  is-free? digest_feeds = inr (λ e. no cc)
  is-free? digest_draws = inr (λ e. no cc)

  abbrev nowhere : Option Place
  nowhere = None

  cond_none : (v : Bool) → cond v nowhere nowhere ≡ nowhere
  cond_none true = refl
  cond_none false = refl

  -- where a sealing may not start
  nowhere_start : (j : ℕ) → use_of (get_or xs i d).call ≡ takes j → (point_of s ≡ free → get_or come.place.unspent j false ≡ false) → next_place come.place (get_or xs i d).call ≡ None
  nowhere_start j takes-j unready =
      let call = (is_start string (get_or xs i d).call j takes-j).1 in
      ap (λ (c : Call L). next_place come.place c) call
      ∙ elim (is-free? (point_of s)) [
        | inl f ↦ rw (unready f) refl
        | inr ne ↦ rw (come.point, not_free_none (point_of s) ne) (cond_none (get_or come.place.unspent j false))
      ]

  -- what a call of the engine did, with its use known
  module _ (u : Use) (r : Result (Stage E) (Misplaced E)) (b' : NonceBook) (ys' : List (Step L)) (same : use_of (get_or ys i d).call ≡ u) (step : EngineStep meaning rule string s b ys i d r b' ys') where
    known : Readied (point_of s) u ys i d step.nonce step.middle
    known = subst (λ (u : Use). Readied (point_of s) u ys i d step.nonce step.middle) same step.readied

    -- on the middle script as it is
    on : (mid : List (Step L)) → step.middle ≡ mid → Advanced meaning rule string s step.nonce (get_or mid i d) r (get_or ys' i d) × (ys' ≡ set mid i (get_or ys' i d))
    on mid is = subst (λ (m : List (Step L)). Advanced meaning rule string s step.nonce (get_or m i d) r (get_or ys' i d) × (ys' ≡ set m i (get_or ys' i d))) is (step.advanced, step.script)

  -- back to the script and the book that there are
  come_as : (ys' ys'' : List (Step L)) (t : Stage E) (b' : NonceBook) → ys' ≡ ys'' → b' ≡ b → Come meaning rule string b₀ e₀ xs ys'' (suc i) t b → Come meaning rule string b₀ e₀ xs ys' (suc i) t b'
  come_as ys' ys'' t b' same book c = subst (λ (x : NonceBook). Come meaning rule string b₀ e₀ xs ys' (suc i) t x) (sym book) (subst (λ (x : List (Step L)). Come meaning rule string b₀ e₀ xs x (suc i) t b) (sym same) c)

  emptied_here : (j : ℕ) → j < i → get_or (set ys j (emptied (get_or ys j d))) i d ≡ get_or ys i d
  emptied_here j earlier = get_or-set_other ys j i (emptied (get_or ys j d)) d (omega arith)

  engine_ran : (u : Use) (t : Stage E) (b' : NonceBook) (ys' : List (Step L)) → use_of (get_or ys i d).call ≡ u → (u ≡ issues → ⊥) → EngineStep meaning rule string s b ys i d (Ok t) b' ys' → Come meaning rule string b₀ e₀ xs ys' (suc i) t b'
  engine_ran issues t b' ys' same not-issue step = absurd (not-issue refl)
  engine_ran neither t b' ys' same not-issue step =
      let now = on neither (Ok t) b' ys' same step ys (known neither (Ok t) b' ys' same step).1 in
      come_as ys' (set ys i (get_or ys' i d)) t b' now.1 step.book (after_plain come within d t (get_or ys' i d) (use_here neither same) now.0.0.ran)
  engine_ran (takes j) t b' ys' same not-issue step =
      elim (middle (point_of s) j step.nonce step.middle refl (known (takes j) (Ok t) b' ys' same step)) [
        | inl m ↦ (
            let now = on (takes j) (Ok t) b' ys' same step ys m.1 in
            let took : Takes step.nonce (takes j) (get_or ys' i d).reply = subst (λ (u : Use). Takes step.nonce u (get_or ys' i d).reply) same now.0.0.took in
            let some = took.1 in
            let none = m.0 in
            no cc)
        | inr m ↦ (
            let mid = set ys j (emptied (get_or ys j d)) in
            let now = on (takes j) (Ok t) b' ys' same step mid m.5 in
            let took : Takes step.nonce (takes j) (get_or ys' i d).reply =
            subst (λ (u : Use). Takes step.nonce u (get_or ys' i d).reply) (ap (λ (x : Step L). use_of x.call) (emptied_here j m.3) ∙ same) now.0.0.took in
            let one = m.1 in
            let other = took.1 in
            let alike : took.0 ≡ m.0 = cc in
            come_as ys' (set mid i (get_or ys' i d)) t b' now.1 step.book
            (after_start come within d j m.0 t (get_or ys' i d) (use_here (takes j) same) m.3 m.4 now.0.0.ran (took.2 ∙ ap (λ (n : IssuedNonce). Nonce (issued_bytes n)) alike)))
      ]

  engine_halts : (u : Use) (e : Misplaced E) (b' : NonceBook) (ys' : List (Step L)) → use_of (get_or ys i d).call ≡ u → (u ≡ issues → ⊥) → EngineStep meaning rule string s b ys i d (Err e) b' ys' → Halted ys' e.0 b'
  engine_halts issues e b' ys' same not-issue step = absurd (not-issue refl)
  engine_halts neither e b' ys' same not-issue step =
      let now = on neither (Err e) b' ys' same step ys (known neither (Err e) b' ys' same step).1 in
      let stuck = now.0.0 in
      let unchanged : ys' ≡ ys = now.1 ∙ ap (set ys i) now.0.1 ∙ set-get_or ys i d in
      let why : leads (point_of s) (get_or ys i d).call ≡ None = elim stuck.why [ inl n ↦ n | inr lacks ↦ absurd (subst (λ (u : Use). Lacks step.nonce u) same lacks) ] in
      halted ys' e.0 b' unchanged stuck.stage step.book
      (rw (use_here neither same, come.point) (ap (placed come.place.count come.place.unspent) (ap (λ (x : Step L). leads (point_of s) x.call) (sym (step_is come d)) ∙ why)))
  engine_halts (takes j) e b' ys' same not-issue step =
      elim (middle (point_of s) j step.nonce step.middle refl (known (takes j) (Err e) b' ys' same step)) [
        | inl m ↦ (
            let now = on (takes j) (Err e) b' ys' same step ys m.1 in
            let unchanged : ys' ≡ ys = now.1 ∙ ap (set ys i) now.0.1 ∙ set-get_or ys i d in
            halted ys' e.0 b' unchanged now.0.0.stage step.book (nowhere_start j (use_here (takes j) same) m.2))
        | inr m ↦ (
            let mid = set ys j (emptied (get_or ys j d)) in
            let now = on (takes j) (Err e) b' ys' same step mid m.5 in
            let here = emptied_here j m.3 in
            elim now.0.0.why [
              | inl n ↦ (
                  let call = (is_start string (get_or ys i d).call j same).1 in
                  let led : leads (point_of s) (get_or mid i d).call ≡ Some sealing_adds = ap (λ (x : Step L). leads (point_of s) x.call) here ∙ ap (leads (point_of s)) call ∙ rw m.2 refl in
                  no cc)
              | inr lacks ↦ (
                  let none : step.nonce ≡ None = subst (λ (u : Use). Lacks step.nonce u) (ap (λ (x : Step L). use_of x.call) here ∙ same) lacks in
                  let some = m.1 in
                  no cc)
            ])
      ]

  -- any call of a script
  ran_by_use : (u : Use) (t : Stage E) (b' : NonceBook) (ys' : List (Step L)) → use_of (get_or ys i d).call ≡ u → SteppedBy meaning rule string u s b ys i d (Ok t) b' ys' → Come meaning rule string b₀ e₀ xs ys' (suc i) t b'
  ran_by_use issues t b' ys' same step =
      let came : Come meaning rule string b₀ e₀ xs (set ys i (get_or ys' i d)) (suc i) s b' = after_issue come within d (get_or ys' i d) b' same step.issue in
      let ran = step.ran in
      let stage : t ≡ s = cc in
      rw (stage, step.script) came
  ran_by_use (takes j) t b' ys' same step = engine_ran (takes j) t b' ys' same (λ e. no cc) step
  ran_by_use neither t b' ys' same step = engine_ran neither t b' ys' same (λ e. no cc) step

  pub come_on : (t : Stage E) (b' : NonceBook) (ys' : List (Step L)) → Stepped meaning rule string s b ys i d (Ok t) b' ys' → Come meaning rule string b₀ e₀ xs ys' (suc i) t b'
  come_on t b' ys' step = ran_by_use (use_of (get_or ys i d).call) t b' ys' refl step

  halts_by_use : (u : Use) (e : Misplaced E) (b' : NonceBook) (ys' : List (Step L)) → use_of (get_or ys i d).call ≡ u → SteppedBy meaning rule string u s b ys i d (Err e) b' ys' → Halted ys' e.0 b'
  halts_by_use issues e b' ys' same step = let ran = step.ran in no cc
  halts_by_use (takes j) e b' ys' same step = engine_halts (takes j) e b' ys' same (λ e. no cc) step
  halts_by_use neither e b' ys' same step = engine_halts neither e b' ys' same (λ e. no cc) step

  pub halt : (e : Misplaced E) (b' : NonceBook) (ys' : List (Step L)) → Stepped meaning rule string s b ys i d (Err e) b' ys' → Halted ys' e.0 b'
  halt e b' ys' step = halts_by_use (use_of (get_or ys i d).call) e b' ys' refl step

some_item : {X : Type 0} (i : ℕ) (xs : List X) → i < length xs → X
some_item i (x ∷ xs) within = x
some_item i [] within = absurd (omega arith)

-- one call of a script, at any default for what stands past its end
module _ {E : Type 0} {meaning : E → List ℕ} {rule : List ℕ → List ℕ} {L : Type 0} {string : L → List ℕ} {b₀ : NonceBook} {e₀ : E} {xs ys : List (Step L)} {i : ℕ} {s : Stage E} {b : NonceBook} (come : Come meaning rule string b₀ e₀ xs ys i s b) (within : i < length xs) {b' : NonceBook} {ys' : List (Step L)} where
  pub come_further : (t : Stage E) → ((d : Step L) → Stepped meaning rule string s b ys i d (Ok t) b' ys') → Come meaning rule string b₀ e₀ xs ys' (i + 1) t b'
  come_further t step =
      let d = some_item i xs within in
      rw (add-one i) (come_on come within d t b' ys' (step d))

  pub come_halted : (e : Misplaced E) → ((d : Step L) → Stepped meaning rule string s b ys i d (Err e) b' ys') → RanCalls meaning rule string b₀ e₀ xs e.0 i b' ys'
  come_halted e step =
      let d = some_item i xs within in
      let stop = halt come within d e b' ys' (step d) in
      rw (stop.script, stop.stage, stop.book) (ended come stop.far)
