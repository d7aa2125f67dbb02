-- A call issues, or starts a sealing, or has nothing to do with nonces; and what its event then is.
use Rattle.std.proofs.Common.{◌≡◌, ℕ, false, ◌⊎◌, List, refl, ap, ◌∙◌, inl, inr, rules}
use Rattle.cipher.specs.declared.key.Key.{Key}
use Rattle.runs.specs.Allowed.{issues, takes, neither, use_of}
use Rattle.runs.specs.History.{Event, sealing_started}
use Rattle.runs.specs.Runs.{nonces_of, bookish, IssueTold}
use Rattle.runs.specs.Scripts.{call_event}
use Rattle.runs.specs.Traces.{Fresh}
use Rattle.runs.proofs.Nonces.{no}
use Rattle.runs.specs.declared.script.Call.{Call}
use Rattle.runs.specs.declared.script.Call.TheVariants.{Issue, StartSealing, StartOpening, Add, Close, Write, Finish, Open, BeginDigest, Feed, FeedList, EndFeeding, Draw, Release}
use Rattle.runs.specs.declared.script.Reply.{Reply}

-- an event of the engine that has nothing to do with nonces
pub record Plain (e : Event) : Type 0 where
  pub none_issued : nonces_of e ≡ 0
  pub engine's : bookish e ≡ false
  pub fresh : (past : List Event) → Fresh past e
  pub no_start : (k n : List ℕ) → e ≡ sealing_started k n → ⊥
  pub silent : (name : List ℕ) (count : ℕ) → IssueTold name count e

module _ {L : Type 0} (string : L → List ℕ) where
  -- a call issues, or starts a sealing, or has nothing to do with nonces
  sort : (c : Call L) → (c ≡ Issue) ⊎ (((k : Key) × ((i : ℕ) × (c ≡ StartSealing k i))) ⊎ ((use_of c ≡ neither) × ((after : List ℕ) (r : Reply) → Plain (call_event string c after r))))
  sort Issue = inl refl
  sort (StartSealing k i) = inr (inl (k, (i, refl)))
  sort (StartOpening k n) = inr (inr (refl, λ after r. search rules))
  sort (Add a) = inr (inr (refl, λ after r. search rules))
  sort Close = inr (inr (refl, λ after r. search rules))
  sort (Write m b) = inr (inr (refl, λ after r. search rules))
  sort Finish = inr (inr (refl, λ after r. search rules))
  sort (Open s b) = inr (inr (refl, λ after r. search rules))
  sort BeginDigest = inr (inr (refl, λ after r. search rules))
  sort (Feed f) = inr (inr (refl, λ after r. search rules))
  sort (FeedList l) = inr (inr (refl, λ after r. search rules))
  sort EndFeeding = inr (inr (refl, λ after r. search rules))
  sort (Draw b) = inr (inr (refl, λ after r. search rules))
  sort Release = inr (inr (refl, λ after r. search rules))

  pub is_issue : (c : Call L) → use_of c ≡ issues → c ≡ Issue
  is_issue c u = elim (sort c) [ inl e ↦ e | inr w ↦ elim w [ inl p ↦ (let e = p.1.1 in no cc) | inr p ↦ (let e = p.0 in no cc) ] ]

  pub is_start : (c : Call L) (j : ℕ) → use_of c ≡ takes j → (k : Key) × (c ≡ StartSealing k j)
  is_start c j u = elim (sort c) [ inl e ↦ no cc | inr w ↦ elim w [ inl p ↦ (let e = p.1.1 in let same : p.1.0 ≡ j = cc in (p.0, e ∙ ap (StartSealing p.0) same)) | inr p ↦ (let e = p.0 in no cc) ] ]

  pub is_plain : (c : Call L) (after : List ℕ) (r : Reply) → use_of c ≡ neither → Plain (call_event string c after r)
  is_plain c after r u = elim (sort c) [ inl e ↦ no cc | inr w ↦ elim w [ inl p ↦ (let e = p.1.1 in no cc) | inr p ↦ p.1 after r ] ]
