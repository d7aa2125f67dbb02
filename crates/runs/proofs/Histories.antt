-- The history of a script that grows by one step.
use Rattle.std.proofs.Common.{◌≡◌, ℕ, zero, suc, ◌<◌, ◌⊎◌, List, [], ◌∷◌, ◌++◌, length, get_or, refl, ap, ap₂, inl, inr, append_assoc, append-nil, arith}
use Rattle.runs.specs.History.{Event}
use Rattle.runs.specs.Scripts.{call_event, buffer_in, event, history}
use Rattle.runs.specs.Traces.{Model, next, Happened, Sound, Fresh, AllRight}
use Rattle.runs.proofs.Lawful.{model_after}
use Rattle.runs.specs.declared.script.Call.{Call}
use Rattle.runs.specs.declared.script.Reply.{Reply}
use Rattle.runs.specs.declared.script.Step.{Step}

-- two steps that differ in the nonce that they hold at most
abbrev pub Alike : {L : Type 0} → Step L → Step L → Type 0
Alike y z = (y.call ≡ z.call) × (y.reply ≡ z.reply)

module _ {L : Type 0} (string : L → List ℕ) where
  same_event : (x y z : Step L) → Alike y z → event string x y ≡ event string x z
  same_event x y z a = ap₂ (λ (c : Call L) (r : Reply). call_event string x.call (buffer_in c) r) a.0 a.1

  pub history_agrees : (n : ℕ) (xs ys zs : List (Step L)) → length ys ≡ length zs → ((j : ℕ) (d : Step L) → j < n → Alike (get_or ys j d) (get_or zs j d)) → history string n xs ys ≡ history string n xs zs
  history_agrees zero xs ys zs long alike = refl
  history_agrees (suc n) [] ys zs long alike = refl
  history_agrees (suc n) (x ∷ xs) [] [] long alike = refl
  history_agrees (suc n) (x ∷ xs) [] (z ∷ zs) long alike = absurd (omega arith)
  history_agrees (suc n) (x ∷ xs) (y ∷ ys) [] long alike = absurd (omega arith)
  history_agrees (suc n) (x ∷ xs) (y ∷ ys) (z ∷ zs) long alike =
      ap₂ (λ (e : Event) (h : List Event). e ∷ h) (same_event x y z (alike 0 y (omega arith)))
      (history_agrees n xs ys zs (omega arith) (λ j d h. alike (suc j) d (omega arith)))

  pub history_more : (n : ℕ) (xs ys : List (Step L)) (d : Step L) → n < length xs → n < length ys → history string (suc n) xs ys ≡ history string n xs ys ++ event string (get_or xs n d) (get_or ys n d) ∷ []
  history_more zero (x ∷ xs) (y ∷ ys) d h k = refl
  history_more zero [] ys d h k = absurd (omega arith)
  history_more zero (x ∷ xs) [] d h k = absurd (omega arith)
  history_more (suc n) [] ys d h k = absurd (omega arith)
  history_more (suc n) (x ∷ xs) [] d h k = absurd (omega arith)
  history_more (suc n) (x ∷ xs) (y ∷ ys) d h k = ap (λ (t : List Event). event string x y ∷ t) (history_more n xs ys d (omega arith) (omega arith))

-- ---- a trace that grows by one event

pub model_more : (M : Model) (h : List Event) (e : Event) → model_after M (h ++ e ∷ []) ≡ next (model_after M h) e
model_more M [] e = refl
model_more M (x ∷ h) e = model_more (next M x) h e

module _ (rule : List ℕ → List ℕ) where
  pub right_more : (M : Model) (past h : List Event) (e : Event) → AllRight rule M past h → Sound rule (model_after M h) e → Fresh (past ++ h) e → AllRight rule M past (h ++ e ∷ [])
  right_more M past [] e r sound fresh = (sound, rw append-nil at fresh, tt)
  right_more M past (x ∷ h) e r sound fresh = (r.0, r.1, right_more (next M x) (past ++ x ∷ []) h e r.2 sound (rw append_assoc fresh))

-- ---- the past, with one event more

pub happened_more : (e x : Event) (h : List Event) → Happened e h → Happened e (h ++ x ∷ [])
happened_more e x (y ∷ h) (inl same) = inl same
happened_more e x (y ∷ h) (inr p) = inr (happened_more e x h p)
happened_more e x [] p = absurd p

pub happened_last : (e x : Event) (h : List Event) → Happened e (h ++ x ∷ []) → Happened e h ⊎ (x ≡ e)
happened_last e x [] (inl same) = inr same
happened_last e x [] (inr p) = absurd p
happened_last e x (y ∷ h) (inl same) = inl (inl same)
happened_last e x (y ∷ h) (inr p) = elim (happened_last e x h p) [ inl q ↦ inl (inr q) | inr q ↦ inr q ]
