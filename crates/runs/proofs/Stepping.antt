-- One call of a script, from what its parts do.
use Rattle.std.proofs.Common.{◌≡◌, ℕ, ◌<◌, List, length, get_or, set, Ok, Option, Result, sym, refl, ap, ◌∙◌, subst}
use Rattle.std.proofs.lemmas.List.{get_or_default, get_or-set_same}
use Rattle.cipher.specs.declared.book.IssuedNonce.{IssuedNonce}
use Rattle.cipher.specs.declared.book.NonceBook.{NonceBook}
use Rattle.runs.specs.Allowed.{Use, issues, takes, neither, use_of}
use Rattle.runs.specs.Stages.{point_of, Readied, IssueRan, Advanced, EngineStep, SteppedBy, Stepped}
use Rattle.runs.proofs.Sorts.{is_issue}
use Rattle.runs.specs.declared.script.Call.TheVariants.{Issue}
use Rattle.runs.specs.declared.script.Step.{Step}
use Rattle.runs.specs.declared.stage.Misplaced.{Misplaced}
use Rattle.runs.specs.declared.stage.Stage.{Stage}

module _ {E : Type 0} (meaning : E → List ℕ) (rule : List ℕ → List ℕ) {L : Type 0} (string : L → List ℕ) (s : Stage E) (b : NonceBook) (xs : List (Step L)) (at : ℕ) (d e f y : Step L) (within : at < length xs) where
  pub stepped_issue : (b' : NonceBook) → (get_or xs at e).call ≡ Issue → IssueRan b (get_or xs at f) b' y → Stepped meaning rule string s b xs at d (Ok s) b' (set xs at y)
  stepped_issue b' issue ran =
      let here : get_or (set xs at y) at d ≡ y = get_or-set_same xs at y d within in
      let used : use_of (get_or xs at d).call ≡ issues = ap (λ (x : Step L). use_of x.call) (get_or_default xs at d e within) ∙ ap use_of issue in
      subst (λ (u : Use). SteppedBy meaning rule string u s b xs at d (Ok s) b' (set xs at y)) (sym used) record {
        ran = refl;
        issue = rw here (rw (get_or_default xs at f d within) at ran);
        script = ap (set xs at) (sym here);
      }

  by_engine : (u : Use) → (u ≡ issues → ⊥) → (r : Result (Stage E) (Misplaced E)) (b' : NonceBook) (ys : List (Step L)) → EngineStep meaning rule string s b xs at d r b' ys → SteppedBy meaning rule string u s b xs at d r b' ys
  by_engine issues other r b' ys step = absurd (other refl)
  by_engine (takes j) other r b' ys step = step
  by_engine neither other r b' ys step = step

  pub stepped_engine : (nonce : Option IssuedNonce) (mid : List (Step L)) (r : Result (Stage E) (Misplaced E)) → length mid ≡ length xs → ((get_or xs at e).call ≡ Issue → ⊥) → Readied (point_of s) (use_of (get_or xs at d).call) xs at d nonce mid → Advanced meaning rule string s nonce (get_or mid at f) r y → Stepped meaning rule string s b xs at d r b (set mid at y)
  stepped_engine nonce mid r long other readied advanced =
      let inside : at < length mid = rw long within in
      let here : get_or (set mid at y) at d ≡ y = get_or-set_same mid at y d inside in
      let other-use : use_of (get_or xs at d).call ≡ issues → ⊥ = λ used. other (ap (λ (x : Step L). x.call) (get_or_default xs at e d within) ∙ is_issue string (get_or xs at d).call used) in
      by_engine (use_of (get_or xs at d).call) other-use r b (set mid at y) record {
        book = refl;
        nonce = nonce;
        middle = mid;
        readied = readied;
        advanced = rw here (rw (get_or_default mid at f d inside) at advanced);
        script = ap (set mid at) (sym here);
      }
