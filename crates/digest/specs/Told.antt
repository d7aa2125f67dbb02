-- Lists of one kind that feed the same string are equal string by string.
use Rattle.std.specs.Prelude.{◌≡◌, ℕ, ◌+◌, ◌<◌, ◌≤◌, List, [], ◌∷◌, ◌++◌, map, length, take, drop, refl}
use Rattle.std.proofs.Common.{sym, ap, ◌∙◌, inl, inr, arith}
use Rattle.std.specs.List.{flat_map}
use Rattle.digest.specs.Items.{Told}
use Rattle.std.proofs.lemmas.List.{append_cancel_left, append-nil, length-append, nil_from_length, take-append-drop, take-append-le, take_at}
use Rattle.std.proofs.lemmas.Bool.{cases_lt}

-- the shorter of two fronts of one string begins the longer
front_begins : (a b s t : List ℕ) → a ++ s ≡ b ++ t → length a ≤ length b → a ++ drop (length a) b ≡ b
front_begins a b s t e h =
    let front : a ≡ take (length a) b = sym (take_at a s (length a) refl) ∙ ap (take (length a)) e ∙ take-append-le (length a) b t h in
    ap (λ (x : List ℕ). x ++ drop (length a) b) front ∙ take-append-drop (length a) b

-- a front as long as the whole is the whole
pub whole_front : (a b t : List ℕ) → length a ≡ length b → a ++ t ≡ b → a ≡ b
whole_front a b t h e =
    let long : length a + length t ≡ length b = sym (length-append a t) ∙ ap length e in
    let none : t ≡ [] = nil_from_length t (omega arith) in
    sym (append-nil a) ∙ ap (λ (x : List ℕ). a ++ x) (sym none) ∙ e

module _ {I : Type 0} (bytes : I → List ℕ) (nonempty : (a : I) → 0 < length (bytes a)) (prefix-free : (a b : I) (t : List ℕ) → bytes a ++ t ≡ bytes b → bytes a ≡ bytes b) where
  first_same : (a b : I) (s t : List ℕ) → bytes a ++ s ≡ bytes b ++ t → bytes a ≡ bytes b
  first_same a b s t e =
      elim (cases_lt (length (bytes a)) (length (bytes b))) [
        | inl h ↦ prefix-free a b _ (front_begins (bytes a) (bytes b) s t e (omega arith))
        | inr h ↦ sym (prefix-free b a _ (front_begins (bytes b) (bytes a) t s (sym e) h))
      ]

  same_strings : (xs ys : List I) → flat_map bytes xs ≡ flat_map bytes ys → map bytes xs ≡ map bytes ys
  same_strings [] [] e = refl
  same_strings [] (y ∷ ys) e = absurd (omega (arith, nonempty y, ap length e ∙ length-append (bytes y) (flat_map bytes ys)))
  same_strings (x ∷ xs) [] e = absurd (omega (arith, nonempty x, sym (length-append (bytes x) (flat_map bytes xs)) ∙ ap length e))
  same_strings (x ∷ xs) (y ∷ ys) e =
      let first : bytes x ≡ bytes y = first_same x y (flat_map bytes xs) (flat_map bytes ys) e in
      let rest : flat_map bytes xs ≡ flat_map bytes ys =
      append_cancel_left (bytes y) _ _ (ap (λ (s : List ℕ). s ++ flat_map bytes xs) (sym first) ∙ e) in
      ap (λ (s : List ℕ). s ∷ map bytes xs) first ∙ ap (λ (r : List (List ℕ)). bytes y ∷ r) (same_strings xs ys rest)

  pub told : (items : List I) → Told bytes items
  told items others e = same_strings items others e
