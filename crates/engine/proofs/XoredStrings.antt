-- A string xored in: at none, byte by byte, and past the last place.
use Rattle.std.proofs.Common.{◌≡◌, ℕ, suc, ◌≤◌, List, [], ◌∷◌, length, get_or, Ok, Err, Result, sym, refl, ap, ◌∙◌, arith}
use Rattle.std.proofs.lemmas.List.{set_past, length-set}
use lib.Bits.{bit_xor}
use Rattle.engine.specs.Answers.{Xored}
use Rattle.engine.specs.Strings.{width, xored, xored_from}
use Rattle.engine.specs.declared.refusal.Refusal.{Refusal}

-- what lies past the last place is left out
pub xored_past : (s : List ℕ) (place b : ℕ) → length s ≤ place → xored s place b ≡ s
xored_past s place b past = set_past s place _ past

pub xored_from-nil : (s : List ℕ) (place : ℕ) → xored_from s place [] ≡ s
unfolding xored_from
xored_from-nil s place = refl

pub xored_from_past : (m s : List ℕ) (place : ℕ) → length s ≤ place → xored_from s place m ≡ s
unfolding xored_from
xored_from_past [] s place past = refl
xored_from_past (b ∷ m) s place past =
    let longer : length (xored s place b) ≤ suc place = rw (length-set s place (bit_xor (get_or s place 0) b)) (omega arith) in
    xored_from_past m (xored s place b) (suc place) longer ∙ xored_past s place b past

-- the first byte goes in, whether its place is in the state or not
pub xored_from-cons : (s t m : List ℕ) (place b : ℕ) (r : Result Unit Refusal) → length s ≡ width → Xored s place b r t → xored_from s place (b ∷ m) ≡ xored_from t (suc place) m
unfolding xored_from
xored_from-cons s t m place b (Ok x) long done = ap (λ (u : List ℕ). xored_from u (suc place) m) (sym done.1)
xored_from-cons s t m place b (Err e) long done = ap (λ (u : List ℕ). xored_from u (suc place) m) (xored_past s place b (omega (arith, done.0)) ∙ sym done.2)
