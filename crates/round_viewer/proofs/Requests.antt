-- Layouts taken apart, and that an input is the request of one number and one string at most.
use Rattle.std.proofs.Common.{◌≡◌, ℕ, ◌+◌, ◌/◌, ◌%◌, List, [], ◌∷◌, length, get_or, drop, sym, ap, ◌∙◌, arith}
use Rattle.std.proofs.lemmas.List.{length-append, append_cancel_right}
use Rattle.hex_text.specs.Hex.{hex}
use Rattle.round_viewer.specs.Requests.{layout, Asks}
use Rattle.hex_text.proofs.Hex.{hex_long, hex_same}

layout_long : (a b : ℕ) (d : List ℕ) → length (layout (a ∷ b ∷ []) d) ≡ length d + 4
layout_long a b d = omega (arith, length-append d (10 ∷ []))

layout_digits : {a b x y : ℕ} (d z : List ℕ) → layout (a ∷ b ∷ []) d ≡ layout (x ∷ y ∷ []) z → d ≡ z
layout_digits d z same = append_cancel_right d z (10 ∷ []) (ap (drop 3) same)

pub asked_long : (input : List ℕ) (n : ℕ) (s : List ℕ) → Asks input n s → length input ≡ 100
asked_long input n s asks = omega (arith, ap length asks.written, layout_long (48 + n / 10) (48 + n % 10) (hex s), hex_long s, asks.whole.long)

pub asks_one : (input : List ℕ) (n m : ℕ) (s t : List ℕ) → Asks input n s → Asks input m t → (n ≡ m) × (s ≡ t)
asks_one input n m s t p q =
    let same = sym p.written ∙ q.written in
    let tens : 48 + n / 10 ≡ 48 + m / 10 = ap (λ (l : List ℕ). get_or l 0 0) same in
    let ones : 48 + n % 10 ≡ 48 + m % 10 = ap (λ (l : List ℕ). get_or l 1 0) same in
    (omega arith, hex_same s t p.whole.bytes q.whole.bytes (layout_digits (hex s) (hex t) same))
