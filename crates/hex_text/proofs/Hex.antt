-- A string's hex digits stand two by two, and are those of no other string.
use Rattle.std.proofs.Common.{◌≡◌, ℕ, zero, suc, ◌+◌, ◌-◌, ◌*◌, ◌/◌, ◌%◌, ◌<◌, ◌≤◌, List, [], ◌∷◌, ◌++◌, length, get_or, take, drop, sym, refl, ap, ◌∙◌, arith}
use Rattle.std.proofs.lemmas.List.{append_assoc, ext_get_or, flat_map_more, get_or-append_right, take_all}
use Rattle.std.proofs.lemmas.Bool.Decides.{nat_tests}
use Rattle.engine.specs.Strings.{Bytes}
use Rattle.hex_text.specs.Hex.{digit, pair, hex}

pub hex_long : (s : List ℕ) → length (hex s) ≡ 2 * length s
hex_long [] = refl
hex_long (b ∷ s) = let more = hex_long s in omega arith

-- the digits of the byte at a place
pub hex-at : (s : List ℕ) (i : ℕ) → i < length s → get_or (hex s) (2 * i) 0 ∷ get_or (hex s) (2 * i + 1) 0 ∷ [] ≡ pair (get_or s i 0)
hex-at [] i h = absurd (omega arith)
hex-at (b ∷ s) zero h = refl
hex-at (b ∷ s) (suc i) h =
    let high : 2 * suc i ≡ suc (suc (2 * i)) = omega arith in
    let low : 2 * suc i + 1 ≡ suc (suc (2 * i + 1)) = omega arith in
    rw (low, high) (hex-at s i (omega arith))

-- the digits that are left begin with those of the next byte
pub hex_next : (s x rest : List ℕ) → hex x ≡ hex s ++ rest → length s < length x → get_or rest 0 0 ∷ get_or rest 1 0 ∷ [] ≡ pair (get_or x (length s) 0)
hex_next [] [] rest is more = absurd (omega arith)
hex_next [] (b ∷ x) rest is more = ap (λ (l : List ℕ). get_or l 0 0 ∷ get_or l 1 0 ∷ []) (sym is)
hex_next (a ∷ s) [] rest is more = absurd (omega arith)
hex_next (a ∷ s) (b ∷ x) rest is more = hex_next s x rest (ap (drop 2) is) (omega arith)

-- the first of the digits that are left
pub first_left : (digits s rest : List ℕ) → digits ≡ hex s ++ rest → get_or digits (2 * length s) 0 ≡ get_or rest 0 0
first_left digits s rest is =
    let none : 2 * length s - 2 * length s ≡ 0 = omega arith in
    ap (λ (l : List ℕ). get_or l (2 * length s) 0) is
    ∙ get_or-append_right (hex s) rest (2 * length s) (2 * length s) 0 (hex_long s) (omega arith)
    ∙ ap (λ (k : ℕ). get_or rest k 0) none

-- of at least two digits, the first two, and what follows them
pub two_first : (rest : List ℕ) → 2 ≤ length rest → rest ≡ get_or rest 0 0 ∷ get_or rest 1 0 ∷ take (length rest - 2) (drop 2 rest)
two_first [] more = absurd (omega arith)
two_first (a ∷ []) more = absurd (omega arith)
two_first (a ∷ b ∷ rest) more = ap (λ (l : List ℕ). a ∷ b ∷ l) (sym (take_all (length (a ∷ b ∷ rest) - 2) rest (omega arith)))

-- a digit pair taken from what is left
pub pair_taken : (digits s rest after : List ℕ) (b high low : ℕ) → digits ≡ hex s ++ rest → rest ≡ high ∷ low ∷ after → high ∷ low ∷ [] ≡ pair b → digits ≡ hex (s ++ b ∷ []) ++ after
pair_taken digits s rest after b high low is split read =
    is
    ∙ ap (λ (l : List ℕ). hex s ++ l) (split ∙ ap (λ (l : List ℕ). l ++ after) read)
    ∙ sym (append_assoc (hex s) (pair b) after)
    ∙ ap (λ (l : List ℕ). l ++ after) (flat_map_more pair [] s b)

-- a byte more at the end
pub bytes_further : (s : List ℕ) (b : ℕ) → Bytes s → b < 256 → Bytes (s ++ b ∷ [])
bytes_further [] b bytes small zero = small
bytes_further [] b bytes small (suc i) = omega arith
bytes_further (a ∷ s) b bytes small zero = bytes zero
bytes_further (a ∷ s) b bytes small (suc i) = bytes_further s b (λ k. bytes (suc k)) small i

-- ---- what is written in one way only

digit_same : (d e : ℕ) → d < 16 → e < 16 → digit d ≡ digit e → d ≡ e
digit_same d e hd he same = grind (arith, nat_tests)

pair_same : (a b : ℕ) → a < 256 → b < 256 → pair a ≡ pair b → a ≡ b
pair_same a b ha hb same =
    let high = digit_same (a / 16) (b / 16) (omega arith) (omega arith) (ap (λ (l : List ℕ). get_or l 0 0) same) in
    let low = digit_same (a % 16) (b % 16) (omega arith) (omega arith) (ap (λ (l : List ℕ). get_or l 1 0) same) in
    omega arith

pub hex_same : (s t : List ℕ) → Bytes s → Bytes t → hex s ≡ hex t → s ≡ t
hex_same s t ws wt same =
    let long : length s ≡ length t = omega (arith, hex_long s, hex_long t, ap length same) in
    ext_get_or 0 s t long
    (λ i h. pair_same (get_or s i 0) (get_or t i 0) (ws i) (wt i)
    (sym (hex-at s i h) ∙ ap (λ (l : List ℕ). get_or l (2 * i) 0 ∷ get_or l (2 * i + 1) 0 ∷ []) same ∙ hex-at t i (omega (arith, long))))
