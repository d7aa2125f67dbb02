-- Laws of xor, and, or on numbers of any size, and of powers of two moved through them.
use Rattle.std.proofs.Common.{◌≡◌, ℕ, zero, suc, ◌+◌, ◌*◌, ◌/◌, ◌%◌, ◌^◌, ◌<◌, sym, refl, ap, ◌∙◌, ap₂, add-zero, mod-lt, zero-lt-suc, div-add-mod', arith, pow_pos, pow-add, shr_lt}
use native.Mathlib.Nat.{mul-mod_left, mul-div-mul_right}
use lib.Arith.{bin_ind}
use lib.Pow.{shl-shr, mod-pow-add}
use lib.Bits.{bit_and, bit_or, bit_xor, and_shr, or_shr, xor_shr, and_mod, or_mod, xor_mod, xor_assoc, xor_comm, and_comm, xor_self, xor_zero_r, or_shifted, xor_shifted, xor_block}

-- a fact about a binary digit holds if it holds of 0 and of 1
on_digit : (P : ℕ → Type 0) → P 0 → P 1 → (x : ℕ) → x < 2 → P x
on_digit P p q zero h = p
on_digit P p q (suc zero) h = q
on_digit P p q (suc (suc x)) h = absurd (omega arith)

digit : (n : ℕ) → n % 2 < 2
digit n = mod-lt n (zero-lt-suc 1)

-- two numbers are equal when their halves and their lowest digits are
from_digits : {a b : ℕ} → a / 2 ≡ b / 2 → a % 2 ≡ b % 2 → a ≡ b
from_digits {a} {b} hi lo = sym (div-add-mod' a 2) ∙ ap₂ (λ (x y : ℕ). x * 2 + y) hi lo ∙ div-add-mod' b 2

pub xor_left_comm : (a b c : ℕ) → bit_xor a (bit_xor b c) ≡ bit_xor b (bit_xor a c)
xor_left_comm a b c = sym (xor_assoc a b c) ∙ ap (λ x. bit_xor x c) (xor_comm a b) ∙ xor_assoc b a c

-- two xors of two, paired the other way
pub xor_medial : (a b c d : ℕ) → bit_xor (bit_xor a b) (bit_xor c d) ≡ bit_xor (bit_xor a c) (bit_xor b d)
xor_medial a b c d = xor_assoc a b (bit_xor c d) ∙ ap (bit_xor a) (xor_left_comm b c d) ∙ sym (xor_assoc a c (bit_xor b d))

-- what is xored in twice is gone
pub xor_cancel : (a b : ℕ) → bit_xor a (bit_xor a b) ≡ b
xor_cancel a b = sym (xor_assoc a a b) ∙ ap (λ x. bit_xor x b) (xor_self a)

digit_and_xor : (x y z : ℕ) → x < 2 → y < 2 → z < 2 → bit_and x (bit_xor y z) ≡ bit_xor (bit_and x y) (bit_and x z)
digit_and_xor x y z hx hy hz =
    on_digit (λ x. bit_and x (bit_xor y z) ≡ bit_xor (bit_and x y) (bit_and x z)) refl
    (on_digit (λ y. bit_and 1 (bit_xor y z) ≡ bit_xor (bit_and 1 y) (bit_and 1 z))
    refl (on_digit (λ z. bit_and 1 (bit_xor 1 z) ≡ bit_xor (bit_and 1 1) (bit_and 1 z)) refl refl z hz) y hy) x hx

pub and_xor : (a b c : ℕ) → bit_and a (bit_xor b c) ≡ bit_xor (bit_and a b) (bit_and a c)
and_xor =
    bin_ind (λ (n : ℕ). (b c : ℕ) → bit_and n (bit_xor b c) ≡ bit_xor (bit_and n b) (bit_and n c)) (λ b c. refl)
    (λ n ih b c. from_digits
    (and_shr n (bit_xor b c) 1 ∙ ap (bit_and (n / 2)) (xor_shr b c 1) ∙ ih (b / 2) (c / 2)
    ∙ sym (xor_shr (bit_and n b) (bit_and n c) 1 ∙ ap₂ bit_xor (and_shr n b 1) (and_shr n c 1)))
    (and_mod n (bit_xor b c) 1 ∙ ap (bit_and (n % 2)) (xor_mod b c 1)
    ∙ digit_and_xor (n % 2) (b % 2) (c % 2) (digit n) (digit b) (digit c)
    ∙ sym (xor_mod (bit_and n b) (bit_and n c) 1 ∙ ap₂ bit_xor (and_mod n b 1) (and_mod n c 1))))

pub xor_and : (a b c : ℕ) → bit_and (bit_xor a b) c ≡ bit_xor (bit_and a c) (bit_and b c)
xor_and a b c = and_comm (bit_xor a b) c ∙ and_xor c a b ∙ ap₂ bit_xor (and_comm c a) (and_comm c b)

digit_or : (x y : ℕ) → x < 2 → y < 2 → bit_or x y ≡ bit_xor x (bit_xor y (bit_and x y))
digit_or x y hx hy =
    on_digit (λ x. bit_or x y ≡ bit_xor x (bit_xor y (bit_and x y))) (sym (xor_zero_r y))
    (on_digit (λ y. bit_or 1 y ≡ bit_xor 1 (bit_xor y (bit_and 1 y))) refl refl y hy) x hx

-- or by xor and and
pub or_is_xor : (a b : ℕ) → bit_or a b ≡ bit_xor a (bit_xor b (bit_and a b))
or_is_xor =
    bin_ind (λ (n : ℕ). (b : ℕ) → bit_or n b ≡ bit_xor n (bit_xor b (bit_and n b))) (λ b. sym (xor_zero_r b))
    (λ n ih b. from_digits
    (or_shr n b 1 ∙ ih (b / 2)
    ∙ sym (xor_shr n (bit_xor b (bit_and n b)) 1 ∙ ap (bit_xor (n / 2)) (xor_shr b (bit_and n b) 1 ∙ ap (bit_xor (b / 2)) (and_shr n b 1))))
    (or_mod n b 1 ∙ digit_or (n % 2) (b % 2) (digit n) (digit b)
    ∙ sym (xor_mod n (bit_xor b (bit_and n b)) 1 ∙ ap (bit_xor (n % 2)) (xor_mod b (bit_and n b) 1 ∙ ap (bit_xor (b % 2)) (and_mod n b 1)))))

-- a shift that drops nothing goes through xor
pub xor_shl : (a b k : ℕ) → bit_xor a b * 2 ^ k ≡ bit_xor (a * 2 ^ k) (b * 2 ^ k)
xor_shl a b k =
    sym (add-zero (bit_xor a b * 2 ^ k)) ∙ sym (xor_block k a b 0 0 (pow_pos k) (pow_pos k))
    ∙ ap₂ bit_xor (add-zero (a * 2 ^ k)) (add-zero (b * 2 ^ k))

-- a shift within j + k bits keeps the low j bits
pub shl_within : (x j k : ℕ) → x * 2 ^ k % 2 ^ (j + k) ≡ (x % 2 ^ j) * 2 ^ k
shl_within x j k =
    mod-pow-add (x * 2 ^ k) j k ∙ ap₂ (λ (a b : ℕ). (a % 2 ^ j) * 2 ^ k + b) (shl-shr x k) (mul-mod_left x (2 ^ k))
    ∙ add-zero ((x % 2 ^ j) * 2 ^ k)

-- what leaves j + k bits at a shift by k are the bits from j on
pub shl_beyond : (x j k : ℕ) → x * 2 ^ k / 2 ^ (j + k) ≡ x / 2 ^ j
shl_beyond x j k = ap (λ (d : ℕ). x * 2 ^ k / d) (pow-add 2 j k) ∙ mul-div-mul_right x (2 ^ j) (pow_pos k)

-- a rotation of j + k bits may join its two parts by or or by xor
pub rotation_joins : (x j k : ℕ) → x < 2 ^ (k + j) → bit_or (x * 2 ^ k % 2 ^ (j + k)) (x / 2 ^ j) ≡ bit_xor (x * 2 ^ k % 2 ^ (j + k)) (x * 2 ^ k / 2 ^ (j + k))
rotation_joins x j k h =
    let small : x / 2 ^ j < 2 ^ k = shr_lt k j h in
    ap (λ (a : ℕ). bit_or a (x / 2 ^ j)) (shl_within x j k)
    ∙ or_shifted (x % 2 ^ j) k (x / 2 ^ j) small
    ∙ sym (xor_shifted (x % 2 ^ j) k (x / 2 ^ j) small)
    ∙ ap₂ bit_xor (sym (shl_within x j k)) (sym (shl_beyond x j k))
