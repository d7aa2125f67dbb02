-- The moves of a word's bits: they go through xor, they stay within 32 bits, and the code's rotation is the defined one.
use Rattle.std.proofs.Common.{◌≡◌, ℕ, ◌+◌, ◌*◌, ◌/◌, ◌%◌, ◌^◌, ◌<◌, ◌≤◌, ap, ◌∙◌, ap₂, mod-lt, add_comm, arith, pow_pos, pow_mono, shr_lt}
use lib.Bits.{bit_or, bit_xor, xor_mod, xor_shr, xor_lt}
use Rattle.gimli.proofs.Bits.{xor_shl, xor_medial, rotation_joins, shl_beyond}
use Rattle.gimli.specs.Words.{shifted, rotated}

pub shifted_xor : (k a b : ℕ) → shifted k (bit_xor a b) ≡ bit_xor (shifted k a) (shifted k b)
unfolding shifted
shifted_xor k a b = ap (λ (x : ℕ). x % 2 ^ 32) (xor_shl a b k) ∙ xor_mod (a * 2 ^ k) (b * 2 ^ k) 32

pub rotated_xor : (k a b : ℕ) → rotated k (bit_xor a b) ≡ bit_xor (rotated k a) (rotated k b)
unfolding rotated
rotated_xor k a b =
    ap₂ bit_xor
    (ap (λ (x : ℕ). x % 2 ^ 32) (xor_shl a b k) ∙ xor_mod (a * 2 ^ k) (b * 2 ^ k) 32)
    (ap (λ (x : ℕ). x / 2 ^ 32) (xor_shl a b k) ∙ xor_shr (a * 2 ^ k) (b * 2 ^ k) 32)
    ∙ xor_medial (a * 2 ^ k % 2 ^ 32) (b * 2 ^ k % 2 ^ 32) (a * 2 ^ k / 2 ^ 32) (b * 2 ^ k / 2 ^ 32)

pub shifted_fits : (k x : ℕ) → shifted k x < 2 ^ 32
unfolding shifted
shifted_fits k x = mod-lt (x * 2 ^ k) (pow_pos 32)

-- a rotation's two parts, as the code joins them
pub rotation : (j k x : ℕ) → j + k ≡ 32 → x < 2 ^ 32 → bit_or (x * 2 ^ k % 2 ^ 32) (x / 2 ^ j) ≡ rotated k x
unfolding rotated
rotation j k x e h =
    let within : x < 2 ^ (k + j) = rw (add_comm k j, e) h in
    rw e at (rotation_joins x j k within)

pub rotated_fits : (j k x : ℕ) → j + k ≡ 32 → x < 2 ^ 32 → rotated k x < 2 ^ 32
unfolding rotated
rotated_fits j k x e h =
    let within : x < 2 ^ (k + j) = rw (add_comm k j, e) h in
    let beyond : x * 2 ^ k / 2 ^ 32 ≡ x / 2 ^ j = rw e at (shl_beyond x j k) in
    let small : x / 2 ^ j < 2 ^ k = shr_lt k j within in
    let le : 2 ^ k ≤ 2 ^ 32 = pow_mono {i = k} {j = 32} (omega arith) in
    xor_lt 32 _ _ (mod-lt (x * 2 ^ k) (pow_pos 32)) (omega arith)
