-- Xor undone, and bits of which there are none.
use Rattle.std.proofs.Common.{◌≡◌, ℕ, ◌<◌, sym, ap, ◌∙◌, arith}
use lib.Bits.{bit_or, bit_xor, and_le_l, and_le_r, or_add_and, xor_assoc, xor_self, xor_zero_r, xor_lt}

-- the same byte twice is none
pub xor_twice : (k b : ℕ) → bit_xor k (bit_xor k b) ≡ b
xor_twice k b = sym (xor_assoc k k b) ∙ ap (λ (x : ℕ). bit_xor x b) (xor_self k)

pub xor_cancel : (k a b : ℕ) → bit_xor k a ≡ bit_xor k b → a ≡ b
xor_cancel k a b e = sym (xor_twice k a) ∙ ap (bit_xor k) e ∙ xor_twice k b

pub xor_none : (a b : ℕ) → bit_xor a b ≡ 0 → a ≡ b
xor_none a b e = sym (xor_zero_r a) ∙ ap (bit_xor a) (sym e) ∙ xor_twice a b

-- bytes stay bytes
pub xor_byte : (a b : ℕ) → a < 256 → b < 256 → bit_xor a b < 256
xor_byte a b h k = xor_lt 8 a b h k

pub or_none : (a b : ℕ) → bit_or a b ≡ 0 → (a ≡ 0) × (b ≡ 0)
or_none a b e = let sum = or_add_and a b in let l = and_le_l a b in let r = and_le_r a b in (omega arith, omega arith)
