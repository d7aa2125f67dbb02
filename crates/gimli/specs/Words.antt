-- Words of 32 bits, and the two moves of their bits.
use Rattle.std.specs.Prelude.{ℕ, ◌*◌, ◌/◌, ◌%◌, ◌^◌, bit_xor}

-- left by k: zero bits come in at the bottom, and what leaves at the top is dropped
unfoldable pub shifted : ℕ → ℕ → ℕ
shifted k x = x * 2 ^ k % 2 ^ 32

-- left by k: the bits that leave at the top come back in at the bottom
unfoldable pub rotated : ℕ → ℕ → ℕ
rotated k x = bit_xor (x * 2 ^ k % 2 ^ 32) (x * 2 ^ k / 2 ^ 32)
