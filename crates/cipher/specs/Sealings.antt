-- What a sealing answers to a write, and to a whole message.
use Rattle.std.specs.Prelude.{◌≡◌, ℕ, ◌<◌, ◌≤◌, List, ◌++◌, length, take, drop, Ok, Err, Result}
use Rattle.engine.specs.Refusals.{number}
use Rattle.engine.specs.declared.refusal.Refusal.{Refusal}
use Rattle.sponge.specs.Blocks.{sealed_box}
use Rattle.sponge.specs.Steps.{standing}
use Rattle.cipher.specs.Ciphering.{Ciphers}
use Rattle.cipher.specs.declared.closed.Closed.{Closed}
use Rattle.cipher.specs.declared.uses.ToSeal.{ToSeal}

-- write, from the sealing c to c': a piece ciphered into a buffer, and its length;
-- a buffer that is shorter than the piece is refused with 7, and is as it was, and so is the sealing
abbrev pub Wrote : {E : Type 0} → (E → List ℕ) → (List ℕ → List ℕ) → Closed E ToSeal → List ℕ → List ℕ → Closed E ToSeal → Result ℕ Refusal → List ℕ → Type 0
Wrote meaning rule c piece before c' (Ok n) after =
    (n ≡ length piece) × (length piece ≤ length before) × Ciphers rule (standing meaning c.sponge) piece before after (standing meaning c'.sponge)
Wrote meaning rule c piece before c' (Err e) after = (length before < length piece) × (number e ≡ 7) × (after ≡ before) × (c' ≡ c)

-- a message sealed in one piece: a buffer and the place of the tag, before and after
module _ (rule : List ℕ → List ℕ) (key nonce ad m before after tag-before tag : List ℕ) where
  -- the buffer's first bytes and the tag make the message's box, and the rest stays
  pub record Seals (n : ℕ) : Type 0 where
    pub answer : n ≡ length m
    pub room : length m ≤ length before
    pub box : take (length m) after ++ tag ≡ sealed_box rule key nonce ad m
    pub rest : drop (length m) after ≡ drop (length m) before

  -- a buffer that is shorter than the message is refused with 7, and is as it was, and so is the place of the tag
  abbrev pub Sealed : Result ℕ Refusal → Type 0
  Sealed (Ok n) = Seals n
  Sealed (Err e) = (length before < length m) × (number e ≡ 7) × (after ≡ before) × (tag ≡ tag-before)
