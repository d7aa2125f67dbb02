-- What the calls of a three-share engine do to each share.
use Rattle.std.specs.Prelude.{◌≡◌, ℕ, List, [], ◌∷◌, length, Ok, Err, Result, ◌≢◌}
use Rattle.engine.specs.Refusals.{number}
use Rattle.engine.specs.Strings.{width, zeros}
use Rattle.engine.specs.declared.refusal.Refusal.{Refusal}
use Rattle.gimli.specs.Shares.{Sharing, share, joined, xor_states}
use Rattle.gimli.specs.Strings.{state, string, StateXored}
use Rattle.gimli.specs.declared.three_share.ThreeShareEngine.{ThreeShareEngine}

-- made from two masks of 48 bytes: they are shares 1 and 2, and share 0 is their xor; from others refused with 2
abbrev pub Made : List ℕ → List ℕ → Result ThreeShareEngine Refusal → Type 0
Made first second (Ok e) =
    (length first ≡ width) × (length second ≡ width)
    × (e.shares.share ≡ xor_states (state first) (state second) ∷ state first ∷ state second ∷ [])
    × (string (joined e.shares.share) ≡ zeros)
Made first second (Err e) = (length first ≡ width → length second ≢ width) × (number e ≡ 2)

-- cleared: share 0 is the xor of the other two, and they are as they were
abbrev pub Recleared : Sharing → Sharing → Type 0
Recleared before after = after ≡ xor_states (share before 1) (share before 2) ∷ share before 1 ∷ share before 2 ∷ []

-- a byte xored in: into share 0, and the other two are as they were
abbrev pub ShareXored : Sharing → ℕ → ℕ → Result Unit Refusal → Sharing → Type 0
ShareXored before place b r after =
    StateXored (share before 0) place b r (share after 0) × (share after 1 ≡ share before 1) × (share after 2 ≡ share before 2)
