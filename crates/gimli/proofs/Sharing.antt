-- Three shares, permuted each by its own rules, make together the permutation of the state that they share.
use Rattle.std.proofs.Common.{◌≡◌, ℕ, zero, suc, ◌-◌, ◌%◌, Bool, true, false, cond, eqb, [], ◌∷◌, get_or, refl, ap, ◌∙◌}
use lib.Bits.{bit_xor, xor_assoc, xor_comm}
use Rattle.gimli.proofs.Bits.{xor_left_comm, and_xor, xor_and, or_is_xor}
use Rattle.gimli.proofs.Words.{shifted_xor, rotated_xor}
use Rattle.gimli.specs.StringsLemmas.{same_state}
use Rattle.gimli.specs.Permutation.{Column, column, from_columns, sp_box, columns, small_swap, big_swap, add_constant, round, first_rounds, permutation}
use Rattle.gimli.specs.Shares.{Sharing, share, joined, xor_states, share_sp_box, share_columns, shared_columns, shared_small_swap, shared_big_swap, shared_constant, shared_round, first_shared_rounds, shared_permutation}
use Rattle.gimli.specs.declared.state.State.{State}

-- the xor of three columns
abbrev together : Column → Column → Column → Column
together a b c = (bit_xor (bit_xor a.0 b.0) c.0, bit_xor (bit_xor a.1 b.1) c.1, bit_xor (bit_xor a.2 b.2) c.2)

-- the three output shares of the SP-box together are the SP-box of the three input shares together
pub sp_box-shares : (a b c : Column) → together (share_sp_box b c) (share_sp_box c a) (share_sp_box a b) ≡ sp_box (together a b c)
unfolding share_sp_box sp_box
sp_box-shares a b c = simp (rotated_xor, shifted_xor, and_xor, xor_and, or_is_xor, xor_assoc, xor_comm, xor_left_comm)

columns-shares : (s : Sharing) → joined (shared_columns s) ≡ columns (joined s)
unfolding shared_columns share_columns columns xor_states
columns-shares s = λ i. from_columns (λ j. sp_box-shares (column (share s 0) j) (column (share s 1) j) (column (share s 2) j) i)

small_swap-shares : (s : Sharing) → joined (shared_small_swap s) ≡ small_swap (joined s)
unfolding shared_small_swap small_swap xor_states
small_swap-shares s = refl

big_swap-shares : (s : Sharing) → joined (shared_big_swap s) ≡ big_swap (joined s)
unfolding shared_big_swap big_swap xor_states
big_swap-shares s = refl

-- a word xored into one of three is xored into the three together
into_one : (w a b c : ℕ) → bit_xor (bit_xor (bit_xor a w) b) c ≡ bit_xor (bit_xor (bit_xor a b) c) w
into_one w a b c = simp (xor_assoc, xor_comm, xor_left_comm)

constant_shares : (r : ℕ) (s : Sharing) → joined (shared_constant r s) ≡ add_constant r (joined s)
unfolding shared_constant add_constant xor_states
constant_shares r s =
    let word : (h : ℕ) → ℕ = λ h. get_or (share s h).top 0 0 in
    same_state (ap (λ (x : ℕ). x ∷ get_or (joined s).top 1 0 ∷ get_or (joined s).top 2 0 ∷ get_or (joined s).top 3 0 ∷ []) (into_one (bit_xor 0x9e377900 r) (word 0) (word 1) (word 2))) refl refl

choice : (a b : Bool) (x y z : Sharing) {x' y' z' : State} → joined x ≡ x' → joined y ≡ y' → joined z ≡ z' → joined (cond a x (cond b y z)) ≡ cond a x' (cond b y' z')
choice true b x y z p q r = p
choice false true x y z p q r = q
choice false false x y z p q r = r

pub round-shares : (r : ℕ) (s : Sharing) → joined (shared_round r s) ≡ round r (joined s)
unfolding shared_round round
round-shares r s =
    choice (eqb (r % 4) 0) (eqb (r % 4) 2) _ _ _
    (constant_shares r (shared_small_swap (shared_columns s))
    ∙ ap (add_constant r) (small_swap-shares (shared_columns s) ∙ ap small_swap (columns-shares s)))
    (big_swap-shares (shared_columns s) ∙ ap big_swap (columns-shares s))
    (columns-shares s)

rounds_shares : (n : ℕ) (s : Sharing) → joined (first_shared_rounds n s) ≡ first_rounds n (joined s)
unfolding first_shared_rounds first_rounds
rounds_shares zero s = refl
rounds_shares (suc n) s = round-shares (24 - n) (first_shared_rounds n s) ∙ ap (round (24 - n)) (rounds_shares n s)

pub three_shares_make_one_permutation : (s : Sharing) → joined (shared_permutation s) ≡ permutation (joined s)
unfolding shared_permutation permutation
three_shares_make_one_permutation s = rounds_shares 24 s
