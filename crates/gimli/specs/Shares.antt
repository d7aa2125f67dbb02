-- Three shares of a state: what each does in a round, by itself, and what they make together.
use Rattle.std.specs.Prelude.{ℕ, zero, suc, ◌+◌, ◌-◌, ◌%◌, cond, List, [], ◌∷◌, ◌==◌, bit_and, bit_xor, slice_index, slice_index_or}
use Rattle.gimli.specs.Words.{shifted, rotated}
use Rattle.gimli.specs.Permutation.{Whole, Column, row, column, from_columns, small_swap, big_swap, add_constant}
use Rattle.gimli.specs.declared.state.State.{State}

-- a sharing: the list of share 0, share 1 and share 2
abbrev pub Sharing : Type 0
Sharing = List State

abbrev none : State
none = record { top = []; middle = []; bottom = [] }

-- share h of a sharing
abbrev pub share : Sharing → ℕ → State
share s h = slice_index_or s h none

-- what the code's types say of a sharing
pub record WholeShares (s : Sharing) : Type 0 where
  pub zeroth : Whole (share s 0)
  pub first : Whole (share s 1)
  pub second : Whole (share s 2)

-- what two states make together: each word the xor of their words
unfoldable pub xor_states : State → State → State
xor_states a b = record {
  top = row (λ j. bit_xor (slice_index a.top j) (slice_index b.top j));
  middle = row (λ j. bit_xor (slice_index a.middle j) (slice_index b.middle j));
  bottom = row (λ j. bit_xor (slice_index a.bottom j) (slice_index b.bottom j));
}

-- the state that a sharing is of
abbrev pub joined : Sharing → State
joined s = xor_states (xor_states (share s 0) (share s 1)) (share s 2)

-- the SP-box of output share h, from input share a = h + 1 and input share b = h + 2 (modulo 3) alone
unfoldable pub share_sp_box : Column → Column → Column
share_sp_box (a0, a1, a2) (b0, b1, b2) =
    let xa = rotated 24 a0 in
    let ya = rotated 9 a1 in
    let za = a2 in
    let xb = rotated 24 b0 in
    let yb = rotated 9 b1 in
    let zb = b2 in
    let x_and_y = bit_xor (bit_xor (bit_and xa ya) (bit_and xa yb)) (bit_and xb ya) in
    let x_or_z = bit_xor (bit_xor (bit_xor (bit_xor xa za) (bit_and xa za)) (bit_and xa zb)) (bit_and xb za) in
    let y_and_z = bit_xor (bit_xor (bit_and ya za) (bit_and ya zb)) (bit_and yb za) in
    (bit_xor (bit_xor za ya) (shifted 3 x_and_y), bit_xor (bit_xor ya xa) (shifted 1 x_or_z), bit_xor (bit_xor xa (shifted 1 za)) (shifted 2 y_and_z))

-- the same on each column
unfoldable pub share_columns : State → State → State
share_columns a b = from_columns (λ j. share_sp_box (column a j) (column b j))

-- each share by a function of its own
abbrev pub shares : (ℕ → State) → Sharing
shares f = f 0 ∷ f 1 ∷ f 2 ∷ []

-- the SP-box on each column of each share
unfoldable pub shared_columns : Sharing → Sharing
shared_columns s = shares (λ h. share_columns (share s ((h + 1) % 3)) (share s ((h + 2) % 3)))

-- the round constant goes to share 0
unfoldable pub shared_constant : ℕ → Sharing → Sharing
shared_constant r s = add_constant r (share s 0) ∷ share s 1 ∷ share s 2 ∷ []

-- the swaps are done in each share
unfoldable pub shared_small_swap : Sharing → Sharing
shared_small_swap s = shares (λ h. small_swap (share s h))

unfoldable pub shared_big_swap : Sharing → Sharing
shared_big_swap s = shares (λ h. big_swap (share s h))

-- round r
unfoldable pub shared_round : ℕ → Sharing → Sharing
shared_round r s =
    cond (r % 4 == 0) (shared_constant r (shared_small_swap (shared_columns s)))
    (cond (r % 4 == 2) (shared_big_swap (shared_columns s)) (shared_columns s))

-- the first n rounds, from 24 down
unfoldable pub first_shared_rounds : ℕ → Sharing → Sharing
first_shared_rounds zero s = s
first_shared_rounds (suc n) s = shared_round (24 - n) (first_shared_rounds n s)

unfoldable pub shared_permutation : Sharing → Sharing
shared_permutation s = first_shared_rounds 24 s
