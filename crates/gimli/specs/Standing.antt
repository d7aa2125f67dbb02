-- A state whose top row is never moved: a number k says where its words stand.
use Rattle.std.specs.Prelude.{ℕ, zero, suc, ◌-◌, ◌%◌, cond, ◌==◌, bit_xor, slice_index}
use Rattle.gimli.specs.Permutation.{row}
use Rattle.gimli.specs.declared.standing.Standing.{Standing}
use Rattle.gimli.specs.declared.state.State.{State}

-- the state that is meant: top word j stands at place j xor k
unfoldable pub meant : Standing → State
meant s = record { top = row (λ j. slice_index s.stored.top (bit_xor j s.k)); middle = s.stored.middle; bottom = s.stored.bottom }

-- k after round r: the small swap makes it k xor 1, the big swap k xor 2
abbrev pub next_k : ℕ → ℕ → ℕ
next_k r k = cond (r % 4 == 0) (bit_xor k 1) (cond (r % 4 == 2) (bit_xor k 2) k)

-- k after the first n rounds, from 24 down
abbrev pub k_after : ℕ → ℕ
k_after zero = 0
k_after (suc n) = next_k (24 - n) (k_after n)
