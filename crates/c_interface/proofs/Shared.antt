-- The string that three shares have in common, and what the permutation of each share does to it.
use Rattle.std.proofs.Common.{◌≡◌, ℕ, List, ◌++◌, length, take, drop, sym, ap, ◌∙◌, arith}
use Rattle.std.proofs.lemmas.List.{append_assoc, length-append, take_at, drop_at, take_all}
use Rattle.gimli.specs.Permutation.{permutation}
use Rattle.gimli.specs.Shares.{Sharing, share, joined, xor_states, WholeShares}
use Rattle.gimli.specs.Strings.{gimli, string}
use Rattle.gimli.specs.declared.state.State.{State}
use Rattle.gimli.proofs.SharedStrings.{joined_whole}
use Rattle.gimli.specs.StringsLemmas.{string_long, byte_of_xor, permuted_string}
use Rattle.c_interface.specs.Permuting.{xor_strings, sharing_string, shared_string}

xor_string : (a b : State) → xor_strings (string a) (string b) ≡ string (xor_states a b)
unfolding string xor_states
xor_string a b = sym (simp byte_of_xor)

-- three strings of 48 bytes in one
module _ (x y z : List ℕ) (long_x : length x ≡ 48) (long_y : length y ≡ 48) (long_z : length z ≡ 48) where
  shared_thirds : shared_string (x ++ (y ++ z)) ≡ xor_strings (xor_strings x y) z
  shared_thirds =
      let first : take 48 (drop 48 (x ++ (y ++ z))) ≡ y = ap (take 48) (drop_at x (y ++ z) 48 long_x) ∙ take_at y z 48 long_y in
      let both : length (x ++ y) ≡ 96 = omega (arith, length-append x y) in
      let second : take 48 (drop 96 (x ++ (y ++ z))) ≡ z =
      ap (λ (t : List ℕ). take 48 (drop 96 t)) (sym (append_assoc x y z)) ∙ ap (take 48) (drop_at (x ++ y) z 96 both) ∙ take_all 48 z (omega arith) in
      ap (λ (t : List ℕ). xor_strings (xor_strings t (take 48 (drop 48 (x ++ (y ++ z))))) (take 48 (drop 96 (x ++ (y ++ z))))) (take_at x (y ++ z) 48 long_x)
      ∙ ap (λ (t : List ℕ). xor_strings (xor_strings x t) (take 48 (drop 96 (x ++ (y ++ z))))) first
      ∙ ap (λ (t : List ℕ). xor_strings (xor_strings x y) t) second

-- the string that shares have in common is that of the state that they share
pub shared_joined : (s : Sharing) → shared_string (sharing_string s) ≡ string (joined s)
shared_joined s =
    shared_thirds (string (share s 0)) (string (share s 1)) (string (share s 2)) (string_long (share s 0)) (string_long (share s 1)) (string_long (share s 2))
    ∙ ap (λ (t : List ℕ). xor_strings t (string (share s 2))) (xor_string (share s 0) (share s 1))
    ∙ xor_string (xor_states (share s 0) (share s 1)) (share s 2)

pub shared_permuted : (before after : List ℕ) (s t : Sharing) → WholeShares s → sharing_string s ≡ before → after ≡ sharing_string t → joined t ≡ permutation (joined s) → shared_string after ≡ gimli (shared_string before)
shared_permuted before after s t whole from to e =
    ap shared_string to
    ∙ shared_joined t
    ∙ permuted_string (joined s) (joined t) (joined_whole s whole) e
    ∙ ap gimli (sym (shared_joined s) ∙ ap shared_string from)
