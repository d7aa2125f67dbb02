use Rattle.std.proofs.Common.{◌≡◌, ℕ, ◌/◌, ◌%◌, List, [], ◌∷◌, length, get_or, take, drop, sym, ap, ◌∙◌, subst, arith}
use Rattle.std.specs.Simd.{first_chunks}
use Rattle.std.proofs.lemmas.Bool.Decides.{nat_tests}
use Rattle.std.proofs.lemmas.List.{drop-drop}
use Rattle.engine.specs.Strings.{Bytes}
use Rattle.gimli.specs.Shares.{Sharing, WholeShares}
use Rattle.gimli.specs.Strings.{state}
use Rattle.c_interface.specs.Permuting.{sharing_string}
use Rattle.c_interface.proofs.Backward.{sharing_whole, sharing_back}
use Rattle.c_interface.proofs.permute.read_shares.Goals as goal

abbrev states : List (List ℕ) → Sharing
states parts = state (get_or parts 0 []) ∷ state (get_or parts 1 []) ∷ state (get_or parts 2 []) ∷ []

pub returns : goal.returns
returns c =
    let m = c.args.string.now in
    let count : length c.as_chunks.result.0.now ≡ length m / 48 = c.as_chunks.ensures.front_len in
    let left : length c.as_chunks.result.1.now ≡ length m % 48 = c.as_chunks.ensures.back_len in
    let long : length m ≡ 144 = grind (arith, nat_tests, count, left) in
    let three : length m / 48 ≡ 3 = omega (arith, long) in
    let each =
    (λ i. c.in_ok-from_bytes.ensures.1 i ∷ c.in_ok-from_bytes-2.ensures.1 i ∷ c.in_ok-from_bytes-3.ensures.1 i ∷ [])
    ∙ ap states (c.as_chunks.ensures.front ∙ ap (λ (k : ℕ). first_chunks 48 k m) three)
    ∙ ap (λ (third : List ℕ). state (take 48 m) ∷ state (take 48 (drop 48 m)) ∷ state (take 48 third) ∷ []) (drop-drop 48 48 m) in
    let small : Bytes m = λ i. omega (arith, c.type_inv.string i) in
    record {
      long = long;
      each = each;
      back = ap sharing_string each ∙ sharing_back m small long;
      whole = subst WholeShares (sym each) (sharing_whole m small);
    }
