-- A sponge over the Gimli rule absorbs, enciphers and squeezes as the published modes do.
use Rattle.std.proofs.Common.{◌≡◌, ℕ, zero, suc, ◌+◌, ◌-◌, ◌*◌, ◌/◌, ◌<◌, ◌≤◌, List, [], ◌∷◌, ◌++◌, length, take, drop, replicate, sym, refl, ap, ◌∙◌, subst, ap₂, arith}
use lib.Seq.{take-append-add}
use Rattle.std.proofs.lemmas.List.{append_assoc, length-append, length-drop, length-replicate, length-take-le, take-take, drop-drop}
use Rattle.engine.specs.Strings.{Bytes, zeros, xored}
use Rattle.gimli.specs.Permutation.{Whole, permutation}
use Rattle.gimli.specs.Strings.{string, gimli}
use Rattle.gimli.specs.declared.state.State.{State}
use Rattle.sponge.proofs.Absorbing.{mixed_push}
use Rattle.sponge.specs.Blocks.{mixed, after_full, after_last, absorbed, cipher_full, ciphertext, boxed, sealed_box, squeezed, hash, output}
use Rattle.gimli_modes.specs.Published.{zero_state, loaded, cut, pad, with_block, marked, absorb, absorb_all, squeeze, squeeze_all, encipher, published_hash, published_output, published_box}
use Rattle.gimli_modes.proofs.Fits.{permutation_whole}
use Rattle.gimli_modes.proofs.Matrices.{bytes_take, bytes_drop, bytes_ended, mixed-zeros, mixed_front, block_mixed, block_whole, mark_xored, mark_whole, rule_permutes, first_bytes, zeros_string, zero_whole, loaded-string, loaded_whole}

-- the string w is that of the state s
record Stands (w : List ℕ) (s : State) : Type 0 where
  is : w ≡ string s
  whole : Whole s

permuted : (w : List ℕ) (s : State) → Stands w s → Stands (gimli w) (permutation s)
permuted w s h = record { is = ap gimli h.is ∙ rule_permutes s h.whole; whole = permutation_whole s h.whole }

with_mixed : (w : List ℕ) (s : State) (b : List ℕ) → Stands w s → Bytes b → length b ≡ 16 → Stands (mixed w b) (with_block s b)
with_mixed w s b h bytes long = record {
  is = ap (λ (x : List ℕ). mixed x b) h.is ∙ block_mixed s b bytes long;
  whole = block_whole s b bytes h.whole;
}

with_mark : (w : List ℕ) (s : State) → Stands w s → Stands (xored w 47 1) (marked s)
with_mark w s h = record { is = ap (λ (x : List ℕ). xored x 47 1) h.is ∙ mark_xored s h.whole; whole = mark_whole s h.whole }

-- a last block as it is padded
abbrev ended : List ℕ → List ℕ
ended m = m ++ 1 ∷ replicate (15 - length m) 0

ended_long : (m : List ℕ) → length m < 16 → length (ended m) ≡ 16
ended_long m h =
    let a = length-append m (1 ∷ replicate (15 - length m) 0) in
    omega (arith, length-replicate {A = ℕ} (15 - length m) 0)

-- the bytes of a last block and the 1 behind them are the padded block
mixed-ended : (w m : List ℕ) → xored (mixed w m) (length m) 1 ≡ mixed w (ended m)
mixed-ended w m =
    sym (mixed_push w m 1) ∙ sym (mixed-zeros w (m ++ 1 ∷ []) (15 - length m))
    ∙ ap (mixed w) (append_assoc m (1 ∷ []) (replicate (15 - length m) 0))

-- ---- strings absorbed

not_last : (n : ℕ) (s : State) (b m : List ℕ) → absorb_all s (b ∷ cut n m) ≡ absorb_all (absorb s b) (cut n m)
unfolding absorb_all
not_last zero s b m = refl
not_last (suc n) s b m = refl

last_absorbed : (w : List ℕ) (s : State) (m : List ℕ) → Stands w s → Bytes m → length m < 16 → Stands (after_last gimli w m) (absorb_all s (cut 0 m))
unfolding absorb_all absorb
last_absorbed w s m h bytes short =
    let b = ended m in
    let in_it = with_mixed w s b h (bytes_ended m (15 - length m) bytes) (ended_long m short) in
    let P : List ℕ → Type 0 = λ x. Stands (gimli (xored x 47 1)) (permutation (marked (with_block s b))) in
    subst P (sym (mixed-ended w m)) (permuted _ _ (with_mark _ _ in_it))

full_absorbed : (w : List ℕ) (s : State) (m : List ℕ) → Stands w s → Bytes m → 16 ≤ length m → Stands (gimli (mixed w (take 16 m))) (absorb s (take 16 m))
unfolding absorb
full_absorbed w s m h bytes long = permuted _ _ (with_mixed w s (take 16 m) h (bytes_take 16 m bytes) (length-take-le 16 m long))

-- what is behind one full block and n more
rest_of : (n : ℕ) (m : List ℕ) → drop (16 * n) (drop 16 m) ≡ drop (16 * suc n) m
rest_of n m = drop-drop (16 * n) 16 m ∙ ap (λ (k : ℕ). drop k m) (omega arith)

cut_absorbed : (n : ℕ) (w : List ℕ) (s : State) (m : List ℕ) → Stands w s → Bytes m → 16 * n ≤ length m → length m < 16 * n + 16 → Stands (after_last gimli (after_full gimli n w m) (drop (16 * n) m)) (absorb_all s (cut n m))
unfolding after_full
cut_absorbed zero w s m h bytes lo hi = last_absorbed w s m h bytes (omega arith)
cut_absorbed (suc n) w s m h bytes lo hi =
    let m' = drop 16 m in
    let w' = gimli (mixed w (take 16 m)) in
    let long = length-drop 16 m in
    let next = cut_absorbed n w' (absorb s (take 16 m)) m' (full_absorbed w s m h bytes (omega arith)) (bytes_drop 16 m bytes) (omega arith) (omega arith) in
    let P : List ℕ → Type 0 = λ x. Stands (after_last gimli (after_full gimli n w' m') x) (absorb_all s (cut (suc n) m)) in
    let Q : State → Type 0 = λ x. Stands (after_last gimli (after_full gimli n w' m') (drop (16 * n) m')) x in
    subst P (rest_of n m) (subst Q (sym (not_last n s (take 16 m) m')) next)

string_absorbed : (w : List ℕ) (s : State) (m : List ℕ) → Stands w s → Bytes m → Stands (absorbed gimli w m) (absorb_all s (pad m))
unfolding absorbed
string_absorbed w s m h bytes = cut_absorbed (length m / 16) w s m h bytes (omega arith) (omega arith)

-- ---- bytes squeezed

front_bytes : (w : List ℕ) (s : State) → Stands w s → take 16 w ≡ squeeze s
front_bytes w s h = ap (take 16) h.is ∙ first_bytes s

blocks_squeezed : (n : ℕ) (w : List ℕ) (s : State) → Stands w s → squeezed gimli n w ≡ squeeze_all n s
unfolding squeezed squeeze_all
blocks_squeezed zero w s h = refl
blocks_squeezed (suc n) w s h = ap₂ (λ (x y : List ℕ). x ++ y) (front_bytes w s h) (blocks_squeezed n (gimli w) (permutation s) (permuted w s h))

zeros_stand : Stands zeros zero_state
zeros_stand = record { is = zeros_string; whole = zero_whole }

pub output_published : (m : List ℕ) (n : ℕ) → Bytes m → output gimli m n ≡ published_output m n
output_published m n bytes = ap (take n) (blocks_squeezed (n / 16 + 1) _ _ (string_absorbed zeros zero_state m zeros_stand bytes))

-- two blocks of three
two_blocks : (s : State) → take 32 (squeeze_all 3 s) ≡ squeeze s ++ squeeze (permutation s)
unfolding squeeze_all squeeze
two_blocks s = refl

pub hash_published : (m : List ℕ) → Bytes m → hash gimli m ≡ published_hash m
hash_published m bytes = output_published m 32 bytes ∙ two_blocks (absorb_all zero_state (pad m))

-- ---- messages enciphered

not_last_enciphered : (n : ℕ) (s : State) (b m : List ℕ) → encipher s (b ∷ cut n m) ≡ squeeze (with_block s b) ++ encipher (absorb s b) (cut n m)
unfolding encipher
not_last_enciphered zero s b m = refl
not_last_enciphered (suc n) s b m = refl

last_enciphered : (w : List ℕ) (s : State) (m : List ℕ) → Stands w s → Bytes m → length m < 16 → take (length m) (mixed w m) ≡ take (length m) (encipher s (cut 0 m))
unfolding encipher
last_enciphered w s m h bytes short =
    let in_it = with_mixed w s (ended m) h (bytes_ended m (15 - length m) bytes) (ended_long m short) in
    sym (mixed_front w m (1 ∷ replicate (15 - length m) 0))
    ∙ sym (take-take (length m) 16 (mixed w (ended m)) (omega arith))
    ∙ ap (take (length m)) (front_bytes _ _ in_it)

squeeze_long : (s : State) → length (squeeze s) ≡ 16
unfolding squeeze
squeeze_long s = refl

-- the first bytes of a block and what is behind it
take_behind : (a r : List ℕ) (k n : ℕ) → length a ≡ 16 → n ≡ 16 + k → take n (a ++ r) ≡ a ++ take k r
take_behind a r k n long e = ap (λ (i : ℕ). take i (a ++ r)) (omega arith) ∙ take-append-add a r k

cut_enciphered : (n : ℕ) (w : List ℕ) (s : State) (m : List ℕ) → Stands w s → Bytes m → 16 * n ≤ length m → length m < 16 * n + 16 → cipher_full gimli n w m ++ take (length (drop (16 * n) m)) (mixed (after_full gimli n w m) (drop (16 * n) m)) ≡ take (length m) (encipher s (cut n m))
unfolding after_full cipher_full
cut_enciphered zero w s m h bytes lo hi = last_enciphered w s m h bytes (omega arith)
cut_enciphered (suc n) w s m h bytes lo hi =
    let m' = drop 16 m in
    let b = take 16 m in
    let w' = gimli (mixed w b) in
    let s' = absorb s b in
    let long = length-drop 16 m in
    let in_it = with_mixed w s b h (bytes_take 16 m bytes) (length-take-le 16 m (omega arith)) in
    let next = cut_enciphered n w' s' m' (full_absorbed w s m h bytes (omega arith)) (bytes_drop 16 m bytes) (omega arith) (omega arith) in
    append_assoc (take 16 (mixed w b)) (cipher_full gimli n w' m') _
    ∙ ap (λ (x : List ℕ). take 16 (mixed w b) ++ (cipher_full gimli n w' m' ++ take (length x) (mixed (after_full gimli n w' m') x))) (sym (rest_of n m))
    ∙ ap₂ (λ (x y : List ℕ). x ++ y) (front_bytes _ _ in_it) next
    ∙ sym (take_behind (squeeze (with_block s b)) (encipher s' (cut n m')) (length m') (length m) (squeeze_long (with_block s b)) (omega arith))
    ∙ ap (take (length m)) (sym (not_last_enciphered n s b m'))

message_enciphered : (w : List ℕ) (s : State) (m : List ℕ) → Stands w s → Bytes m → ciphertext gimli w m ≡ take (length m) (encipher s (pad m))
unfolding ciphertext
message_enciphered w s m h bytes = cut_enciphered (length m / 16) w s m h bytes (omega arith) (omega arith)

pub box_published : (key nonce ad m : List ℕ) → length key ≡ 32 → length nonce ≡ 16 → Bytes key → Bytes nonce → Bytes ad → Bytes m → sealed_box gimli key nonce ad m ≡ published_box key nonce ad m
unfolding sealed_box boxed
box_published key nonce ad m _ long bk bn ba bm =
    let start : Stands (gimli (nonce ++ key)) (permutation (loaded key nonce)) =
    record { is = loaded-string key nonce long; whole = permutation_whole _ (loaded_whole key nonce bk bn) } in
    let added = string_absorbed _ _ ad start ba in
    ap₂ (λ (x y : List ℕ). x ++ y) (message_enciphered _ _ m added bm) (front_bytes _ _ (string_absorbed _ _ m added bm))
