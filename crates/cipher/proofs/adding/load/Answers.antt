use Rattle.std.proofs.Common.{◌≡◌, ℕ, suc, ◌+◌, List, [], ◌∷◌, ◌++◌, length, set, replicate, sym, refl, ap, ◌∙◌, subst, arith}
use lib.Bits.{bit_xor}
use Rattle.std.proofs.Math.Seq.{get_or-append_seam}
use Rattle.std.proofs.lemmas.List.{append-nil, append_assoc, length_push, set_at}
use Rattle.engine.specs.Strings.{zeros, Whole, xored, xored_from}
use Rattle.cipher.proofs.Messages.{boxes}
use Rattle.cipher.proofs.adding.load.Goals as goal

-- a byte loaded into a zero stands there
xored-zero : (front rest : List ℕ) (b : ℕ) → xored (front ++ 0 ∷ rest) (length front) b ≡ (front ++ b ∷ []) ++ rest
xored-zero front rest b =
    ap (λ (x : ℕ). set (front ++ 0 ∷ rest) (length front) (bit_xor x b)) (get_or-append_seam front 0 rest 0)
    ∙ set_at front 0 rest b (length front) refl
    ∙ sym (append_assoc front (b ∷ []) rest)

-- a string loaded into zeros stands there
xored_from-zeros : (front m : List ℕ) (n k : ℕ) → k ≡ length m + n → xored_from (front ++ replicate k 0) (length front) m ≡ (front ++ m) ++ replicate n 0
unfolding xored_from
xored_from-zeros front [] n k e =
    let same : k ≡ n = omega arith in
    ap (λ (j : ℕ). front ++ replicate j 0) same ∙ ap (λ (x : List ℕ). x ++ replicate n 0) (sym (append-nil front))
xored_from-zeros front (b ∷ m) n k e =
    let one : k ≡ suc (length m + n) = omega arith in
    let next : suc (length front) ≡ length (front ++ b ∷ []) = omega (arith, length_push front b) in
    let rest = replicate (length m + n) 0 in
    ap (λ (j : ℕ). xored_from (front ++ replicate j 0) (length front) (b ∷ m)) one
    ∙ ap (λ (s : List ℕ). xored_from s (suc (length front)) m) (xored-zero front rest b)
    ∙ ap (λ (place : ℕ). xored_from ((front ++ b ∷ []) ++ rest) place m) next
    ∙ xored_from-zeros (front ++ b ∷ []) m n (length m + n) refl
    ∙ ap (λ (x : List ℕ). x ++ replicate n 0) (append_assoc front (b ∷ []) m)

loaded : (nonce key : List ℕ) → length nonce ≡ 16 → length key ≡ 32 → xored_from (xored_from zeros 0 nonce) 16 key ≡ nonce ++ key
loaded nonce key h k =
    ap (λ (s : List ℕ). xored_from s 16 key) (xored_from-zeros [] nonce 32 48 (omega arith))
    ∙ ap (λ (place : ℕ). xored_from (nonce ++ replicate 32 0) place key) (sym h)
    ∙ xored_from-zeros nonce key 0 32 (omega arith)
    ∙ append-nil (nonce ++ key)

pub returns : goal.returns
returns g c =
    let e = g.E.Engine in
    let nonce = c.args.nonce.now in
    let key = c.bytes.result.now in
    let state : e.meaning c.xor_string-2.new.engine ≡ nonce ++ c.args.key.now.bytes =
    c.xor_string-2.ensures
    ∙ ap (λ (s : List ℕ). xored_from s 16 key) (c.xor_string.ensures ∙ ap (λ (s : List ℕ). xored_from s 0 nonce) c.requires)
    ∙ loaded nonce key (omega arith) (omega arith)
    ∙ ap (λ (s : List ℕ). nonce ++ s) c.bytes.ensures in
    record {
      state = state;
      boxes = boxes e.rule g.met.E.Engine.keeps _ nonce (g.met.E.Engine.keeps _ (subst Whole state (g.met.E.Engine.whole c.xor_string-2.new.engine)));
    }
