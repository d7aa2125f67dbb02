use Rattle.std.proofs.Common.{◌≡◌, ℕ, List, [], ◌∷◌, ◌++◌, length, drop, sym, ap, ◌∙◌, arith}
use borrow.Rule.Slice.PartMut.{put_mid, post_of}
use Rattle.std.proofs.lemmas.List.{append-nil, take_at, drop_at}
use Rattle.cipher.specs.Nonces.{nonce_of}
use Rattle.cipher.proofs.Counts.{nonces_apart}
use Rattle.cipher.proofs.book.nonce_bytes.Goals as goal

joined : (x y : List ℕ) → length x ≡ 12 → put_mid 12 4 (x ++ 0 ∷ 0 ∷ 0 ∷ 0 ∷ []) y ≡ x ++ y
joined x y e =
    let z = 0 ∷ 0 ∷ 0 ∷ 0 ∷ [] in
    ap (λ (t : List ℕ). t ++ (y ++ post_of 12 4 (x ++ z))) (take_at x z 12 e)
    ∙ ap (λ (t : List ℕ). x ++ (y ++ drop 4 t)) (drop_at x z 12 e)
    ∙ ap (λ (t : List ℕ). x ++ t) (append-nil y)

pub returns : goal.returns
returns c =
    let x = c.copy_from_slice.new.self in
    let y = c.copy_from_slice-2.new.self in
    let name = c.args.name.now in
    let count = c.args.count in
    let is : put_mid 12 4 (x ++ 0 ∷ 0 ∷ 0 ∷ 0 ∷ []) y ≡ nonce_of name count =
    joined x y c.copy_from_slice.ensures.len
    ∙ ap (λ (t : List ℕ). t ++ y) c.copy_from_slice.ensures.after
    ∙ ap (λ (t : List ℕ). name ++ t) (c.copy_from_slice-2.ensures.after ∙ c.to_le_bytes.ensures) in
    record {
      bytes = is;
      sole = λ k h e. nonces_apart name k count (omega arith) (omega arith) (sym e ∙ is);
    }
