-- An input read into a buffer, one read after another: what is known to come begins with what stands there.
use Rattle.std.proofs.Common.{◌≡◌, ℕ, ◌+◌, ◌≤◌, List, ◌++◌, length, take, drop, Some, None, Option, sym, ap, ◌∙◌, arith, take-add}
use Rattle.std.specs.Prelude.{IfSome}
use Rattle.std.specs.Io.KnownBytes.{Consumes, IsAtEnd}
use Rattle.std.proofs.KnownBytes.{Consumes-trans}
use Rattle.std.proofs.lemmas.List.{append-nil, length-append, length-take-le, take_all, take_at, take-append-le, drop_at}
use borrow.Rule.Slice.PartMut.{put_mid}

-- n bytes more, read behind the first f
pub filled_on : (xs ys : List ℕ) (f k n : ℕ) → f ≤ length xs → n ≤ length ys → take (f + n) (put_mid f k xs ys) ≡ take f xs ++ take n ys
filled_on xs ys f k n within few =
    let rest = ys ++ drop k (drop f xs) in
    let long = length-take-le f xs within in
    take-add f n (take f xs ++ rest)
    ∙ ap (λ (l : List ℕ). l ++ take n (drop f (take f xs ++ rest))) (take_at (take f xs) rest f long)
    ∙ ap (λ (l : List ℕ). take f xs ++ take n l) (drop_at (take f xs) rest f long)
    ∙ ap (λ (l : List ℕ). take f xs ++ l) (take-append-le n ys (drop k (drop f xs)) few)

-- a buffer's length of bytes
pub full : (a b : Option (List ℕ)) (bytes : List ℕ) (n : ℕ) → Consumes a b bytes → length bytes ≡ n → IfSome a (λ all. bytes ≡ take n all)
full None b bytes n read long = tt
full (Some all) None bytes n read long = absurd read
full (Some all) (Some rest) bytes n read long = sym (ap (take n) read ∙ take_at bytes rest n long)

-- all bytes, and no more than a buffer's length
pub ended : (a b : Option (List ℕ)) (bytes : List ℕ) (n : ℕ) → Consumes a b bytes → IsAtEnd b → length bytes ≤ n → IfSome a (λ all. bytes ≡ take n all)
ended None b bytes n read end few = tt
ended (Some all) None bytes n read end few = absurd read
ended (Some all) (Some rest) bytes n read end few = sym (ap (take n) (read ∙ ap (λ (l : List ℕ). bytes ++ l) end ∙ append-nil bytes) ∙ take_all n bytes few)

-- a read that gives none, behind the first f bytes
pub ended_at : (a b c : Option (List ℕ)) (xs ys : List ℕ) (f k n m : ℕ) → f ≤ length xs → n ≤ length ys → n ≡ 0 → f ≤ m → Consumes a b (take f xs) → Consumes b c (take n ys) → IsAtEnd c
    → IfSome a (λ all. take f (put_mid f k xs ys) ≡ take m all)
ended_at a b c xs ys f k n m within few none room read got end =
    let same : f ≡ f + n = omega arith in
    let here : take f (put_mid f k xs ys) ≡ take f xs ++ take n ys =
    ap (λ (j : ℕ). take j (put_mid f k xs ys)) same ∙ filled_on xs ys f k n within few in
    rw here
    (ended a c (take f xs ++ take n ys) m (Consumes-trans a b c (take f xs) (take n ys) read got) end
    (omega (arith, length-append (take f xs) (take n ys), length-take-le f xs within, length-take-le n ys few)))
