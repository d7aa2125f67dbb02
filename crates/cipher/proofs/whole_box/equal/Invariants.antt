use Rattle.std.proofs.Common.{◌≡◌, length}
use Rattle.cipher.proofs.whole_box.equal.Given as goal

-- the tags are equal exactly when there is no difference so far, and what is left of them is equal
abbrev pub invariant-loop-x : goal.invariant-loop-x
invariant-loop-x l =
    let a = l.x-iterator.a.rest.now in
    let b = l.x-iterator.b.rest.now in
    (length a ≡ length b)
    × (l.differences ≡ 0 → a ≡ b → l.a ≡ l.b)
    × (l.a ≡ l.b → (l.differences ≡ 0) × (a ≡ b))
