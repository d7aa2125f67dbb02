-- The tag of a message, byte by byte and by blocks.
use Rattle.std.proofs.Common.{◌≡◌, ℕ, List, ◌++◌, length, take, refl, ap, ◌∙◌, arith}
use Rattle.std.proofs.lemmas.List.{length-take-le, take_at}
use Rattle.engine.specs.Strings.{Whole}
use Rattle.sponge.specs.Blocks.{rate, absorbed, ciphertext, boxed, squeezed, stream}
use Rattle.sponge.specs.Steps.{State, padded, absorbing}
use Rattle.sponge.proofs.Absorbing.{pads}
use Rattle.cipher.specs.Ciphering.{Tags}

module _ (rule : List ℕ → List ℕ) where
  -- the first bytes that a state gives are its own
  pub first_block : (s out : List ℕ) → Whole s → length out ≡ rate → out ≡ stream rule s (length out) → out ≡ take rate s
  unfolding squeezed
  first_block s out w e h =
      let long = w.long in
      h
      ∙ ap (stream rule s) e
      ∙ take_at (take rate s) _ rate (length-take-le rate s (omega arith))

  pub padded_absorbed : (s m : List ℕ) (p : State) → p ≡ absorbing rule s m → (padded rule p).string ≡ absorbed rule s m
  padded_absorbed s m p h = ap (λ (q : State). q.string) ((pads rule p (padded rule p) refl).whole s m h)

  pub tags : (p : State) (tag : List ℕ) → tag ≡ take rate (padded rule p).string → Tags rule p tag
  unfolding boxed
  tags p tag e =
      let whole : (s m : List ℕ) → p ≡ absorbing rule s m → tag ≡ take rate (absorbed rule s m) =
      λ s m h. e ∙ ap (take rate) (padded_absorbed s m p h) in
      record {
        bytewise = e;
        whole = whole;
        box = λ s m h. ap (λ (t : List ℕ). ciphertext rule s m ++ t) (whole s m h);
      }
