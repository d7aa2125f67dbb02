-- What a box answers, from what an opening under its key and nonce answers.
use Rattle.std.proofs.Common.{◌≡◌, ℕ, List, ◌++◌, length, Ok, Err, Result, sym, refl, ◌∙◌, subst, inl, inr, arith}
use Rattle.std.proofs.lemmas.Bool.Decides.{nat_tests}
use Rattle.engine.specs.Refusals.{number}
use Rattle.engine.specs.declared.refusal.Refusal.{Refusal}
use Rattle.gimli.specs.Strings.{gimli}
use Rattle.sponge.specs.Blocks.{absorbed, sealed_box}
use Rattle.cipher.specs.Openings.{Opens}
use Rattle.c_interface.specs.Faults.{done, answer_of}
use Rattle.c_interface.specs.Opening.{open_fault, OpenAnswered}

module _ (key nonce ad sealed before after : List ℕ) (key_fits : length key ≡ 32) (nonce-fits : length nonce ≡ 16) where
  opened_ok : (n : ℕ) → Opens gimli (absorbed gimli (gimli (nonce ++ key)) ad) sealed before after (Ok n) → OpenAnswered key nonce ad sealed before after done
  unfolding sealed_box
  opened_ok n o =
      let m = o.answer.0 in
      let r = o.answer.1 in
      let long = o.long m r.box in
      let none : open_fault key nonce ad sealed before after ≡ done = let h = r.room in grind (arith, nat_tests) in
      record {
        looked = λ _. inl (
          refl,
          (
            m,
            record {
              box = r.box;
              sole = λ m' e. o.sole m' m e r.box;
              long = omega arith;
              buffer = r.buffer;
            },
          ),
        );
        refused = λ f. absurd (f none);
      }

  opened_err : (e : Refusal) → Opens gimli (absorbed gimli (gimli (nonce ++ key)) ad) sealed before after (Err e) → OpenAnswered key nonce ad sealed before after (number e)
  unfolding sealed_box
  opened_err e o =
      elim o.answer [
        | inl r ↦
            let fault : open_fault key nonce ad sealed before after ≡ 8 = let h = r.short in grind (arith, nat_tests) in
            record {
              looked = λ z. absurd (omega (arith, z, fault));
              refused = λ _. (r.number_is ∙ sym fault, r.buffer);
            }
        | inr (inl r) ↦
            let fault : open_fault key nonce ad sealed before after ≡ 7 = let h = r.short in let l = r.long in grind (arith, nat_tests) in
            record {
              looked = λ z. absurd (omega (arith, z, fault));
              refused = λ _. (r.number_is ∙ sym fault, r.buffer);
            }
        | inr (inr r) ↦
            let none : open_fault key nonce ad sealed before after ≡ done = let h = r.room in let l = r.long in grind (arith, nat_tests) in
            record {
              looked = λ _. inr (r.number_is, record { none = r.none; buffer = r.buffer });
              refused = λ f. absurd (f none);
            }
      ]

  opened : (r : Result ℕ Refusal) → Opens gimli (absorbed gimli (gimli (nonce ++ key)) ad) sealed before after r → OpenAnswered key nonce ad sealed before after (answer_of r)
  opened (Ok n) o = opened_ok n o
  opened (Err e) o = opened_err e o

  -- under a key and a nonce that were made of the two strings
  pub opened_under : (k n : List ℕ) (r : Result ℕ Refusal) → k ≡ key → n ≡ nonce → Opens gimli (absorbed gimli (gimli (n ++ k)) ad) sealed before after r → OpenAnswered key nonce ad sealed before after (answer_of r)
  opened_under k n r ek en o =
      let at : List ℕ → List ℕ → Type 0 = λ x y. Opens gimli (absorbed gimli (gimli (x ++ y)) ad) sealed before after r in
      opened r (subst (λ (x : List ℕ). at x key) en (subst (λ (y : List ℕ). at n y) ek o))
