-- What one call makes of a stage, by the call.
use Rattle.std.proofs.Common.{◌≡◌, ℕ, ◌+◌, ◌-◌, ◌≤◌, ◌⊎◌, List, [], ◌++◌, length, take, drop, replicate, Ok, Err, Result, sym, refl, ap, ◌∙◌, subst, inl, inr, append-nil, arith}
use Rattle.std.proofs.lemmas.List.{drop_at}
use Rattle.engine.specs.Refusals.{number}
use Rattle.engine.specs.declared.refusal.Refusal.{Refusal}
use Rattle.sponge.specs.Blocks.{absorbed, ciphertext, cipher_full, boxed, sealed_box}
use Rattle.sponge.specs.Calls.{Pads}
use Rattle.sponge.specs.Steps.{State, at, standing, absorbing}
use Rattle.cipher.proofs.Ciphertexts.{length_cipher_piece}
use Rattle.cipher.specs.Ciphering.{cipher_piece, Tags}
use Rattle.cipher.specs.Openings.{Opens, TooShort, NoRoom, NoMessage}
use Rattle.cipher.specs.Sealings.{Wrote}
use Rattle.cipher.specs.declared.closed.Closed.{Closed}
use Rattle.cipher.specs.declared.uses.ToSeal.{ToSeal}
use Rattle.runs.proofs.Lawful.{grown-nothing}
use Rattle.runs.specs.History.{done, refused, closed, written, opened, finished}
use Rattle.runs.specs.Laws.{Refuses}
use Rattle.runs.specs.Scripts.{a_length, a_refusal, kind, answer_in, reply_to}
use Rattle.runs.specs.Stages.{keyed, loaded, Adds, Writes}
use Rattle.runs.specs.Traces.{Model, next, Sound}

module _ {E : Type 0} (meaning : E → List ℕ) (rule : List ℕ → List ℕ) where
  -- ---- sealings

  close_holds : (M : Model) (p q : State) → Adds meaning rule M p → Pads rule p q → Writes meaning rule M q
  unfolding ciphertext cipher_full
  close_holds M p q a closes = record {
    state = closes.whole (loaded meaning rule M) M.so_far.addition a.state ∙ ap (absorbing rule (keyed meaning rule M)) (sym a.no_piece);
    cipher = a.no_cipher ∙ ap (ciphertext rule (keyed meaning rule M)) (sym a.no_piece);
  }

  pub after_close : (M : Model) (p q : State) → Adds meaning rule M p → Pads rule p q → Writes meaning rule (next M closed) q
  after_close M p q a closes = subst (λ (N : Model). Writes meaning rule N q) (sym (grown-nothing M)) (close_holds M p q a closes)

  -- a write, done or refused
  pub after_write : (M : Model) (s t : Closed E ToSeal) (piece before after : List ℕ) (r : Result ℕ Refusal) → Writes meaning rule M (standing meaning s.sponge) → Wrote meaning rule s piece before t r after → Writes meaning rule (next M (written piece before after (answer_in (reply_to r)))) (standing meaning t.sponge)
  after_write M s t piece before after (Ok n) w wrote =
      let ciphers = wrote.2 in
      let same : absorbed rule (loaded meaning rule M) (M.so_far.addition ++ []) ≡ keyed meaning rule M = ap (absorbed rule (loaded meaning rule M)) (append-nil M.so_far.addition) in
      record {
        state = rw same (ciphers.state.piecewise (at (keyed meaning rule M) 0) M.so_far.piece w.state);
        cipher = rw same (ap (λ (x : List ℕ). x ++ take (length piece) after) w.cipher ∙ sym (ciphers.whole (keyed meaning rule M) M.so_far.piece w.state));
      }
  after_write M s t piece before after (Err e) w wrote =
      subst (λ (N : Model). Writes meaning rule N (standing meaning t.sponge)) (sym (grown-nothing M))
      (subst (λ (c : Closed E ToSeal). Writes meaning rule M (standing meaning c.sponge)) (sym wrote.3) w)

  pub at_write : (M : Model) (s t : Closed E ToSeal) (piece before after : List ℕ) (r : Result ℕ Refusal) → Wrote meaning rule s piece before t r after → Sound rule M (written piece before after (answer_in (reply_to r)))
  at_write M s t piece before after (Ok n) wrote =
      let p = standing meaning s.sponge in
      (wrote.0, wrote.1, ap (drop (length piece)) wrote.2.buffer ∙ drop_at (cipher_piece rule p piece) (drop (length piece) before) (length piece) (length_cipher_piece rule p piece))
  at_write M s t piece before after (Err e) wrote = (wrote.1, wrote.0, wrote.2)

  pub at_finish : (M : Model) (p : State) (tag : List ℕ) → Writes meaning rule M p → Tags rule p tag → Sound rule M (finished tag)
  unfolding sealed_box
  at_finish M p tag w tags = ap (λ (c : List ℕ). c ++ tag) w.cipher ∙ tags.box (keyed meaning rule M) M.so_far.piece w.state

  -- ---- openings

  answered_ok : (M : Model) (box before after : List ℕ) (n : ℕ) → Opens rule (keyed meaning rule M) box before after (Ok n) → Sound rule M (opened box before after (done n))
  unfolding sealed_box
  answered_ok M box before after n o =
      let m = o.answer.0 in
      let returned = o.answer.1 in
      record {
        returns = λ c e. (m, (ap done returned.answer, returned.buffer), returned.box);
        refuses = λ c e. let z : ◌≡◌ {A = ℕ} 0 1 = cc in absurd (omega arith);
        sole = o.sole;
        tells = o.long m returned.box ∙ ap (λ (k : ℕ). k + 16) (sym returned.answer);
        zeroed = λ e. let z : ◌≡◌ {A = ℕ} 0 1 = cc in absurd (omega arith);
      }

  answered_err : (M : Model) (box before after : List ℕ) (e : Refusal) → Opens rule (keyed meaning rule M) box before after (Err e) → Sound rule M (opened box before after (refused (number e)))
  unfolding sealed_box
  answered_err M box before after e o = record {
    returns = λ c same. let z : ◌≡◌ {A = ℕ} 0 1 = cc in absurd (omega arith);
    refuses = λ c same room m boxed. no_message o.answer room m boxed;
    sole = o.sole;
    tells = told o.answer;
    zeroed = λ same. let nine : number e ≡ 9 = cc in zeros_left o.answer nine;
  }
    where
      told : TooShort rule (keyed meaning rule M) box before after e ⊎ (NoRoom rule (keyed meaning rule M) box before after e ⊎ NoMessage rule (keyed meaning rule M) box before after e) → Refuses box before after (refused (number e))
      told (inl short) = inl (short.number_is, short.short, short.buffer)
      told (inr (inl small)) = inr (inl (small.number_is, small.long, small.short, small.buffer))
      told (inr (inr none)) = inr (inr (none.number_is, none.long, none.room, none.buffer))

      no_message : TooShort rule (keyed meaning rule M) box before after e ⊎ (NoRoom rule (keyed meaning rule M) box before after e ⊎ NoMessage rule (keyed meaning rule M) box before after e) → length box ≤ length before + 16 → (m : List ℕ) → box ≡ boxed rule (keyed meaning rule M) m → ⊥
      no_message (inl short) room m same = omega (arith, short.short, o.long m same)
      no_message (inr (inl small)) room m same = omega (arith, small.short, small.long)
      no_message (inr (inr none)) room m same = none.none m same

      zeros_left : TooShort rule (keyed meaning rule M) box before after e ⊎ (NoRoom rule (keyed meaning rule M) box before after e ⊎ NoMessage rule (keyed meaning rule M) box before after e) → number e ≡ 9 → after ≡ replicate (length box - 16) 0 ++ drop (length box - 16) before
      zeros_left (inl short) nine = absurd (omega (arith, short.number_is))
      zeros_left (inr (inl small)) nine = absurd (omega (arith, small.number_is))
      zeros_left (inr (inr none)) nine = none.buffer

  pub at_open : (M : Model) (box before after : List ℕ) (r : Result ℕ Refusal) → Opens rule (keyed meaning rule M) box before after r → Sound rule M (opened box before after (answer_in (reply_to r)))
  at_open M box before after (Ok n) o = answered_ok M box before after n o
  at_open M box before after (Err e) o = answered_err M box before after e o

-- a length or a refusal
pub length_or_refusal : (r : Result ℕ Refusal) → (kind (reply_to r) ≡ a_length) ⊎ (kind (reply_to r) ≡ a_refusal)
length_or_refusal (Ok n) = inl refl
length_or_refusal (Err e) = inr refl
