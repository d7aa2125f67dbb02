-- A record sealed in one go is its box.
use Rattle.std.proofs.Common.{◌≡◌, ℕ, List, [], ◌++◌, length, take, drop, sym, ap, ◌∙◌}
use Rattle.std.proofs.lemmas.List.{drop_at}
use Rattle.sponge.specs.Blocks.{absorbed, ciphertext, sealed_box}
use Rattle.sponge.specs.Calls.{Absorbs, Pads}
use Rattle.sponge.specs.Steps.{State, at, absorb_piece}
use Rattle.cipher.specs.Ciphering.{cipher_piece, Ciphers, Tags}
use Rattle.cipher.proofs.Ciphertexts.{length_cipher_piece, ciphertext_none}

module _ (rule : List ℕ → List ℕ) where
  -- a sealing started, its associated data added in one piece, and closed
  pub closed_state : (key nonce ad : List ℕ) (p q r : State) → p ≡ at (rule (nonce ++ key)) 0 → Absorbs rule p ad q → Pads rule q r → r ≡ at (absorbed rule (rule (nonce ++ key)) ad) 0
  closed_state key nonce ad p q r e a d = d.whole (rule (nonce ++ key)) ad (a.bytewise ∙ ap (λ (o : State). absorb_piece rule o ad) e)

  -- the tag of an empty message is its box
  pub empty_box : (key nonce ad tag : List ℕ) (p : State) → p ≡ at (absorbed rule (rule (nonce ++ key)) ad) 0 → Tags rule p tag → tag ≡ sealed_box rule key nonce ad []
  unfolding sealed_box
  empty_box key nonce ad tag p e t =
      let s = absorbed rule (rule (nonce ++ key)) ad in
      ap (λ (x : List ℕ). x ++ tag) (sym (ciphertext_none rule s)) ∙ t.box s [] e

  -- a message's ciphertext and tag are its box
  pub message_box : (key nonce ad m before after tag : List ℕ) (r o : State) → r ≡ at (absorbed rule (rule (nonce ++ key)) ad) 0 → Ciphers rule r m before after o → Tags rule o tag → take (length m) after ++ tag ≡ sealed_box rule key nonce ad m
  unfolding sealed_box
  message_box key nonce ad m before after tag r o e c t =
      let s = absorbed rule (rule (nonce ++ key)) ad in
      let text : take (length m) after ≡ ciphertext rule s m =
      sym (c.whole s [] e ∙ ap (λ (x : List ℕ). x ++ take (length m) after) (ciphertext_none rule s)) in
      ap (λ (x : List ℕ). x ++ tag) text ∙ t.box s m (c.state.piecewise (at s 0) [] e)

  pub rest_stays : (m before after : List ℕ) (r o : State) → Ciphers rule r m before after o → drop (length m) after ≡ drop (length m) before
  rest_stays m before after r o c = ap (drop (length m)) c.buffer ∙ drop_at (cipher_piece rule r m) _ (length m) (length_cipher_piece rule r m)
