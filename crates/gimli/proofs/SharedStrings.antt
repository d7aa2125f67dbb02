-- The string of a sharing: its bytes are the xors of the shares' bytes; a byte xored into share 0 is xored into it.
use Rattle.std.proofs.Common.{◌≡◌, ℕ, zero, suc, ◌*◌, ◌/◌, ◌%◌, ◌^◌, ◌<◌, ◌≢◌, ◌⊎◌, List, [], ◌∷◌, length, get_or, set, Ok, Err, Result, sym, refl, ap, ◌∙◌, inl, inr, arith, lit<}
use denote.Param.Members.{Mut}
use Rattle.std.specs.Array.{IsMapOf}
use Rattle.std.specs.Fn.{Called}
use lib.Bits.{bit_xor, xor_lt, xor_assoc, xor_comm, xor_self}
use Rattle.std.proofs.lemmas.List.{set-get_or, length-set, get_or-set_same, get_or-set_other}
use Rattle.std.proofs.lemmas.Bool.{cases_eq}
use Rattle.engine.specs.Answers.{Xored}
use Rattle.engine.specs.Strings.{zeros, xored}
use Rattle.engine.specs.declared.refusal.Refusal.{Refusal}
use Rattle.gimli.proofs.Bits.{xor_left_comm, xor_cancel}
use Rattle.gimli.specs.Four.{row_at, row_whole}
use Rattle.gimli.specs.StringsLemmas.{string_long, string-at, same_string, same_state, byte_of_xor}
use Rattle.gimli.specs.Permutation.{row, Whole}
use Rattle.gimli.specs.Shares.{Sharing, share, joined, xor_states, WholeShares}
use Rattle.gimli.specs.Strings.{row_of, byte_at, string, StateXored}
use Rattle.gimli.specs.ThreeShare.{ShareXored}
use Rattle.gimli.specs.declared.state.State.{State}

-- share 0 of three replaced
pub zeroth_replaced : (s : Sharing) (t : State) → length s ≡ 3 → set s 0 t ≡ t ∷ share s 1 ∷ share s 2 ∷ []
zeroth_replaced (a ∷ b ∷ c ∷ []) t e = refl
zeroth_replaced [] t e = absurd (omega arith)
zeroth_replaced (a ∷ []) t e = absurd (omega arith)
zeroth_replaced (a ∷ b ∷ []) t e = absurd (omega arith)
zeroth_replaced (a ∷ b ∷ c ∷ d ∷ s) t e = absurd (omega arith)

-- three shares are the list of them
pub three_shares : (s : Sharing) → length s ≡ 3 → share s 0 ∷ share s 1 ∷ share s 2 ∷ [] ≡ s
three_shares s long = sym (zeroth_replaced s (share s 0) long) ∙ set-get_or s 0 _

-- each share changed by one function
pub shares_mapped : {F : Type 0} (g : Mut F (State × Unit {0}) State) (f : F) (s t : Sharing) (change : State → State) → IsMapOf g f s t 3 → ((p q : F) (x y : State) → Called g p (x, tt) y q → y ≡ change x) → t ≡ change (share s 0) ∷ change (share s 1) ∷ change (share s 2) ∷ []
shares_mapped g f s t change made says =
    let none : State = record { top = []; middle = []; bottom = [] } in
    let at : (h : ℕ) → h < 3 → share t h ≡ change (share s h) = λ h l. let k = made.at h none none l in says k.0 k.1 (share s h) (share t h) k.2 in
    sym (three_shares t made.long) ∙ (λ i. at 0 (lit< tt) i ∷ at 1 (lit< tt) i ∷ at 2 (lit< tt) i ∷ [])

-- ---- bytes

xor_row : (a b : State) (i : ℕ) → row_of (xor_states a b) i ≡ row (λ j. bit_xor (get_or (row_of a i) j 0) (get_or (row_of b i) j 0))
unfolding xor_states
xor_row a b zero = refl
xor_row a b (suc zero) = refl
xor_row a b (suc (suc i)) = refl

xor_byte : (a b : State) (p : ℕ) → byte_at (xor_states a b) p ≡ bit_xor (byte_at a p) (byte_at b p)
xor_byte a b p =
    ap (λ (r : List ℕ). get_or r (p % 16 / 4) 0 / 2 ^ (8 * (p % 4)) % 256) (xor_row a b (p / 16))
    ∙ ap (λ (w : ℕ). w / 2 ^ (8 * (p % 4)) % 256) (row_at (λ j. bit_xor (get_or (row_of a (p / 16)) j 0) (get_or (row_of b (p / 16)) j 0)) (p % 16 / 4) (omega arith))
    ∙ byte_of_xor (get_or (row_of a (p / 16)) (p % 16 / 4) 0) (get_or (row_of b (p / 16)) (p % 16 / 4) 0) (8 * (p % 4))

joined_byte : (s : Sharing) (p : ℕ) → byte_at (joined s) p ≡ bit_xor (bit_xor (byte_at (share s 0) p) (byte_at (share s 1) p)) (byte_at (share s 2) p)
joined_byte s p = xor_byte (xor_states (share s 0) (share s 1)) (share s 2) p ∙ ap (λ (x : ℕ). bit_xor x (byte_at (share s 2) p)) (xor_byte (share s 0) (share s 1) p)

-- a byte of the three strings together
pub joined_read : (s : Sharing) (p a b c : ℕ) → p < 48 → a ≡ get_or (string (share s 0)) p 0 → b ≡ get_or (string (share s 1)) p 0 → c ≡ get_or (string (share s 2)) p 0 → bit_xor (bit_xor a b) c ≡ get_or (string (joined s)) p 0
joined_read s p a b c h ea eb ec =
    (λ i. bit_xor (bit_xor ((ea ∙ string-at (share s 0) p h) i) ((eb ∙ string-at (share s 1) p h) i)) ((ec ∙ string-at (share s 2) p h) i))
    ∙ sym (joined_byte s p) ∙ sym (string-at (joined s) p h)

-- ---- a byte xored into share 0

module _ (s t : Sharing) (place b : ℕ) (fits : place < 48) (zeroth : string (share t 0) ≡ xored (string (share s 0)) place b) (first : share t 1 ≡ share s 1) (second : share t 2 ≡ share s 2) where
  share_byte : (p : ℕ) → p < 48 → (p ≡ place) ⊎ (p ≢ place) → get_or (xored (string (joined s)) place b) p 0 ≡ byte_at (joined t) p
  share_byte p h (inl e) =
      let inside : (m : State) → place < length (string m) = λ m. rw (string_long m) fits in
      let at_zeroth : byte_at (share t 0) place ≡ bit_xor (byte_at (share s 0) place) b =
      sym (string-at (share t 0) place fits) ∙ ap (λ (m : List ℕ). get_or m place 0) zeroth
      ∙ get_or-set_same (string (share s 0)) place _ 0 (inside (share s 0)) ∙ ap (λ (x : ℕ). bit_xor x b) (string-at (share s 0) place fits) in
      rw e
      (get_or-set_same (string (joined s)) place _ 0 (inside (joined s))
      ∙ ap (λ (x : ℕ). bit_xor x b) (string-at (joined s) place fits ∙ joined_byte s place)
      ∙ into_zeroth b (byte_at (share s 0) place) (byte_at (share s 1) place) (byte_at (share s 2) place)
      ∙ (λ i. bit_xor (bit_xor (sym at_zeroth i) (byte_at (sym first i) place)) (byte_at (sym second i) place))
      ∙ sym (joined_byte t place))
    where
      into_zeroth : (w x y z : ℕ) → bit_xor (bit_xor (bit_xor x y) z) w ≡ bit_xor (bit_xor (bit_xor x w) y) z
      into_zeroth w x y z = simp (xor_assoc, xor_comm, xor_left_comm)
  share_byte p h (inr ne) =
      let at_zeroth : byte_at (share t 0) p ≡ byte_at (share s 0) p =
      sym (string-at (share t 0) p h) ∙ ap (λ (m : List ℕ). get_or m p 0) zeroth
      ∙ get_or-set_other (string (share s 0)) place p _ 0 ne ∙ string-at (share s 0) p h in
      get_or-set_other (string (joined s)) place p _ 0 ne ∙ string-at (joined s) p h ∙ joined_byte s p
      ∙ (λ i. bit_xor (bit_xor (sym at_zeroth i) (byte_at (sym first i) p)) (byte_at (sym second i) p))
      ∙ sym (joined_byte t p)

  share_xored : string (joined t) ≡ xored (string (joined s)) place b
  share_xored =
      sym (same_string (xored (string (joined s)) place b) (joined t)
      (length-set (string (joined s)) place _ ∙ string_long (joined s)) (λ p h. share_byte p h (cases_eq p place)))

-- what xor_byte promises of the shares gives what it promises of the meaning
pub meaning_xored : (s t : Sharing) (place b : ℕ) (r : Result Unit Refusal) → ShareXored s place b r t → Xored (string (joined s)) place b r (string (joined t))
meaning_xored s t place b (Ok u) x = (x.0.0, share_xored s t place b x.0.0 x.0.1 x.1 x.2)
meaning_xored s t place b (Err e) x = (x.0.0, x.0.1, (λ i. string (xor_states (xor_states (x.0.2 i) (x.1 i)) (x.2 i))))

-- the same of a share lent out of the sharing
pub lent_xored : (s : Sharing) (t : State) (place b : ℕ) (r : Result Unit Refusal) → length s ≡ 3 → StateXored (share s 0) place b r t → ShareXored s place b r (set s 0 t)
lent_xored s t place b r long x =
    let after : set s 0 t ≡ t ∷ share s 1 ∷ share s 2 ∷ [] = zeroth_replaced s t long in
    rw after (x, refl, refl)

-- ---- clearing

cancelled : (a b : ℕ) → bit_xor (bit_xor (bit_xor a b) a) b ≡ 0
cancelled a b = ap (λ (x : ℕ). bit_xor x b) (xor_comm (bit_xor a b) a ∙ xor_cancel a b) ∙ xor_self b

-- the xor of two rows, xored with each of them
zero_row : (a b : List ℕ) → row (λ j. bit_xor (bit_xor (bit_xor (get_or a j 0) (get_or b j 0)) (get_or a j 0)) (get_or b j 0)) ≡ 0 ∷ 0 ∷ 0 ∷ 0 ∷ []
zero_row a b = λ i. row (λ j. cancelled (get_or a j 0) (get_or b j 0) i)

pub cleared : (a b : State) → string (joined (xor_states a b ∷ a ∷ b ∷ [])) ≡ zeros
unfolding xor_states string
cleared a b = ap string (same_state (zero_row a.top b.top) (zero_row a.middle b.middle) (zero_row a.bottom b.bottom))

-- ---- words that fit

xor_whole : (a b : State) → Whole a → Whole b → Whole (xor_states a b)
unfolding xor_states
xor_whole a b p q = record {
  top = row_whole (λ j. bit_xor (get_or a.top j 0) (get_or b.top j 0)) (λ j. xor_lt 32 _ _ (p.top.words j) (q.top.words j));
  middle = row_whole (λ j. bit_xor (get_or a.middle j 0) (get_or b.middle j 0)) (λ j. xor_lt 32 _ _ (p.middle.words j) (q.middle.words j));
  bottom = row_whole (λ j. bit_xor (get_or a.bottom j 0) (get_or b.bottom j 0)) (λ j. xor_lt 32 _ _ (p.bottom.words j) (q.bottom.words j));
}

pub joined_whole : (s : Sharing) → WholeShares s → Whole (joined s)
joined_whole s w = xor_whole _ _ (xor_whole _ _ w.zeroth w.first) w.second
