-- The nonces that the steps of a script hold, one call on: issued by the book, unspent, and all different.
use Rattle.std.proofs.Common.{◌≡◌, ℕ, suc, ◌<◌, ◌≤◌, ◌≢◌, ◌⊎◌, List, [], ◌∷◌, ◌++◌, get_or, Some, sym, ap, ◌∙◌, inl, inr, arith}
use Rattle.std.proofs.lemmas.Bool.{cases_eq}
use Rattle.cipher.specs.Nonces.{issued_bytes, nonce_of, Issues}
use Rattle.cipher.specs.declared.book.IssuedNonce.{IssuedNonce}
use Rattle.cipher.specs.declared.book.NonceBook.{NonceBook}
use Rattle.runs.specs.Allowed.{issues, use_of}
use Rattle.runs.specs.History.{Event, issued, sealing_started}
use Rattle.runs.specs.Traces.{Happened, Spent}
use Rattle.runs.proofs.Histories.{happened_more, happened_last}
use Rattle.runs.proofs.Lawful.{happened_within}
use Rattle.runs.specs.declared.script.Step.{Step}

-- a step that issued the nonce n and holds it still
abbrev pub Held : {L : Type 0} → Step L → IssuedNonce → Type 0
Held x n = (use_of x.call ≡ issues) × (x.nonce ≡ Some n)

pub same_held : {L : Type 0} (x y : Step L) (n : IssuedNonce) → x ≡ y → Held x n → Held y n
same_held x y n same held = rw same at held

-- a nonce of the book's name and a count that has passed
abbrev pub Counted : NonceBook → List ℕ → Type 0
Counted b n = (c : ℕ) × (c < b.count) × (n ≡ nonce_of b.name c)

-- the nonces that the first i steps hold: issued by the book, unspent, and all different
pub record Nonces {L : Type 0} (ys : List (Step L)) (i : ℕ) (h : List Event) (b : NonceBook) : Type 0 where
  pub issued_before : (j : ℕ) (d : Step L) (n : IssuedNonce) → j < i → Held (get_or ys j d) n → Happened (issued (issued_bytes n)) h
  pub unspent : (j : ℕ) (d : Step L) (n : IssuedNonce) → j < i → Held (get_or ys j d) n → Spent (issued_bytes n) h → ⊥
  pub apart : (j j' : ℕ) (d : Step L) (n n' : IssuedNonce) → j < i → j' < i → Held (get_or ys j d) n → Held (get_or ys j' d) n' → issued_bytes n ≡ issued_bytes n' → j ≡ j'
  pub counted : (j : ℕ) (d : Step L) (n : IssuedNonce) → j < i → Held (get_or ys j d) n → Counted b (issued_bytes n)
  pub spent_counted : (n : List ℕ) → Spent n h → Counted b n

pub no : {A : Type 0} → ◌≡◌ {A = ℕ} 0 1 → A
no z = absurd (omega arith)

pub here_or_before : (j i : ℕ) → j < suc i → (j ≡ i) ⊎ (j < i)
here_or_before j i k = elim (cases_eq j i) [ inl e ↦ inl e | inr ne ↦ inr (omega arith) ]

pub counted_more : (b b' : NonceBook) (n : List ℕ) → b'.name ≡ b.name → b.count ≤ b'.count → Counted b n → Counted b' n
counted_more b b' n name count c = (c.0, omega (arith, c.1), rw name c.2)

pub spent_before : (n : List ℕ) (h : List Event) (e : Event) → ((k : List ℕ) → e ≡ sealing_started k n → ⊥) → Spent n (h ++ e ∷ []) → Spent n h
spent_before n h e other s = elim (happened_last (sealing_started s.0 n) e h s.1) [ inl p ↦ (s.0, p) | inr same ↦ absurd (other s.0 same) ]

module _ {L : Type 0} (ys ys' : List (Step L)) (i : ℕ) (h : List Event) (e : Event) (b b' : NonceBook) (old : Nonces ys i h b) (name : b'.name ≡ b.name) (count : b.count ≤ b'.count) where
  -- a call after which each step holds no nonce that it did not hold, and that starts no sealing
  pub nonces_quiet : ((j : ℕ) (d : Step L) (n : IssuedNonce) → j < i → Held (get_or ys' j d) n → Held (get_or ys j d) n) → ((d : Step L) (n : IssuedNonce) → Held (get_or ys' i d) n → ⊥) → ((k n : List ℕ) → e ≡ sealing_started k n → ⊥) → Nonces ys' (suc i) (h ++ e ∷ []) b'
  nonces_quiet before none plain = record {
    issued_before = λ j d n k held. elim (here_or_before j i k) [ inl same ↦ absurd (none d n (rw same at held)) | inr l ↦ happened_more _ e h (old.issued_before j d n l (before j d n l held)) ];
    unspent = λ j d n k held s. elim (here_or_before j i k) [ inl same ↦ none d n (rw same at held) | inr l ↦ old.unspent j d n l (before j d n l held) (spent_before (issued_bytes n) h e (λ q. plain q (issued_bytes n)) s) ];
    apart = λ j j' d n n' k k' held held' one. elim (here_or_before j i k) [ inl same ↦ absurd (none d n (rw same at held)) | inr l ↦ elim (here_or_before j' i k') [ inl same ↦ absurd (none d n' (rw same at held')) | inr l' ↦ old.apart j j' d n n' l l' (before j d n l held) (before j' d n' l' held') one ] ];
    counted = λ j d n k held. elim (here_or_before j i k) [ inl same ↦ absurd (none d n (rw same at held)) | inr l ↦ counted_more b b' (issued_bytes n) name count (old.counted j d n l (before j d n l held)) ];
    spent_counted = λ n s. counted_more b b' n name count (old.spent_counted n (spent_before n h e (λ q. plain q n) s));
  }

  -- step i issued the nonce n, and holds it
  pub nonces_issued : (n : IssuedNonce) → e ≡ issued (issued_bytes n) → Issues b n b' → ((j : ℕ) (d : Step L) (m : IssuedNonce) → j < i → Held (get_or ys' j d) m → Held (get_or ys j d) m) → ((d : Step L) (m : IssuedNonce) → Held (get_or ys' i d) m → m ≡ n) → Nonces ys' (suc i) (h ++ e ∷ []) b'
  nonces_issued n is issue before here =
      let no_start : (k m : List ℕ) → e ≡ sealing_started k m → ⊥ = λ k m same. no cc in
      let new : (m : List ℕ) → m ≡ issued_bytes n → Counted b m → ⊥ = λ m same c.
      let past : c.0 ≡ b.count = issue.sole c.0 (omega (arith, c.1, issue.left)) (sym same ∙ c.2) in
      omega (arith, c.1) in
      record {
        issued_before = λ j d m k held. elim (here_or_before j i k) [ inl at·here ↦ (let same : m ≡ n = here d m (rw at·here at held) in rw (same, is) (happened_within (issued (issued_bytes n)) h [])) | inr l ↦ happened_more _ e h (old.issued_before j d m l (before j d m l held)) ];
        unspent = λ j d m k held s.
            let s' : Spent (issued_bytes m) h = spent_before (issued_bytes m) h e (λ q. no_start q (issued_bytes m)) s in
            elim (here_or_before j i k) [ inl at·here ↦ new (issued_bytes m) (ap issued_bytes (here d m (rw at·here at held))) (old.spent_counted (issued_bytes m) s') | inr l ↦ old.unspent j d m l (before j d m l held) s' ];
        apart = λ j j' d m m' k k' held held' one. elim (here_or_before j i k) [
          | inl at·here ↦ elim (here_or_before j' i k') [ inl at·there ↦ at·here ∙ sym at·there | inr l' ↦ absurd (new (issued_bytes m') (sym one ∙ ap issued_bytes (here d m (rw at·here at held))) (old.counted j' d m' l' (before j' d m' l' held'))) ]
          | inr l ↦ elim (here_or_before j' i k') [ inl at·there ↦ absurd (new (issued_bytes m) (one ∙ ap issued_bytes (here d m' (rw at·there at held'))) (old.counted j d m l (before j d m l held))) | inr l' ↦ old.apart j j' d m m' l l' (before j d m l held) (before j' d m' l' held') one ]
        ];
        counted = λ j d m k held. elim (here_or_before j i k) [ inl at·here ↦ (b.count, omega (arith, issue.count), rw issue.name (ap issued_bytes (here d m (rw at·here at held)) ∙ issue.bytes)) | inr l ↦ counted_more b b' (issued_bytes m) name count (old.counted j d m l (before j d m l held)) ];
        spent_counted = λ m s. counted_more b b' m name count (old.spent_counted m (spent_before m h e (λ q. no_start q m) s));
      }

  -- a sealing started with the nonce n of step t, which holds it no more
  pub nonces_started : (k₀ : List ℕ) (n : IssuedNonce) (t : ℕ) (d₀ : Step L) → e ≡ sealing_started k₀ (issued_bytes n) → t < i → Held (get_or ys t d₀) n → ((j : ℕ) (d : Step L) (m : IssuedNonce) → j < i → Held (get_or ys' j d) m → Held (get_or ys j d) m × (j ≢ t)) → ((d : Step L) (m : IssuedNonce) → Held (get_or ys' i d) m → ⊥) → ((d : Step L) → get_or ys t d ≡ get_or ys t d₀) → Nonces ys' (suc i) (h ++ e ∷ []) b'
  nonces_started k₀ n t d₀ is earlier had before none default =
      let spent_or_n : (m : List ℕ) → Spent m (h ++ e ∷ []) → Spent m h ⊎ (m ≡ issued_bytes n) = λ m s.
      elim (happened_last (sealing_started s.0 m) e h s.1) [ inl p ↦ inl (s.0, p) | inr same ↦ inr cc ] in
      record {
        issued_before = λ j d m k held. elim (here_or_before j i k) [ inl at·here ↦ absurd (none d m (rw at·here at held)) | inr l ↦ happened_more _ e h (old.issued_before j d m l (before j d m l held).0) ];
        unspent = λ j d m k held s. elim (here_or_before j i k) [
          | inl at·here ↦ none d m (rw at·here at held)
          | inr l ↦ elim (spent_or_n (issued_bytes m) s) [
            | inl p ↦ old.unspent j d m l (before j d m l held).0 p
            | inr same ↦ (before j d m l held).1 (old.apart j t d m n l earlier (before j d m l held).0 (rw (default d) had) same)
          ]
        ];
        apart = λ j j' d m m' k k' held held' one. elim (here_or_before j i k) [ inl at·here ↦ absurd (none d m (rw at·here at held)) | inr l ↦ elim (here_or_before j' i k') [ inl at·here ↦ absurd (none d m' (rw at·here at held')) | inr l' ↦ old.apart j j' d m m' l l' (before j d m l held).0 (before j' d m' l' held').0 one ] ];
        counted = λ j d m k held. elim (here_or_before j i k) [ inl at·here ↦ absurd (none d m (rw at·here at held)) | inr l ↦ counted_more b b' (issued_bytes m) name count (old.counted j d m l (before j d m l held).0) ];
        spent_counted = λ m s. elim (spent_or_n m s) [ inl p ↦ counted_more b b' m name count (old.spent_counted m p) | inr same ↦ counted_more b b' m name count (rw same (old.counted t d₀ n earlier had)) ];
      }
