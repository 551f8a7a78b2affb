-- What the clauses of a dialect have to keep, as one record over the clauses, and that Definition 9 and document 001's list keep it. Assumes nothing.
use Rattle.std.specs.Prelude.{ℕ, Bool, true, false, ◌↔◌, ◌⊎◌, [], ◌∷◌}
use Rattle.std.proofs.Math.Logic.Iff
use Rattle.laws.specs.Masks.{has}
use Rattle.meaning.specs.Formula.{Series}
use Rattle.meaning.specs.Meaning.{Clauses, finite}
use Rattle.meaning.specs.Listed.{last}
use Rattle.meaning.proofs.Suffixes as suffixes
use Rattle.meaning.proofs.Dates as dates
use Rattle.meaning.specs.Rest.{Left}

-- `Looked s`: the dialect asks what formulas say of s. `later must P s`: what P, put off to the next date, says of the rest s; must is true for `X` and `U`,
-- false for `N` and `R`: by the list the first two want a next date, by Definition 9 all are alike
pub record Lawful (C : Clauses) : Type 1 where
  pub Looked : Series → Type 0
  pub later : Bool → (Series → Type 0) → Series → Type 0
  pub looked : (d : ℕ) (s : Series) → Looked (d ∷ s)
  pub at_rest : (must : Bool) (P : Series → Type 0) (d : ℕ) (s : Series) → later must P (d ∷ s) ↔ P (d ∷ s)
  pub asks : (P : Series → Type 0) (s : Series) → C.ask P s ↔ later true P s
  -- at a first date
  pub at_first : (k d : ℕ) (s : Series) → C.first k (d ∷ s) ↔ has d k
  pub at_next : (P : Series → Type 0) (d : ℕ) (s : Series) → C.next P (d ∷ s) ↔ later true P s
  pub at_weak : (P : Series → Type 0) (d : ℕ) (s : Series) → C.weak P (d ∷ s) ↔ later false P s
  pub at_until : (P Q : Series → Type 0) (d : ℕ) (s : Series) → C.until P Q (d ∷ s) ↔ (Q (d ∷ s) ⊎ (P (d ∷ s) × later true (C.until P Q) s))
  pub at_release : (P Q : Series → Type 0) (d : ℕ) (s : Series) → Dec (P (d ∷ s))
      → C.release P Q (d ∷ s) ↔ (Q (d ∷ s) × (P (d ∷ s) ⊎ later false (C.release P Q) s))
  -- decided where the parts are
  pub first? : (k : ℕ) (s : Series) → Looked s → Dec (C.first k s)
  pub next? : (P : Series → Type 0) → ((s : Series) → Looked s → Dec (P s)) → (s : Series) → Looked s → Dec (C.next P s)
  pub weak? : (P : Series → Type 0) → ((s : Series) → Looked s → Dec (P s)) → (s : Series) → Looked s → Dec (C.weak P s)
  pub until? : (P Q : Series → Type 0) → ((s : Series) → Looked s → Dec (P s)) → ((s : Series) → Looked s → Dec (Q s))
      → (s : Series) → Looked s → Dec (C.until P Q s)
  pub release? : (P Q : Series → Type 0) → ((s : Series) → Looked s → Dec (P s)) → ((s : Series) → Looked s → Dec (Q s))
      → (s : Series) → Looked s → Dec (C.release P Q s)
  pub ask? : (P : Series → Type 0) → ((s : Series) → Looked s → Dec (P s)) → (s : Series) → Dec (C.ask P s)
  -- where the parts are equivalent, the whole is
  pub ask_iff : (P P' : Series → Type 0) → ((s : Series) → Looked s → P s ↔ P' s) → (s : Series) → C.ask P s ↔ C.ask P' s
  pub next_iff : (P P' : Series → Type 0) → ((s : Series) → Looked s → P s ↔ P' s) → (s : Series) → Looked s → C.next P s ↔ C.next P' s
  pub weak_iff : (P P' : Series → Type 0) → ((s : Series) → Looked s → P s ↔ P' s) → (s : Series) → Looked s → C.weak P s ↔ C.weak P' s
  pub until_iff : (P P' Q Q' : Series → Type 0) → ((s : Series) → Looked s → P s ↔ P' s) → ((s : Series) → Looked s → Q s ↔ Q' s)
      → (s : Series) → Looked s → C.until P Q s ↔ C.until P' Q' s
  pub release_iff : (P P' Q Q' : Series → Type 0) → ((s : Series) → Looked s → P s ↔ P' s) → ((s : Series) → Looked s → Q s ↔ Q' s)
      → (s : Series) → Looked s → C.release P Q s ↔ C.release P' Q' s
  -- negation exchanges next with weak next and until with release
  pub not_next : (P P' : Series → Type 0) → ((s : Series) → Looked s → P' s ↔ (¬ P s)) → (s : Series) → Looked s → C.weak P' s ↔ (¬ C.next P s)
  pub not_weak : (P P' : Series → Type 0) → ((s : Series) → Looked s → P' s ↔ (¬ P s)) → (s : Series) → Looked s → C.next P' s ↔ (¬ C.weak P s)
  pub not_until : (P P' : Series → Type 0) → ((s : Series) → Looked s → P' s ↔ (¬ P s)) → (Q Q' : Series → Type 0)
      → ((s : Series) → Looked s → Q' s ↔ (¬ Q s)) → ((s : Series) → Looked s → Dec (P s)) → ((s : Series) → Looked s → Dec (Q s))
      → (s : Series) → Looked s → C.release P' Q' s ↔ (¬ C.until P Q s)
  pub not_release : (P P' : Series → Type 0) → ((s : Series) → Looked s → P' s ↔ (¬ P s)) → (Q Q' : Series → Type 0)
      → ((s : Series) → Looked s → Q' s ↔ (¬ Q s)) → ((s : Series) → Looked s → Dec (P s)) → ((s : Series) → Looked s → Dec (Q s))
      → (s : Series) → Looked s → C.until P' Q' s ↔ (¬ C.release P Q s)

-- ---- Definition 9 asks of every series

abbrev pub finite_lawful : Lawful finite
finite_lawful = record {
  Looked = λ s. Unit {0};
  later = λ must P. P;
  looked = λ d s. tt;
  at_rest = λ must P d s. Iff.rfl;
  asks = λ P s. Iff.rfl;
  at_first = suffixes.first_date;
  at_next = suffixes.next_date_lem;
  at_weak = suffixes.weak_date;
  at_until = suffixes.until_date;
  at_release = suffixes.release_date;
  first? = λ k s h. suffixes.first? k s;
  next? = λ P P? s h. suffixes.next? P (λ t. P? t tt) s;
  weak? = λ P P? s h. suffixes.weak? P (λ t. P? t tt) s;
  until? = λ P Q P? Q? s h. suffixes.until? P Q (λ t. P? t tt) (λ t. Q? t tt) s;
  release? = λ P Q P? Q? s h. suffixes.release? P Q (λ t. P? t tt) (λ t. Q? t tt) s;
  ask? = λ P P? s. P? s tt;
  ask_iff = λ P P' p s. p s tt;
  next_iff = λ P P' p s h. suffixes.next_iff P P' (λ t. p t tt) s;
  weak_iff = λ P P' p s h. suffixes.weak_iff P P' (λ t. p t tt) s;
  until_iff = λ P P' Q Q' p q s h. suffixes.until_iff P P' Q Q' (λ t. p t tt) (λ t. q t tt) s;
  release_iff = λ P P' Q Q' p q s h. suffixes.release_iff P P' Q Q' (λ t. p t tt) (λ t. q t tt) s;
  not_next = λ P P' p s h. suffixes.not_next P P' (λ t. p t tt) s;
  not_weak = λ P P' p s h. suffixes.not_weak P P' (λ t. p t tt) s;
  not_until = λ P P' p Q Q' q P? Q? s h. suffixes.not_until P P' (λ t. p t tt) Q Q' (λ t. q t tt) (λ t. P? t tt) (λ t. Q? t tt) s;
  not_release = λ P P' p Q Q' q P? Q? s h. suffixes.not_release P P' (λ t. p t tt) Q Q' (λ t. q t tt) (λ t. P? t tt) (λ t. Q? t tt) s;
}

-- ---- the list asks of the series with a date

abbrev pub Dated : Series → Type 0
Dated [] = ⊥
Dated (d ∷ s) = Unit {0}

abbrev pub dated : (P : Series → Type 0) → ((d : ℕ) (s : Series) → P (d ∷ s)) → (s : Series) → Dated s → P s
dated P f [] h = absurd h
dated P f (d ∷ s) h = f d s

abbrev pub last_lawful : Lawful last
last_lawful = record {
  Looked = Dated;
  later = Left;
  looked = λ d s. tt;
  at_rest = dates.left_date;
  asks = dates.asked;
  at_first = dates.at_first;
  at_next = dates.next_left;
  at_weak = dates.weak_left;
  at_until = dates.until_left;
  at_release = λ P Q d s p?. dates.release_left P Q d s;
  first? = λ k. dated (λ s. Dec (last.first k s)) (dates.first? k);
  next? = λ P P?. dated (λ s. Dec (last.next P s)) (dates.next? P (λ d t. P? (d ∷ t) tt));
  weak? = λ P P?. dated (λ s. Dec (last.weak P s)) (dates.weak? P (λ d t. P? (d ∷ t) tt));
  until? = λ P Q P? Q?. dated (λ s. Dec (last.until P Q s)) (dates.until? P (λ d t. P? (d ∷ t) tt) Q (λ d t. Q? (d ∷ t) tt));
  release? = λ P Q P? Q?. dated (λ s. Dec (last.release P Q s)) (dates.release? P (λ d t. P? (d ∷ t) tt) Q (λ d t. Q? (d ∷ t) tt));
  ask? = λ P P?. dates.ask? P (λ d t. P? (d ∷ t) tt);
  ask_iff = λ P P' p. dates.ask_iff P P' (λ d t. p (d ∷ t) tt);
  next_iff = λ P P' p. dated (λ s. last.next P s ↔ last.next P' s) (dates.next_iff P P' (λ d t. p (d ∷ t) tt));
  weak_iff = λ P P' p. dated (λ s. last.weak P s ↔ last.weak P' s) (dates.weak_iff P P' (λ d t. p (d ∷ t) tt));
  until_iff = λ P P' Q Q' p q s h. dates.until_iff P P' (λ d t. p (d ∷ t) tt) Q Q' (λ d t. q (d ∷ t) tt) s;
  release_iff = λ P P' Q Q' p q s h. dates.release_iff P P' (λ d t. p (d ∷ t) tt) Q Q' (λ d t. q (d ∷ t) tt) s;
  not_next = λ P P' p. dated (λ s. last.weak P' s ↔ (¬ last.next P s)) (dates.not_next P P' (λ d t. p (d ∷ t) tt));
  not_weak = λ P P' p. dated (λ s. last.next P' s ↔ (¬ last.weak P s)) (dates.not_weak P P' (λ d t. p (d ∷ t) tt));
  not_until = λ P P' p Q Q' q P? Q? s h.
      dates.not_until P P' (λ d t. p (d ∷ t) tt) Q Q' (λ d t. q (d ∷ t) tt) (λ d t. P? (d ∷ t) tt) (λ d t. Q? (d ∷ t) tt) s;
  not_release = λ P P' p Q Q' q P? Q? s h.
      dates.not_release P P' (λ d t. p (d ∷ t) tt) Q Q' (λ d t. q (d ∷ t) tt) (λ d t. P? (d ∷ t) tt) (λ d t. Q? (d ∷ t) tt) s;
}
