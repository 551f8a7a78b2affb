-- Laws of the clauses of document 001's list, on series with a date: at a first date, decided, under equivalence and under negation. Assumes nothing.
use Prim.Native.Nat.{ℕ, zero, suc, ◌≤◌, ◌<◌, zero-le, suc-le-suc}
use Rattle.std.proofs.Math.Nat.{le_of_suc-le-suc, not-suc-le-zero}
use Rattle.std.proofs.Math.Decide.{ℕ_discrete}
use Rattle.std.proofs.Common.{arith}
use Rattle.std.specs.Prelude.{◌≡◌, refl, Bool, true, false, ◌↔◌, ◌⊎◌, length, drop}
use Rattle.std.proofs.Math.Logic.{inl, inr, ⊎_elim}
use Rattle.std.proofs.Math.Logic.Iff
use mathlib.Core.List.{[], ◌∷◌}
use Rattle.laws.specs.Masks.{has}
use Rattle.laws.specs.Decided.{both?, either?, same?, or_iff, neither, not_both}
use Rattle.meaning.specs.Formula.{Series}
use Rattle.meaning.proofs.Suffixes.{earlier}
use Rattle.meaning.specs.Rest.{Left}
use Rattle.meaning.specs.Listed.{AtFirst, NextDate, WeakDate, UntilDate, ReleaseDate, AskDate}

pub left_date : (must : Bool) (P : Series → Type 0) (d : ℕ) (s : Series) → Left must P (d ∷ s) ↔ P (d ∷ s)
left_date true P d s = Iff.rfl
left_date false P d s = Iff.rfl

pub at_first : (k d : ℕ) (s : Series) → AtFirst k (d ∷ s) ↔ has d k
unfolding AtFirst
at_first k d s = Iff.rfl

module _ (P : Series → Type 0) where
  pub asked : (s : Series) → AskDate P s ↔ Left true P s
  asked [] = (λ h. not-suc-le-zero h.0, λ h. absurd h)
  asked (d ∷ s) = (λ h. h.1, λ h. (suc-le-suc zero-le, h))

  pub next_left : (d : ℕ) (s : Series) → NextDate P (d ∷ s) ↔ Left true P s
  unfolding NextDate
  next_left d [] = (λ h. not-suc-le-zero (le_of_suc-le-suc h.0), λ h. absurd h)
  next_left d (e ∷ s) = (λ h. h.1, λ h. (suc-le-suc (suc-le-suc zero-le), h))

  pub weak_left : (d : ℕ) (s : Series) → WeakDate P (d ∷ s) ↔ Left false P s
  unfolding WeakDate
  weak_left d [] = (λ h. tt, λ h. inl refl)
  weak_left d (e ∷ s) = (⊎_elim (λ (x : suc (suc (length s)) ≡ 1). absurd (omega arith)) (λ h. h), inr)

module _ (P Q : Series → Type 0) where
  pub until_none : UntilDate P Q [] → ⊥
  unfolding UntilDate
  until_none u = not-suc-le-zero u.1

  pub release_none : ReleaseDate P Q []
  unfolding ReleaseDate
  release_none = inl (λ i h. absurd (not-suc-le-zero h))

  until_is : (s : Series) → UntilDate P Q s ↔ Left true (UntilDate P Q) s
  until_is [] = (until_none, λ h. absurd h)
  until_is (d ∷ s) = Iff.rfl

  release_is : (s : Series) → ReleaseDate P Q s ↔ Left false (ReleaseDate P Q) s
  release_is [] = (λ h. tt, λ h. release_none)
  release_is (d ∷ s) = Iff.rfl

  split : (d : ℕ) (s : Series) (i : ℕ) → i < length (d ∷ s) → Q (drop i (d ∷ s)) → ((j : ℕ) → j < i → P (drop j (d ∷ s)))
      → Q (d ∷ s) ⊎ (P (d ∷ s) × UntilDate P Q s)
  unfolding UntilDate
  split d s zero h q ps = inl q
  split d s (suc i) h q ps = inr (ps 0 (suc-le-suc zero-le), (i, le_of_suc-le-suc h, q, λ j l. ps (suc j) (suc-le-suc l)))

  pub until_date : (d : ℕ) (s : Series) → UntilDate P Q (d ∷ s) ↔ (Q (d ∷ s) ⊎ (P (d ∷ s) × UntilDate P Q s))
  unfolding UntilDate
  until_date d s = (
    λ u. split d s u.0 u.1 u.2 u.3,
    ⊎_elim (λ q. (0, suc-le-suc zero-le, q, λ j h. absurd (not-suc-le-zero h)))
        (λ u. (suc u.1.0, suc-le-suc u.1.1, u.1.2, earlier P d s u.1.0 u.0 u.1.3)),
  )

  pub until_left : (d : ℕ) (s : Series) → UntilDate P Q (d ∷ s) ↔ (Q (d ∷ s) ⊎ (P (d ∷ s) × Left true (UntilDate P Q) s))
  until_left d s = Iff.trans (until_date d s) (or_iff Iff.rfl (Iff.and Iff.rfl (until_is s)))

  released : (d : ℕ) (s : Series) (i : ℕ) → i < length (d ∷ s) → P (drop i (d ∷ s)) → ((j : ℕ) → j ≤ i → Q (drop j (d ∷ s)))
      → P (d ∷ s) ⊎ ReleaseDate P Q s
  unfolding ReleaseDate
  released d s zero h p qs = inl p
  released d s (suc i) h p qs = inr (inr (i, le_of_suc-le-suc h, p, λ j l. qs (suc j) (suc-le-suc l)))

  up_to : (d : ℕ) (s : Series) (i : ℕ) → Q (d ∷ s) → ((j : ℕ) → j < i → Q (drop j s)) → (j : ℕ) → j ≤ i → Q (drop j (d ∷ s))
  up_to d s i q qs j h = earlier Q d s i q qs j (suc-le-suc h)

  pub release_date : (d : ℕ) (s : Series) → ReleaseDate P Q (d ∷ s) ↔ (Q (d ∷ s) × (P (d ∷ s) ⊎ ReleaseDate P Q s))
  unfolding ReleaseDate
  release_date d s = (
    ⊎_elim (λ a. (a 0 (suc-le-suc zero-le), inr (inl (λ i h. a (suc i) (suc-le-suc h)))))
        (λ r. (r.3 0 zero-le, released d s r.0 r.1 r.2 r.3)),
    λ h. ⊎_elim (λ p. inr (0, suc-le-suc zero-le, p, up_to d s 0 h.0 (λ j l. absurd (not-suc-le-zero l))))
        (⊎_elim (λ a. inl (earlier Q d s (length s) h.0 a))
        (λ r. inr (suc r.0, suc-le-suc r.1, r.2, up_to d s (suc r.0) h.0 (λ j l. r.3 j (le_of_suc-le-suc l))))) h.1,
  )

  pub release_left : (d : ℕ) (s : Series) → ReleaseDate P Q (d ∷ s) ↔ (Q (d ∷ s) × (P (d ∷ s) ⊎ Left false (ReleaseDate P Q) s))
  release_left d s = Iff.trans (release_date d s) (Iff.and Iff.rfl (or_iff Iff.rfl (release_is s)))

-- ---- decided where the parts are

abbrev pub first? : (k d : ℕ) (s : Series) → Dec (AtFirst k (d ∷ s))
first? k d s = same? (at_first k d s) (ℕ_discrete _ _)

module _ (P : Series → Type 0) (P? : (d : ℕ) (s : Series) → Dec (P (d ∷ s))) where
  abbrev left? : (must : Bool) (s : Series) → Dec (Left must P s)
  left? true [] = no (λ h. h)
  left? false [] = yes tt
  left? true (d ∷ s) = P? d s
  left? false (d ∷ s) = P? d s

  abbrev pub next? : (d : ℕ) (s : Series) → Dec (NextDate P (d ∷ s))
  next? d s = same? (next_left P d s) (left? true s)

  abbrev pub weak? : (d : ℕ) (s : Series) → Dec (WeakDate P (d ∷ s))
  weak? d s = same? (weak_left P d s) (left? false s)

  abbrev pub ask? : (s : Series) → Dec (AskDate P s)
  ask? s = same? (asked P s) (left? true s)

  module _ (Q : Series → Type 0) (Q? : (d : ℕ) (s : Series) → Dec (Q (d ∷ s))) where
    abbrev until_any? : (s : Series) → Dec (UntilDate P Q s)
    until_any? [] = no (until_none P Q)
    until_any? (d ∷ s) = same? (until_date P Q d s) (either? (Q? d s) (both? (P? d s) (until_any? s)))

    abbrev pub until? : (d : ℕ) (s : Series) → Dec (UntilDate P Q (d ∷ s))
    until? d s = until_any? (d ∷ s)

    abbrev release_any? : (s : Series) → Dec (ReleaseDate P Q s)
    release_any? [] = yes (release_none P Q)
    release_any? (d ∷ s) = same? (release_date P Q d s) (both? (Q? d s) (either? (P? d s) (release_any? s)))

    abbrev pub release? : (d : ℕ) (s : Series) → Dec (ReleaseDate P Q (d ∷ s))
    release? d s = release_any? (d ∷ s)

-- ---- where the parts are equivalent, the whole is

module _ (P P' : Series → Type 0) (p : (d : ℕ) (s : Series) → P (d ∷ s) ↔ P' (d ∷ s)) where
  left_iff : (must : Bool) (s : Series) → Left must P s ↔ Left must P' s
  left_iff true [] = Iff.rfl
  left_iff false [] = Iff.rfl
  left_iff true (d ∷ s) = p d s
  left_iff false (d ∷ s) = p d s

  pub ask_iff : (s : Series) → AskDate P s ↔ AskDate P' s
  ask_iff s = Iff.trans (asked P s) (Iff.trans (left_iff true s) (Iff.symm (asked P' s)))

  pub next_iff : (d : ℕ) (s : Series) → NextDate P (d ∷ s) ↔ NextDate P' (d ∷ s)
  next_iff d s = Iff.trans (next_left P d s) (Iff.trans (left_iff true s) (Iff.symm (next_left P' d s)))

  pub weak_iff : (d : ℕ) (s : Series) → WeakDate P (d ∷ s) ↔ WeakDate P' (d ∷ s)
  weak_iff d s = Iff.trans (weak_left P d s) (Iff.trans (left_iff false s) (Iff.symm (weak_left P' d s)))

  module _ (Q Q' : Series → Type 0) (q : (d : ℕ) (s : Series) → Q (d ∷ s) ↔ Q' (d ∷ s)) where
    pub until_iff : (s : Series) → UntilDate P Q s ↔ UntilDate P' Q' s
    until_iff [] = (λ h. absurd (until_none P Q h), λ h. absurd (until_none P' Q' h))
    until_iff (d ∷ s) = Iff.trans (until_date P Q d s) (Iff.trans (or_iff (q d s) (Iff.and (p d s) (until_iff s))) (Iff.symm (until_date P' Q' d s)))

    pub release_iff : (s : Series) → ReleaseDate P Q s ↔ ReleaseDate P' Q' s
    release_iff [] = (λ h. release_none P' Q', λ h. release_none P Q)
    release_iff (d ∷ s) =
        Iff.trans (release_date P Q d s) (Iff.trans (Iff.and (q d s) (or_iff (p d s) (release_iff s))) (Iff.symm (release_date P' Q' d s)))

-- ---- negation exchanges next with weak next and until with release, on series with a date: P' is not P, and Q' not Q

module _ (P P' : Series → Type 0) (p : (d : ℕ) (s : Series) → P' (d ∷ s) ↔ (¬ P (d ∷ s))) where
  not_left_true : (s : Series) → Left false P' s ↔ (¬ Left true P s)
  not_left_true [] = (λ h x. x, λ h. tt)
  not_left_true (d ∷ s) = p d s

  not_left_false : (s : Series) → Left true P' s ↔ (¬ Left false P s)
  not_left_false [] = (λ h. absurd h, λ h. h tt)
  not_left_false (d ∷ s) = p d s

  pub not_next : (d : ℕ) (s : Series) → WeakDate P' (d ∷ s) ↔ (¬ NextDate P (d ∷ s))
  not_next d s = Iff.trans (weak_left P' d s) (Iff.trans (not_left_true s) (Iff.not (Iff.symm (next_left P d s))))

  pub not_weak : (d : ℕ) (s : Series) → NextDate P' (d ∷ s) ↔ (¬ WeakDate P (d ∷ s))
  not_weak d s = Iff.trans (next_left P' d s) (Iff.trans (not_left_false s) (Iff.not (Iff.symm (weak_left P d s))))

  module _ (Q Q' : Series → Type 0) (q : (d : ℕ) (s : Series) → Q' (d ∷ s) ↔ (¬ Q (d ∷ s))) (P? : (d : ℕ) (s : Series) → Dec (P (d ∷ s)))
      (Q? : (d : ℕ) (s : Series) → Dec (Q (d ∷ s))) where
    pub not_until : (s : Series) → ReleaseDate P' Q' s ↔ (¬ UntilDate P Q s)
    not_until [] = (λ h. until_none P Q, λ h. release_none P' Q')
    not_until (d ∷ s) =
        Iff.trans (release_date P' Q' d s)
        (Iff.trans (Iff.and (q d s) (Iff.trans (or_iff (p d s) (not_until s)) (not_both (P? d s))))
        (Iff.trans neither (Iff.not (Iff.symm (until_date P Q d s)))))

    pub not_release : (s : Series) → UntilDate P' Q' s ↔ (¬ ReleaseDate P Q s)
    not_release [] = (λ h. absurd (until_none P' Q' h), λ h. absurd (h (release_none P Q)))
    not_release (d ∷ s) =
        Iff.trans (until_date P' Q' d s)
        (Iff.trans (or_iff (q d s) (Iff.trans (Iff.and (p d s) (not_release s)) neither))
        (Iff.trans (not_both (Q? d s)) (Iff.not (Iff.symm (release_date P Q d s)))))
