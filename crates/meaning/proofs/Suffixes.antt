-- Laws of Definition 9's clauses: on no dates, at a first date (Lemma 12), decided, under equivalence and under negation. Assumes nothing.
use Prim.Native.Nat.{ℕ, zero, suc, ◌≤◌, ◌<◌, zero-le, suc-le-suc}
use Rattle.std.proofs.Math.Nat.{le_of_suc-le-suc, not-suc-le-zero}
use Rattle.std.proofs.Common.{suc-ne-zero}
use Rattle.std.proofs.Math.Path.{refl}
use Rattle.std.specs.Prelude.{◌↔◌, ◌⊎◌, [], ◌∷◌, length, drop}
use Rattle.std.proofs.Math.Logic.{inl, inr, ⊎_elim, ⊎_map}
use Rattle.std.proofs.Math.Logic.Iff
use Rattle.std.proofs.Math.Seq.{drop-nil}
use Rattle.std.proofs.Math.Decide.{ℕ_discrete}
use Rattle.laws.specs.Masks.{has}
use Rattle.meaning.specs.Formula.{Series}
use Rattle.laws.specs.Decided.{not?, both?, either?, same?, or_iff, neither, not_both}
use Rattle.meaning.specs.Meaning.{First, Next, Weak, Until, Release}

-- ---- on no dates, and on a first date with others after it

pub first_end : (k : ℕ) → First k [] → ⊥
unfolding First
first_end k h = not-suc-le-zero h.0

pub first_date : (k d : ℕ) (s : Series) → First k (d ∷ s) ↔ has d k
unfolding First
first_date k d s = (λ h. h.1, λ h. (suc-le-suc zero-le, h))

abbrev pub first? : (k : ℕ) (s : Series) → Dec (First k s)
first? k [] = no (first_end k)
first? k (d ∷ s) = same? (first_date k d s) (ℕ_discrete _ _)

module _ (P : Series → Type 0) where
  pub next_end : Next P [] → ⊥
  unfolding Next
  next_end h = not-suc-le-zero h.0

  pub next_date_lem : (d : ℕ) (s : Series) → Next P (d ∷ s) ↔ P s
  unfolding Next
  next_date_lem d s = (λ h. h.1, λ h. (suc-le-suc zero-le, h))

  pub weak_end : Weak P []
  unfolding Weak
  weak_end = inl refl

  pub weak_date : (d : ℕ) (s : Series) → Weak P (d ∷ s) ↔ P s
  unfolding Weak
  weak_date d s = (⊎_elim (λ e. absurd (suc-ne-zero (length s) e)) (λ h. h), inr)

  module _ (P? : (s : Series) → Dec (P s)) where
    abbrev pub next? : (s : Series) → Dec (Next P s)
    next? [] = no next_end
    next? (d ∷ s) = same? (next_date_lem d s) (P? s)

    abbrev pub weak? : (s : Series) → Dec (Weak P s)
    weak? [] = yes weak_end
    weak? (d ∷ s) = same? (weak_date d s) (P? s)

-- what is true of the whole and, from the next place on, of j suffixes is true of one suffix more from the first place on
pub earlier : (P : Series → Type 0) (d : ℕ) (s : Series) (j : ℕ) → P (d ∷ s) → ((k : ℕ) → k < j → P (drop k s)) → (k : ℕ) → k < suc j → P (drop k (d ∷ s))
earlier P d s j p ps zero h = p
earlier P d s j p ps (suc k) h = ps k (le_of_suc-le-suc h)

module _ (P Q : Series → Type 0) where
  pub until_end : Until P Q [] ↔ Q []
  unfolding Until
  until_end = (λ u. rw drop-nil at u.2, λ q. (0, zero-le, q, λ k h. absurd (not-suc-le-zero h)))

  until_split : (d : ℕ) (s : Series) (j : ℕ) → j ≤ length (d ∷ s) → Q (drop j (d ∷ s)) → ((k : ℕ) → k < j → P (drop k (d ∷ s)))
      → Q (d ∷ s) ⊎ (P (d ∷ s) × Until P Q s)
  unfolding Until
  until_split d s zero h q ps = inl q
  until_split d s (suc j) h q ps = inr (ps 0 (suc-le-suc zero-le), (j, le_of_suc-le-suc h, q, λ k l. ps (suc k) (suc-le-suc l)))

  -- Lemma 12, for until
  pub until_date : (d : ℕ) (s : Series) → Until P Q (d ∷ s) ↔ (Q (d ∷ s) ⊎ (P (d ∷ s) × Until P Q s))
  unfolding Until
  until_date d s = (
    λ u. until_split d s u.0 u.1 u.2 u.3,
    ⊎_elim (λ q. (0, zero-le, q, λ k h. absurd (not-suc-le-zero h)))
        (λ u. (suc u.1.0, suc-le-suc u.1.1, u.1.2, earlier P d s u.1.0 u.0 u.1.3)),
  )

  pub release_end : Release P Q [] ↔ Q []
  unfolding Release
  release_end = (λ r. ⊎_elim (λ q. q) (λ e. absurd (not-suc-le-zero e.1)) (r 0 zero-le), λ q j h. rw drop-nil (inl q))

  release_first : (d : ℕ) (s : Series) → Release P Q (d ∷ s) → Q (d ∷ s)
  unfolding Release
  release_first d s r = ⊎_elim (λ q. q) (λ e. absurd (not-suc-le-zero e.1)) (r 0 zero-le)

  held : (d : ℕ) (s : Series) (j : ℕ) → (P (d ∷ s) → ⊥) → (k : ℕ) → k < suc j → P (drop k (d ∷ s)) → (k : ℕ) × (k < j) × P (drop k s)
  held d s j np zero h p = absurd (np p)
  held d s j np (suc k) h p = (k, le_of_suc-le-suc h, p)

  release_rest : (d : ℕ) (s : Series) → (P (d ∷ s) → ⊥) → Release P Q (d ∷ s) → Release P Q s
  unfolding Release
  release_rest d s np r j h = ⊎_elim inl (λ e. inr (held d s j np e.0 e.1 e.2)) (r (suc j) (suc-le-suc h))

  release_join : (d : ℕ) (s : Series) → Q (d ∷ s) → P (d ∷ s) ⊎ Release P Q s → Release P Q (d ∷ s)
  unfolding Release
  release_join d s q c zero h = inl q
  release_join d s q c (suc j) h =
      ⊎_elim (λ p. inr (0, suc-le-suc zero-le, p))
      (λ r. ⊎_elim inl (λ e. inr (suc e.0, suc-le-suc e.1, e.2)) (r j (le_of_suc-le-suc h))) c

  -- Lemma 12, for release: the first part is decided
  pub release_date : (d : ℕ) (s : Series) → Dec (P (d ∷ s)) → Release P Q (d ∷ s) ↔ (Q (d ∷ s) × (P (d ∷ s) ⊎ Release P Q s))
  release_date d s p? = (λ r. (release_first d s r, elim p? [ yes p ↦ inl p | no np ↦ inr (release_rest d s np r) ]), λ c. release_join d s c.0 c.1)

  -- ---- decided where its parts are

  module _ (P? : (s : Series) → Dec (P s)) (Q? : (s : Series) → Dec (Q s)) where
    abbrev pub until? : (s : Series) → Dec (Until P Q s)
    until? [] = same? until_end (Q? [])
    until? (d ∷ s) = same? (until_date d s) (either? (Q? (d ∷ s)) (both? (P? (d ∷ s)) (until? s)))

    abbrev pub release? : (s : Series) → Dec (Release P Q s)
    release? [] = same? release_end (Q? [])
    release? (d ∷ s) = same? (release_date d s (P? (d ∷ s))) (both? (Q? (d ∷ s)) (either? (P? (d ∷ s)) (release? s)))

-- ---- where the parts are equivalent, the whole is

module _ (P P' : Series → Type 0) (p : (s : Series) → P s ↔ P' s) where
  pub next_iff : (s : Series) → Next P s ↔ Next P' s
  unfolding Next
  next_iff s = Iff.and Iff.rfl (p (drop 1 s))

  pub weak_iff : (s : Series) → Weak P s ↔ Weak P' s
  unfolding Weak
  weak_iff s = or_iff Iff.rfl (p (drop 1 s))

module _ (P P' Q Q' : Series → Type 0) (p : (s : Series) → P s ↔ P' s) (q : (s : Series) → Q s ↔ Q' s) where
  pub until_iff : (s : Series) → Until P Q s ↔ Until P' Q' s
  unfolding Until
  until_iff s = (
    λ u. (u.0, u.1, (q (drop u.0 s)).0 u.2, λ k h. (p (drop k s)).0 (u.3 k h)),
    λ u. (u.0, u.1, (q (drop u.0 s)).1 u.2, λ k h. (p (drop k s)).1 (u.3 k h)),
  )

  pub release_iff : (s : Series) → Release P Q s ↔ Release P' Q' s
  unfolding Release ⊎_map
  release_iff s = (
    λ r j h. ⊎_map (q (drop j s)).0 (λ e. (e.0, e.1, (p (drop e.0 s)).0 e.2)) (r j h),
    λ r j h. ⊎_map (q (drop j s)).1 (λ e. (e.0, e.1, (p (drop e.0 s)).1 e.2)) (r j h),
  )

-- ---- negation exchanges next with weak next and until with release (Lemma 6): P' is not P, and Q' not Q

module _ (P P' : Series → Type 0) (p : (s : Series) → P' s ↔ (¬ P s)) where
  pub not_next : (s : Series) → Weak P' s ↔ (¬ Next P s)
  not_next [] = (λ h. next_end P, λ h. weak_end P')
  not_next (d ∷ s) = Iff.trans (weak_date P' d s) (Iff.trans (p s) (Iff.not (Iff.symm (next_date_lem P d s))))

  pub not_weak : (s : Series) → Next P' s ↔ (¬ Weak P s)
  not_weak [] = (λ h. absurd (next_end P' h), λ h. absurd (h (weak_end P)))
  not_weak (d ∷ s) = Iff.trans (next_date_lem P' d s) (Iff.trans (p s) (Iff.not (Iff.symm (weak_date P d s))))

  module _ (Q Q' : Series → Type 0) (q : (s : Series) → Q' s ↔ (¬ Q s)) (P? : (s : Series) → Dec (P s)) (Q? : (s : Series) → Dec (Q s)) where
    pub not_until : (s : Series) → Release P' Q' s ↔ (¬ Until P Q s)
    not_until [] = Iff.trans (release_end P' Q') (Iff.trans (q []) (Iff.not (Iff.symm (until_end P Q))))
    not_until (d ∷ s) =
        Iff.trans (release_date P' Q' d s (same? (p (d ∷ s)) (not? (P? (d ∷ s)))))
        (Iff.trans (Iff.and (q (d ∷ s)) (Iff.trans (or_iff (p (d ∷ s)) (not_until s)) (not_both (P? (d ∷ s)))))
        (Iff.trans neither (Iff.not (Iff.symm (until_date P Q d s)))))

    pub not_release : (s : Series) → Until P' Q' s ↔ (¬ Release P Q s)
    not_release [] = Iff.trans (until_end P' Q') (Iff.trans (q []) (Iff.not (Iff.symm (release_end P Q))))
    not_release (d ∷ s) =
        Iff.trans (until_date P' Q' d s)
        (Iff.trans (or_iff (q (d ∷ s)) (Iff.trans (Iff.and (p (d ∷ s)) (not_release s)) neither))
        (Iff.trans (not_both (Q? (d ∷ s))) (Iff.not (Iff.symm (release_date P Q d s (P? (d ∷ s)))))))
