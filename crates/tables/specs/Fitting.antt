-- A formula, or a state, holds at a date exactly when one of its choices fits: over the profile. Assumes nothing.
use Rattle.std.specs.Prelude.{ℕ, ◌^◌, refl, Bool, ◌↔◌}
use Rattle.std.proofs.Common.{sym, subst, inr, ⊎_elim}
use Rattle.std.proofs.Math.Bool.{true, false}
use Rattle.std.proofs.Math.Logic.{inl}
use Rattle.std.proofs.Math.Logic.Iff
use mathlib.Core.List.{List, [], ◌∷◌, ◌++◌, map}
use Rattle.std.specs.Int.Bits.{bit_or}
use Rattle.laws.specs.Decided.{or_iff}
use Rattle.laws.specs.Lists.{Some, All, some_iff, some_only, some_append, some_map, some_beside}
use Rattle.laws.specs.Masks.{has, has_none, has_or, has_one}
use Rattle.meaning.specs.Formula.{Formula as Tree, flag, not_flag, one, zero, and, or, next, weak, until, release, Series}
use Rattle.meaning.proofs.Unrolling.{Unrolls}
use Rattle.rule.specs.Numbering.{parts}
use Rattle.rule.proofs.TreesLaws.{all_parts, all_under}
use Rattle.tables.specs.declared.Choice.{Choice}
use Rattle.tables.specs.Choices.{choice, join, both, only, choices, choices_of}

-- d has the flags that must be present, and none that must be absent
abbrev pub Allows : Choice → ℕ → Type 0
Allows c d = ((k : ℕ) → has c.present k → has d k) × ((k : ℕ) → has c.absent k → ¬ has d k)

-- `Meets m s`: what is in the set m holds of s
abbrev pub Fits : (ℕ → Series → Type 0) → ℕ → Series → Choice → Type 0
Fits Meets d s c = Allows c d × Meets c.target s

allows_free : (d t : ℕ) → Allows (choice 0 0 t) d
allows_free d t = (λ k h. absurd (has_none k h), λ k h. absurd (has_none k h))

allows_join : (d : ℕ) (c e : Choice) → Allows (join c e) d ↔ (Allows c d × Allows e d)
allows_join d c e = (
  λ h. (
    (λ k x. h.0 k ((has_or c.present e.present k).1 (inl x)), λ k x. h.1 k ((has_or c.absent e.absent k).1 (inl x))),
    (λ k x. h.0 k ((has_or c.present e.present k).1 (inr x)), λ k x. h.1 k ((has_or c.absent e.absent k).1 (inr x))),
  ),
  λ h. (
    λ k x. ⊎_elim (h.0.0 k) (h.1.0 k) ((has_or c.present e.present k).0 x),
    λ k x. ⊎_elim (h.0.1 k) (h.1.1 k) ((has_or c.absent e.absent k).0 x),
  ),
)

allows_flag : (d k : ℕ) → Allows (choice (2 ^ k) 0 0) d ↔ has d k
allows_flag d k = (
  λ h. h.0 k ((has_one k k).1 refl),
  λ h. (λ j x. subst (has d) (sym ((has_one k j).0 x)) h, λ j x. absurd (has_none j x)),
)

allows_not_flag : (d k : ℕ) → Allows (choice 0 (2 ^ k) 0) d ↔ (¬ has d k)
allows_not_flag d k = (
  λ h. h.1 k ((has_one k k).1 refl),
  λ h. (λ j x. absurd (has_none j x), λ j x. subst (λ (i : ℕ). ¬ has d i) (sym ((has_one k j).0 x)) h),
)

-- joining is `and` where it is so for two choices
some_both : (F : Choice → Type 0) → ((c e : Choice) → F (join c e) ↔ (F c × F e)) → (cs es : List Choice) → Some F (both cs es) ↔ (Some F cs × Some F es)
some_both F j [] es = (λ h. absurd h, λ h. h.0)
some_both F j (c ∷ cs) es =
    Iff.trans (some_append F (map (join c) es) (both cs es))
    (Iff.trans (or_iff (Iff.trans (some_map F (join c) es) (Iff.trans (some_iff (j c) es) (some_beside F (F c) es))) (some_both F j cs es))
    (⊎_elim (λ h. (inl h.0, h.1)) (λ h. (inr h.0, h.1)), λ h. ⊎_elim (λ x. inl (x, h.1)) (λ x. inr (x, h.1)) h.0))

-- what the tables need of a set's meaning: `In φ` where φ has a number of its own
pub record Sets (later : Bool → Tree → Series → Type 0) (put : Bool → Tree → ℕ) (In : Tree → Type 0) (Meets : ℕ → Series → Type 0) : Type 0 where
  pub meets_none : (s : Series) → Meets 0 s
  pub meets_or : (a b : ℕ) (s : Series) → Meets (bit_or a b) s ↔ (Meets a s × Meets b s)
  pub meets_put : (φ : Tree) → In φ → (must : Bool) (s : Series) → Meets (put must φ) s ↔ later must φ s

module _ {means : Tree → Series → Type 0} {later : Bool → Tree → Series → Type 0} (U : Unrolls means later)
    {put : Bool → Tree → ℕ} {In : Tree → Type 0} {Meets : ℕ → Series → Type 0} (M : Sets later put In Meets)
    (d : ℕ) (s : Series) where
  fits_join : (c e : Choice) → Fits Meets d s (join c e) ↔ (Fits Meets d s c × Fits Meets d s e)
  fits_join c e =
      Iff.trans (Iff.and (allows_join d c e) (M.meets_or c.target e.target s))
      (λ h. ((h.0.0, h.1.0), (h.0.1, h.1.1)), λ h. ((h.0.0, h.1.0), (h.0.1, h.1.1)))

  fits_put : (φ : Tree) → In φ → (must : Bool) → Some (Fits Meets d s) (only (choice 0 0 (put must φ))) ↔ later must φ s
  fits_put φ i must =
      Iff.trans (some_only (Fits Meets d s) (choice 0 0 (put must φ)))
      (λ h. (M.meets_put φ i must s).0 h.1, λ h. (allows_free d (put must φ), (M.meets_put φ i must s).1 h))

  fits_no_target : (p a : ℕ) → Some (Fits Meets d s) (only (choice p a 0)) ↔ Allows (choice p a 0) d
  fits_no_target p a = Iff.trans (some_only (Fits Meets d s) (choice p a 0)) (λ h. h.0, λ h. (h, M.meets_none s))

  -- a formula holds on d and the rest exactly when some choice of it fits
  pub choices_iff : (φ : Tree) → All In (parts φ) → means φ (d ∷ s) ↔ Some (Fits Meets d s) (choices put φ)
  unfolding choices
  choices_iff (flag k) i = Iff.trans (U.at_flag k d s) (Iff.symm (Iff.trans (fits_no_target (2 ^ k) 0) (allows_flag d k)))
  choices_iff (not_flag k) i = Iff.trans (U.at_not_flag k d s) (Iff.symm (Iff.trans (fits_no_target 0 (2 ^ k)) (allows_not_flag d k)))
  choices_iff one i = (λ h. inl (allows_free d 0, M.meets_none s), λ h. U.at_one d s)
  choices_iff zero i = (U.at_zero d s, λ h. absurd h)
  choices_iff (and p q) i =
      let j = all_under In (and p q) i in
      Iff.trans (U.at_and p q d s)
      (Iff.trans (Iff.and (choices_iff p j.0) (choices_iff q j.1))
      (Iff.symm (some_both (Fits Meets d s) fits_join (choices put p) (choices put q))))
  choices_iff (or p q) i =
      let j = all_under In (or p q) i in
      Iff.trans (U.at_or p q d s)
      (Iff.trans (or_iff (choices_iff p j.0) (choices_iff q j.1))
      (Iff.symm (some_append (Fits Meets d s) (choices put p) (choices put q))))
  choices_iff (next p) i =
      Iff.trans (U.at_next p d s) (Iff.symm (fits_put p (all_parts In p (all_under In (next p) i)).1 true))
  choices_iff (weak p) i =
      Iff.trans (U.at_weak p d s) (Iff.symm (fits_put p (all_parts In p (all_under In (weak p) i)).1 false))
  choices_iff (until p q) i =
      let j = all_under In (until p q) i in
      let this = only (choice 0 0 (put true (until p q))) in
      Iff.trans (U.at_until p q d s)
      (Iff.trans (or_iff (choices_iff q j.1)
      (Iff.trans (Iff.and (choices_iff p j.0) (Iff.symm (fits_put (until p q) (all_parts In (until p q) i).1 true)))
      (Iff.symm (some_both (Fits Meets d s) fits_join (choices put p) this))))
      (Iff.symm (some_append (Fits Meets d s) (choices put q) (both (choices put p) this))))
  choices_iff (release p q) i =
      let j = all_under In (release p q) i in
      let this = only (choice 0 0 (put false (release p q))) in
      Iff.trans (U.at_release p q d s)
      (Iff.trans (Iff.and (choices_iff q j.1)
      (Iff.trans (or_iff (choices_iff p j.0) (Iff.symm (fits_put (release p q) (all_parts In (release p q) i).1 false)))
      (Iff.symm (some_append (Fits Meets d s) (choices put p) this))))
      (Iff.symm (some_both (Fits Meets d s) fits_join (choices put q) (choices put p ++ this))))

  -- the same for several formulas
  pub choices_of_iff : (φs : List Tree) → All (λ φ. All In (parts φ)) φs → All (λ φ. means φ (d ∷ s)) φs ↔ Some (Fits Meets d s) (choices_of put φs)
  unfolding choices_of
  choices_of_iff [] i = (λ h. inl (allows_free d 0, M.meets_none s), λ h. tt)
  choices_of_iff (φ ∷ φs) i =
      Iff.trans (Iff.and (choices_iff φ i.0) (choices_of_iff φs i.1))
      (Iff.symm (some_both (Fits Meets d s) fits_join (choices put φ) (choices_of put φs)))
