-- The automaton of a rule, whose states are sets of formulas, accepts exactly the series to which the formula answers yes: once over the profile, and
-- for the two there are. Assumes nothing.
use Rattle.std.specs.Prelude.{ℕ, ◌+◌, ◌^◌, ◌≤◌, ◌<◌, ◌≡◌, refl, Bool, true, false, ◌↔◌, T, length, get_or}
use Rattle.std.proofs.Common.{zero-add, arith, subst, inl, inr, ⊎_elim, T_not}
use Rattle.std.proofs.Math.Logic.Iff
use mathlib.Core.List.{List, [], ◌∷◌}
use Rattle.std.specs.Int.Bits.{bit_and, bit_or}
use Rattle.std.proofs.Math.Dec.{not_T}
use Rattle.laws.specs.Decided.{eq_means}
use Rattle.laws.specs.Lists.{Some, All, every_iff, keep, keep_iff, distinct_iff, some_iff, all_from, all_at}
use Rattle.laws.specs.Masks.{has, bit, bit_means, has_none, has_or, has_one, apart_iff}
use Rattle.meaning.specs.Formula.{Formula as Tree, one, Series}
use Rattle.meaning.specs.Meaning.{holds_by, holds}
use Rattle.meaning.specs.Listed.{lists}
use Rattle.meaning.specs.Ending.{end_yes}
use Rattle.meaning.proofs.Holding.{end_iff}
use Rattle.meaning.proofs.Unrolling.{Unrolls}
use Rattle.meaning.specs.Dialect.{dialect, AnswersYes}
use Rattle.meaning.specs.Rest.{Rest}
use Rattle.meaning.proofs.DialectLaws.{rests, answers_rest}
use Rattle.meaning.specs.declared.Profile.{Profile}
use Rattle.meaning.specs.declared.Profile.TheVariants.{Finite, Last}
use Rattle.rule.specs.Numbering.{parts, formulas, number}
use Rattle.rule.proofs.TreesLaws.{parts_closed, whole_in}
use Rattle.rule.proofs.Ordering.{number_stands, formulas_in}
use Rattle.tables.specs.declared.Choice.{Choice}
use Rattle.tables.specs.Choices.{choices_of, members, put_off}
use Rattle.tables.specs.Tables.{consistent, same_choice, edges_of, edges, accepting, start}
use Rattle.tables.specs.EdgeLaws.{same_choice_means}
use Rattle.tables.specs.Members.{members_among, members_iff, members_none, members_or, members_one}
use Rattle.tables.specs.Fitting.{Allows, Fits, Sets, choices_of_iff}

allowed_consistent : (c : Choice) (d : ℕ) → Allows c d → T (consistent c)
allowed_consistent c d h =
    (eq_means (bit_and c.present c.absent) 0).1 ((apart_iff c.present c.absent).1 (λ k a p. h.1 k a (h.0 k p)))

-- what is left out loses nothing
pub edges_iff : (P : Choice → Type 0) (d : ℕ) → ((c : Choice) → P c → Allows c d) → (cs : List Choice) → Some P (edges_of cs) ↔ Some P cs
unfolding edges_of
edges_iff P d a cs =
    Iff.trans (distinct_iff P same_choice same_choice_means (keep consistent cs)) (keep_iff P consistent (λ c p. allowed_consistent c d (a c p)) cs)

-- ---- an automaton on dates

module _ (rows : ℕ → List Choice) (accepts : ℕ → Bool) where
  -- some way along edges that the dates allow ends in a state that accepts
  unfoldable pub AcceptsFrom : ℕ → Series → Type 0
  AcceptsFrom m [] = T (accepts m)
  AcceptsFrom m (d ∷ s) = Some (λ e. Allows e d × AcceptsFrom e.target s) (rows m)

  accepts_iff : (M : ℕ → Series → Type 0) → ((m : ℕ) → T (accepts m) ↔ M m [])
      → ((m d : ℕ) (s : Series) → M m (d ∷ s) ↔ Some (Fits M d s) (rows m))
      → (s : Series) (m : ℕ) → AcceptsFrom m s ↔ M m s
  unfolding AcceptsFrom
  accepts_iff M ends steps [] m = ends m
  accepts_iff M ends steps (d ∷ s) m =
      Iff.trans (some_iff (λ e. Iff.and Iff.rfl (accepts_iff M ends steps s e.target)) (rows m)) (Iff.symm (steps m d s))

-- ---- once over the profile: started at φ put off to a date that has to be there, the automaton says what φ says

module _ {means : Tree → Series → Type 0} {later : Bool → Tree → Series → Type 0} (U : Unrolls means later)
    {put : Bool → Tree → ℕ} {Within : Tree → Type 0} {M : ℕ → Series → Type 0} (S : Sets later put Within M)
    (φs : List Tree) (closed : All (λ φ. All Within (parts φ)) φs)
    (dates : (m d : ℕ) (s : Series) → M m (d ∷ s) ↔ All (λ φ. means φ (d ∷ s)) (members φs m))
    (accepts : ℕ → Bool) (ends : (m : ℕ) → T (accepts m) ↔ M m []) where
  abbrev rows : ℕ → List Choice
  rows m = edges_of (choices_of put (members φs m))

  pub state_accepts : (s : Series) (m : ℕ) → AcceptsFrom rows accepts m s ↔ M m s
  state_accepts =
      accepts_iff rows accepts M ends
      (λ m d s. Iff.trans (Iff.trans (dates m d s) (choices_of_iff U S d s (members φs m) (members_among (λ φ. All Within (parts φ)) m 0 φs closed)))
      (Iff.symm (edges_iff (Fits M d s) d (λ c f. f.0) (choices_of put (members φs m)))))

  pub agreement : (φ : Tree) → Within φ → (s : Series) → AcceptsFrom rows accepts (put true φ) s ↔ later true φ s
  agreement φ i s = Iff.trans (state_accepts s (put true φ)) (S.meets_put φ i true s)

-- ---- for the two profiles

module _ (number : Tree → ℕ) (φs : List Tree) where
  -- ψ stands at its own number
  abbrev AtNumber : Tree → Type 0
  AtNumber ψ = (number ψ < length φs) × (get_or φs (number ψ) one ≡ ψ)

  -- every member says yes to s; on dates alone, a set with the mark wants one
  abbrev pub Meets : Profile → ℕ → Series → Type 0
  Meets Finite m s = All (λ ψ. holds ψ s) (members φs m)
  Meets Last m [] = ¬ has m 63
  Meets Last m (d ∷ s) = All (λ ψ. lists ψ (d ∷ s)) (members φs m)

  meets_none : (π : Profile) (s : Series) → Meets π 0 s
  meets_none Finite s = members_none (λ ψ. holds ψ s) φs
  meets_none Last [] = has_none 63
  meets_none Last (d ∷ s) = members_none (λ ψ. lists ψ (d ∷ s)) φs

  meets_or : (π : Profile) (a b : ℕ) (s : Series) → Meets π (bit_or a b) s ↔ (Meets π a s × Meets π b s)
  meets_or Finite a b s = members_or (λ ψ. holds ψ s) a b φs
  meets_or Last a b [] = (
    λ h. (λ x. h ((has_or a b 63).1 (inl x)), λ x. h ((has_or a b 63).1 (inr x))),
    λ h x. ⊎_elim h.0 h.1 ((has_or a b 63).0 x),
  )
  meets_or Last a b (d ∷ s) = members_or (λ ψ. lists ψ (d ∷ s)) a b φs

  -- a member alone, on a series with a date
  one_iff : (P : Tree → Type 0) (ψ : Tree) → AtNumber ψ → All P (members φs (2 ^ number ψ)) ↔ P ψ
  one_iff P ψ i = subst (λ (χ : Tree). All P (members φs (2 ^ number ψ)) ↔ P χ) i.1 (members_one P (number ψ) φs i.0)

  -- the mark wants a date, and nothing else
  marked : (π : Profile) → length φs ≤ (dialect π).most → (d : ℕ) (s : Series) → Meets π (dialect π).mark (d ∷ s)
  marked Finite few d s = meets_none Finite (d ∷ s)
  marked Last few d s =
      (members_iff (λ ψ. lists ψ (d ∷ s)) (2 ^ 63) 0 φs).1 (λ i l x. absurd (omega (arith, (has_one 63 (0 + i)).0 x, zero-add i)))

  alone_iff : (π : Profile) → length φs ≤ (dialect π).most → (ψ : Tree) → AtNumber ψ → (s : Series) → Meets π (2 ^ number ψ) s ↔ Rest π false ψ s
  alone_iff Finite few ψ i s = one_iff (λ χ. holds χ s) ψ i
  alone_iff Last few ψ i [] = (λ h. tt, λ h x. omega (arith, (has_one (number ψ) 63).0 x, i.0, few))
  alone_iff Last few ψ i (d ∷ s) = one_iff (λ χ. lists χ (d ∷ s)) ψ i

  put_iff : (π : Profile) → length φs ≤ (dialect π).most → (ψ : Tree) → AtNumber ψ → (must : Bool) (s : Series)
      → Meets π (put_off π number must ψ) s ↔ Rest π must ψ s
  put_iff Finite few ψ i true s =
      Iff.trans (meets_or Finite (2 ^ number ψ) 0 s)
      (λ h. (alone_iff Finite few ψ i s).0 h.0, λ h. ((alone_iff Finite few ψ i s).1 h, meets_none Finite s))
  put_iff Finite few ψ i false s = alone_iff Finite few ψ i s
  put_iff Last few ψ i true [] = (λ h. h ((has_or (2 ^ number ψ) (2 ^ 63) 63).1 (inr ((has_one 63 63).1 refl))), λ h. absurd h)
  put_iff Last few ψ i true (d ∷ s) =
      Iff.trans (meets_or Last (2 ^ number ψ) (2 ^ 63) (d ∷ s))
      (λ h. (alone_iff Last few ψ i (d ∷ s)).0 h.0, λ h. ((alone_iff Last few ψ i (d ∷ s)).1 h, marked Last few d s))
  put_iff Last few ψ i false [] = alone_iff Last few ψ i []
  put_iff Last few ψ i false (d ∷ s) = alone_iff Last few ψ i (d ∷ s)

  sets : (π : Profile) → length φs ≤ (dialect π).most → Sets (Rest π) (put_off π number) AtNumber (Meets π)
  sets π few = record { meets_none = meets_none π; meets_or = meets_or π; meets_put = put_iff π few }

  meets_date : (π : Profile) (m d : ℕ) (s : Series) → Meets π m (d ∷ s) ↔ All (λ ψ. holds_by (dialect π).clauses ψ (d ∷ s)) (members φs m)
  meets_date Finite m d s = Iff.rfl
  meets_date Last m d s = Iff.rfl

  pub meets_end : (π : Profile) (m : ℕ) → T ((dialect π).accepts m (members φs m)) ↔ Meets π m []
  meets_end Finite m = every_iff (λ ψ. holds ψ []) end_yes end_iff (members φs m)
  meets_end Last m = (λ t x. T_not (bit m 63) t ((bit_means m 63).1 x), λ h. not_T (bit m 63) (λ t. h ((bit_means m 63).0 t)))

module _ (π : Profile) (φ : Tree) (few : length (formulas φ) ≤ (dialect π).most) where
  numbered : All (λ ψ. All (AtNumber (number φ) (formulas φ)) (parts ψ)) (formulas φ)
  numbered =
      all_from (λ ψ. All (AtNumber (number φ) (formulas φ)) (parts ψ)) (formulas φ)
      (λ ψ h. all_at (λ χ. All (AtNumber (number φ) (formulas φ)) (parts χ)) (parts φ)
      (parts_closed (AtNumber (number φ) (formulas φ)) φ (all_from (AtNumber (number φ) (formulas φ)) (parts φ) (number_stands φ))) ψ ((formulas_in φ ψ).0 h))

  -- from the set of the whole formula, the rule's automaton accepts exactly the series to which the formula answers yes
  pub start_accepts : (s : Series) → AcceptsFrom (edges π φ) (accepting π φ) (start π φ) s ↔ AnswersYes π φ s
  start_accepts s =
      Iff.trans (agreement (rests π) (sets (number φ) (formulas φ) π few) (formulas φ) numbered (meets_date (number φ) (formulas φ) π) (accepting π φ)
      (meets_end (number φ) (formulas φ) π) φ (number_stands φ φ (whole_in φ)) s)
      (Iff.symm (answers_rest π φ s))
