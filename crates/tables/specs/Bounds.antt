-- A choice's sets keep to their widths: the flags to those of a date, the target to the formulas of the rule and the mark. Assumes nothing.
use Rattle.std.specs.Prelude.{ℕ, ◌^◌, ◌<◌, ◌≡◌, Bool, ◌⊎◌, length}
use Rattle.std.proofs.Math.Path.{refl, subst⁻¹}
use Rattle.std.proofs.Common.{subst, inl, inr, ⊎_elim, pow_pos}
use Rattle.std.proofs.Math.Bool.{true, false}
use mathlib.Core.List.{List, [], ◌∷◌, map}
use Rattle.std.specs.Int.Bits.{bit_or}
use Rattle.std.proofs.lemmas.Nat.{or_lt}
use Rattle.std.proofs.Math.Pow.{pow-lt}
use Rattle.laws.specs.Lists.{All, all_to, all_at, all_from, all_append, all_map, keep, all_keep, all_distinct}
use Rattle.laws.specs.Masks.{has, has_none, has_or, has_one}
use Rattle.meaning.specs.Flags.{flags}
use Rattle.meaning.specs.Formula.{Formula as Tree, flag, not_flag, one, zero, and, or, next, weak, until, release}
use Rattle.meaning.specs.Dialect.{dialect}
use Rattle.meaning.specs.declared.Profile.{Profile}
use Rattle.rule.specs.Numbering.{parts, formulas, number, KnownFlag, Numbers}
use Rattle.rule.proofs.TreesLaws.{all_parts, all_under, parts_closed, whole_in}
use Rattle.rule.proofs.Ordering.{number_stands, formulas_in}
use Rattle.rule.specs.declared.Rule.{Rule}
use Rattle.tables.specs.declared.Choice.{Choice}
use Rattle.tables.specs.Choices.{choice, free, join, both, only, choices, choices_of, put_off, members, state_choices}
use Rattle.tables.specs.Tables.{consistent, same_choice, edges_of, edges, start}
use Rattle.tables.specs.Members.{members_among}

-- the flags are among the w that a date has
pub record Bounded (w : ℕ) (c : Choice) : Type 0 where
  pub present_below : c.present < 2 ^ w
  pub absent_below : c.absent < 2 ^ w

-- ---- what the empty choice has, and joining keeps, all choices have of a formula whose own have it

module _ (B : Choice → Type 0) (B-free : B free) (B-join : (c e : Choice) → B c → B e → B (join c e)) where
  both_all : (cs es : List Choice) → All B cs → All B es → All B (both cs es)
  both_all [] es b f = tt
  both_all (c ∷ cs) es b f =
      (all_append B (map (join c) es) (both cs es)).1 ((all_map B (join c) es).1 (all_to (λ e x. B-join c e b.0 x) es f), both_all cs es b.1 f)

  module _ (put : Bool → Tree → ℕ) where
    -- what the formula itself brings into a choice: its flag, or itself put off
    abbrev Fitting : Tree → Type 0
    Fitting φ = ((k : ℕ) → φ ≡ flag k → B (choice (2 ^ k) 0 0)) × ((k : ℕ) → φ ≡ not_flag k → B (choice 0 (2 ^ k) 0)) × ((must : Bool) → B (choice 0 0 (put must φ)))

    put_all : (must : Bool) (φ : Tree) → All Fitting (parts φ) → All B (only (choice 0 0 (put must φ)))
    put_all must φ h = ((all_parts Fitting φ h).1.2 must, tt)

    choices_all : (φ : Tree) → All Fitting (parts φ) → All B (choices put φ)
    unfolding choices
    choices_all (flag k) h = (h.0.0 k refl, tt)
    choices_all (not_flag k) h = (h.0.1 k refl, tt)
    choices_all one h = (B-free, tt)
    choices_all zero h = tt
    choices_all (and p q) h =
        let j = all_under Fitting (and p q) h in both_all (choices put p) (choices put q) (choices_all p j.0) (choices_all q j.1)
    choices_all (or p q) h =
        let j = all_under Fitting (or p q) h in (all_append B (choices put p) (choices put q)).1 (choices_all p j.0, choices_all q j.1)
    choices_all (next p) h = put_all true p (all_under Fitting (next p) h)
    choices_all (weak p) h = put_all false p (all_under Fitting (weak p) h)
    choices_all (until p q) h =
        let j = all_under Fitting (until p q) h in
        (all_append B (choices put q) _).1 (choices_all q j.1, both_all (choices put p) _ (choices_all p j.0) (put_all true (until p q) h))
    choices_all (release p q) h =
        let j = all_under Fitting (release p q) h in
        both_all (choices put q) _ (choices_all q j.1) ((all_append B (choices put p) _).1 (choices_all p j.0, put_all false (release p q) h))

    choices_of_all : (φs : List Tree) → All (λ φ. All Fitting (parts φ)) φs → All B (choices_of put φs)
    unfolding choices_of
    choices_of_all [] h = (B-free, tt)
    choices_of_all (φ ∷ φs) h = both_all (choices put φ) (choices_of put φs) (choices_all φ h.0) (choices_of_all φs h.1)

edges_all : (B : Choice → Type 0) (cs : List Choice) → All B cs → All B (edges_of cs)
unfolding edges_of
edges_all B cs h = all_distinct B same_choice (keep consistent cs) (all_keep B consistent cs h)

-- ---- in a rule

-- the set m has numbers of formulas of φ, and the mark, only
abbrev pub Own : Profile → Tree → ℕ → Type 0
Own π φ m = (k : ℕ) → has m k → (k < length (formulas φ)) ⊎ has (dialect π).mark k

own_or : (π : Profile) (φ : Tree) (a b : ℕ) → Own π φ a → Own π φ b → Own π φ (bit_or a b)
own_or π φ a b f g k h = ⊎_elim (f k) (g k) ((has_or a b k).0 h)

own_one : (π : Profile) (φ ψ : Tree) → number φ ψ < length (formulas φ) → Own π φ (2 ^ number φ ψ)
own_one π φ ψ l k h = inl (subst⁻¹ (λ (x : ℕ). x < length (formulas φ)) ((has_one (number φ ψ) k).0 h) l)

own_put : (π : Profile) (φ ψ : Tree) → number φ ψ < length (formulas φ) → (must : Bool) → Own π φ (put_off π (number φ) must ψ)
own_put π φ ψ l true = own_or π φ (2 ^ number φ ψ) (dialect π).mark (own_one π φ ψ l) (λ k h. inr h)
own_put π φ ψ l false = own_one π φ ψ l

module _ (rule : Rule) (φ : Tree) (num : Numbers rule φ) where
  abbrev Fair : Choice → Type 0
  Fair c = Bounded flags c × Own rule.profile φ c.target

  none_own : Own rule.profile φ 0
  none_own k h = absurd (has_none k h)

  fair_free : Fair free
  fair_free = (record { present_below = pow_pos flags; absent_below = pow_pos flags }, none_own)

  fair_join : (c e : Choice) → Fair c → Fair e → Fair (join c e)
  fair_join c e (b, f) (d, g) = (
    record {
      present_below = or_lt flags c.present e.present b.present_below d.present_below;
      absent_below = or_lt flags c.absent e.absent b.absent_below d.absent_below;
    },
    own_or rule.profile φ c.target e.target f g,
  )

  abbrev Fits : Tree → Type 0
  Fits = Fitting Fair fair_free fair_join (put_off rule.profile (number φ))

  parts_fit : All Fits (parts φ)
  parts_fit = all_from Fits (parts φ) (λ ψ h.
      let known = all_at (KnownFlag flags) (parts φ) num.fits.known ψ h in (
        λ k e. (record { present_below = pow-lt (subst (KnownFlag flags) e known); absent_below = pow_pos flags }, none_own),
        λ k e. (record { present_below = pow_pos flags; absent_below = pow-lt (subst (KnownFlag flags) e known) }, none_own),
        λ must. (record { present_below = pow_pos flags; absent_below = pow_pos flags }, own_put rule.profile φ ψ (number_stands φ ψ h).0 must),
      ))

  choices_fair : (m : ℕ) → All Fair (state_choices rule.profile φ m)
  choices_fair m =
      choices_of_all Fair fair_free fair_join (put_off rule.profile (number φ)) (members (formulas φ) m)
      (members_among (λ ψ. All Fits (parts ψ)) m 0 (formulas φ)
      (all_from (λ ψ. All Fits (parts ψ)) (formulas φ)
      (λ ψ h. all_at (λ ψ. All Fits (parts ψ)) (parts φ) (parts_closed Fits φ parts_fit) ψ ((formulas_in φ ψ).0 h))))

  pub choices_within : (m : ℕ) → All (Bounded flags) (state_choices rule.profile φ m)
  choices_within m = all_to (λ c h. h.0) (state_choices rule.profile φ m) (choices_fair m)

  pub edges_within : (m : ℕ) → All (Bounded flags) (edges rule.profile φ m)
  edges_within m = edges_all (Bounded flags) (state_choices rule.profile φ m) (choices_within m)

  pub targets_own : (m : ℕ) → All (λ (c : Choice). Own rule.profile φ c.target) (edges rule.profile φ m)
  targets_own m =
      edges_all (λ (c : Choice). Own rule.profile φ c.target) (state_choices rule.profile φ m)
      (all_to (λ c h. h.1) (state_choices rule.profile φ m) (choices_fair m))

  pub start_own : Own rule.profile φ (start rule.profile φ)
  start_own = own_put rule.profile φ φ (number_stands φ φ (whole_in φ)).0 true
