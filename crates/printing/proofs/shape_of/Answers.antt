use Rattle.std.specs.Prelude.{◌≡◌}
use Rattle.std.proofs.Common.{rules, refl, sym, ap, ◌∙◌, arith}
use Rattle.meaning.specs.Formula.{and, or, next, weak}
use Rattle.rule.specs.Numbering.{formula_at}
use Rattle.rule.specs.declared.FormulaNo.{FormulaNo}
use Rattle.rule.specs.declared.Formula.TheVariants.{True, False}
use Rattle.reading.specs.Grammar.{flag, one, zero, Prefix as Leading, Binary as Sign}
use Rattle.printing.specs.Text.{written_as}
use Rattle.printing.proofs.Shaping.{read_off, shape_is, led, joined_by, and_joint, or_joint, until_joint, release_joint, finally_shaped, until_shaped, globally_shaped, release_shaped}
use Rattle.printing.proofs.shape_of.Goals as goal

pub overflow_add-result : goal.overflow_add-result
overflow_add-result c = omega (arith, (read_off _ _ _ c.requires (sym c.formula_at-formula.ensures ∙ c.in-Flag.is)).1.0)

pub overflow_add-result-in-NotFlag : goal.overflow_add-result-in-NotFlag
overflow_add-result-in-NotFlag c = omega (arith, (read_off _ _ _ c.requires (sym c.formula_at-formula.ensures ∙ c.in-NotFlag.is)).1.0)

pub formula_at-requires : goal.formula_at-requires
formula_at-requires c =
    omega (arith, c.requires.few, (read_off _ _ _ c.requires (sym c.formula_at-formula.ensures ∙ c.in-Until.is)).1.left_below)

pub formula_at-requires-in-Release-1 : goal.formula_at-requires-in-Release-1
formula_at-requires-in-Release-1 c =
    omega (arith, c.requires.few, (read_off _ _ _ c.requires (sym c.formula_at-formula.ensures ∙ c.in-Release.is)).1.left_below)

pub returns-in-Flag : goal.returns-in-Flag
returns-in-Flag c = shape_is _ _ _ _ (sym c.formula_at-formula.ensures ∙ c.in-Flag.is) (λ φ x. record { lone = flag _; written = ap written_as x.1; byte = refl })

pub returns-in-NotFlag : goal.returns-in-NotFlag
returns-in-NotFlag c = shape_is _ _ _ _ (sym c.formula_at-formula.ensures ∙ c.in-NotFlag.is) (λ φ x. record { lone = flag _; written = ap written_as x.1; byte = refl })

pub returns-in-True : goal.returns-in-True
returns-in-True c = shape_is _ _ _ _ (sym c.formula_at-formula.ensures ∙ c.in-True.is) (λ φ x. record { lone = one; written = ap written_as x; byte = refl })

pub returns-in-False : goal.returns-in-False
returns-in-False c = shape_is _ _ _ _ (sym c.formula_at-formula.ensures ∙ c.in-False.is) (λ φ x. record { lone = zero; written = ap written_as x; byte = refl })

pub returns-in-And : goal.returns-in-And
returns-in-And c = shape_is _ _ _ _ (sym c.formula_at-formula.ensures ∙ c.in-And.is) (λ φ x. joined_by _ _ φ _ _ and x Sign.and _ and_joint refl)

pub returns-in-Or : goal.returns-in-Or
returns-in-Or c = shape_is _ _ _ _ (sym c.formula_at-formula.ensures ∙ c.in-Or.is) (λ φ x. joined_by _ _ φ _ _ or x Sign.or _ or_joint refl)

pub returns-in-Next : goal.returns-in-Next
returns-in-Next c = shape_is _ _ _ _ (sym c.formula_at-formula.ensures ∙ c.in-Next.is) (λ φ x. led _ _ Leading.next next 88 refl (λ p. refl) φ _ x)

pub returns-in-WeakNext : goal.returns-in-WeakNext
returns-in-WeakNext c = shape_is _ _ _ _ (sym c.formula_at-formula.ensures ∙ c.in-WeakNext.is) (λ φ x. led _ _ Leading.weak weak 78 refl (λ p. refl) φ _ x)

pub returns-in-Until : goal.returns-in-Until
returns-in-Until c =
    let first : formula_at c.args.rule.now.entries c.in-Until.p.0 ≡ True = search rules in
    shape_is _ _ _ _ (sym c.formula_at-formula.ensures ∙ c.in-Until.is) (λ φ x. finally_shaped _ _ φ _ _ first x)

pub returns-in-Until-2 : goal.returns-in-Until-2
returns-in-Until-2 c =
    let first : ¬ (formula_at c.args.rule.now.entries c.in-Until.p.0 ≡ True) = search rules in
    let same : c.in-Until-2.p ≡ c.in-Until.p = cc in
    shape_is _ _ _ _ (sym c.formula_at-formula.ensures ∙ c.in-Until-2.is)
    (λ φ x. until_shaped _ _ φ _ _ _ until_joint (λ e. first (ap (λ (i : FormulaNo). formula_at c.args.rule.now.entries i.0) (sym same) ∙ e)) x)

pub returns-in-Release : goal.returns-in-Release
returns-in-Release c =
    let first : formula_at c.args.rule.now.entries c.in-Release.p.0 ≡ False = search rules in
    shape_is _ _ _ _ (sym c.formula_at-formula.ensures ∙ c.in-Release.is) (λ φ x. globally_shaped _ _ φ _ _ first x)

pub returns-in-Release-2 : goal.returns-in-Release-2
returns-in-Release-2 c =
    let first : ¬ (formula_at c.args.rule.now.entries c.in-Release.p.0 ≡ False) = search rules in
    let same : c.in-Release-2.p ≡ c.in-Release.p = cc in
    shape_is _ _ _ _ (sym c.formula_at-formula.ensures ∙ c.in-Release-2.is)
    (λ φ x. release_shaped _ _ φ _ _ _ release_joint (λ e. first (ap (λ (i : FormulaNo). formula_at c.args.rule.now.entries i.0) (sym same) ∙ e)) x)
