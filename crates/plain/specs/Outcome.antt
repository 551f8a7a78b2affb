-- The plain judge's statement admits one answer only, and says which by the rule's formula and by the tree of its text. Assumes nothing.
use Rattle.std.specs.Prelude.{ℕ, ◌≡◌, [], ◌∷◌, Bool, true, false, ◌↔◌, Result, Ok, Err}
use Rattle.std.proofs.Common.{zero-le, suc-le-suc, arith, sym, ◌∙◌, subst}
use Rattle.std.proofs.Math.Path.{refl, subst⁻¹}
use Rattle.std.proofs.Math.Logic.Iff
use Rattle.answers.specs.Answers.{gives, refuses}
use Rattle.answers.specs.Refusals.{outcome}
use Rattle.answers.specs.Laws.Outcomes.{outcome_one}
use Rattle.answers.specs.Laws.Told.{outcome_told}
use Rattle.answers.specs.declared.Refusal.{Refusal}
use Rattle.answers.specs.declared.Refusal.TheVariants.{NotARule}
use Rattle.meaning.specs.Formula.{Formula as Tree, one, zero, Series}
use Rattle.meaning.specs.Syntax.{Syntax, nnf}
use Rattle.meaning.specs.Dialect.{AnswersYes, TextAnswersYes}
use Rattle.meaning.proofs.ListedReadings.{none_no}
use Rattle.meaning.proofs.DialectLaws.{nnf_answers}
use Rattle.meaning.specs.declared.Profile.{Profile}
use Rattle.meaning.specs.declared.Profile.TheVariants.{Finite, Last}
use Rattle.rule.specs.Numbering.{Numbers, IsRule, numbering}
use Rattle.rule.proofs.ListingLaws.{rule_one, rule_some, numbers_one, numbers_zero}
use Rattle.rule.specs.declared.Rule.{Rule}
use Rattle.plain.specs.Judging.{Judging, Right}

module _ (rule : Rule) (s : Series) where
  -- what holds of one formula that the rule numbers holds of another
  same : (φ ψ : Tree) → Numbers rule φ → Numbers rule ψ → AnswersYes rule.profile φ s → AnswersYes rule.profile ψ s
  same φ ψ m n h = subst (λ χ. AnswersYes rule.profile χ s) (rule_one rule φ ψ m n) h

  values : (u v : Unit {0}) (a b : Bool) → Right rule s (gives a) → Right rule s (gives b) → (a ≡ b) × (u ≡ v)
  values u v true true x y = (refl, refl)
  values u v true false (φ, m, h) (ψ, n, k) = absurd (k (same φ ψ m n h))
  values u v false true (φ, m, h) (ψ, n, k) = absurd (h (same ψ φ n m k))
  values u v false false x y = (refl, refl)

  apart : (u v : Unit {0}) (a : Bool) (n : ℕ) (l : Unit {0}) → Right rule s (gives a) → Right rule s (refuses n l) → ⊥
  apart u v true n l (φ, m, h) (e, k) = k (φ, m)
  apart u v false n l (φ, m, h) (e, k) = k (φ, m)

  -- one outcome only
  pub judging_one : (a b : Result Bool Refusal) → Judging rule s a → Judging rule s b → a ≡ b
  judging_one a b x y = outcome_told a b
      (outcome_one (λ u. Right rule s) values (λ u v m n k l x y. (x.0 ∙ sym y.0, refl, refl)) apart tt tt (outcome a) (outcome b) x.right y.right).0

  -- ---- which outcome

  pub judging_yes : (φ : Tree) → Numbers rule φ → (r : Result Bool Refusal) → Judging rule s r → (r ≡ Ok true) ↔ AnswersYes rule.profile φ s
  judging_yes φ n r x = (told r x, λ h. judging_one r (Ok true) x (record { right = (φ, n, h) }))
    where
      told : (r : Result Bool Refusal) → Judging rule s r → r ≡ Ok true → AnswersYes rule.profile φ s
      told r x e = let (ψ, m, h) = (subst (Judging rule s) e x).right in same ψ φ m n h

  pub judging_no : (φ : Tree) → Numbers rule φ → (r : Result Bool Refusal) → Judging rule s r → (r ≡ Ok false) ↔ (¬ AnswersYes rule.profile φ s)
  judging_no φ n r x = (told r x, λ h. judging_one r (Ok false) x (record { right = (φ, n, h) }))
    where
      told : (r : Result Bool Refusal) → Judging rule s r → r ≡ Ok false → ¬ AnswersYes rule.profile φ s
      told r x e k = let (ψ, m, h) = (subst (Judging rule s) e x).right in h (same φ ψ n m k)

  pub judging_refused : (r : Result Bool Refusal) → Judging rule s r → (r ≡ Err NotARule) ↔ (¬ IsRule rule)
  judging_refused r x = (λ e. (subst (Judging rule s) e x).right.1, λ h. judging_one r (Err NotARule) x (record { right = (refl, h) }))

  -- of a rule that is read from a text: yes exactly when the text's tree, as it is written, answers yes
  pub judging_text : (p : Syntax) → Numbers rule (nnf p) → (r : Result Bool Refusal) → Judging rule s r → ((r ≡ Ok true) ↔ TextAnswersYes rule.profile p s) × ((r ≡ Ok false) ↔ (¬ TextAnswersYes rule.profile p s))
  judging_text p n r x = (
    Iff.trans (judging_yes (nnf p) n r x) (Iff.symm (nnf_answers rule.profile p s)),
    Iff.trans (judging_no (nnf p) n r x) (Iff.not (Iff.symm (nnf_answers rule.profile p s))),
  )

-- ---- no judge gives one answer always: where there is a date, under finite also where there is none, the rule of 1 has yes only; that of 0 has no only,
-- and a rule of no formulas is refused only

one_at_a_date : (π : Profile) (d : ℕ) (s : Series) → AnswersYes π one (d ∷ s)
one_at_a_date Finite d s = tt
one_at_a_date Last d s = (suc-le-suc zero-le, tt)

zero_never : (π : Profile) (s : Series) → ¬ AnswersYes π zero s
zero_never Finite s h = h
zero_never Last s h = h.1

module _ (s : Series) (r : Result Bool Refusal) where
  pub one_yes : Judging (numbering Finite one) s r → r ≡ Ok true
  unfolding numbering
  one_yes x = (judging_yes (numbering Finite one) s one (numbers_one Finite) r x).1 tt

  pub one_yes_date : (π : Profile) (d : ℕ) → Judging (numbering π one) (d ∷ s) r → r ≡ Ok true
  unfolding numbering
  one_yes_date π d x = (judging_yes (numbering π one) (d ∷ s) one (numbers_one π) r x).1 (one_at_a_date π d s)

  pub zero_no : (π : Profile) → Judging (numbering π zero) s r → r ≡ Ok false
  unfolding numbering
  zero_no π x = (judging_no (numbering π zero) s zero (numbers_zero π) r x).1 (zero_never π s)

  pub none_refused : (rule : Rule) → rule.count ≡ 0 → Judging rule s r → r ≡ Err NotARule
  none_refused rule e x = (judging_refused rule s r x).1 (λ h. omega (arith, rule_some rule h.0 h.1))

-- under the profile that looks at dates, no rule says yes to no dates
pub last_none : (rule : Rule) → IsRule rule → rule.profile ≡ Last → (r : Result Bool Refusal) → Judging rule [] r → r ≡ Ok false
last_none rule (φ, n) e r x = (judging_no rule [] φ n r x).1 (subst⁻¹ (λ (π : Profile). ¬ AnswersYes π φ []) e (none_no φ))
