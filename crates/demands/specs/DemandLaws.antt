-- What the demands are made of: a text that is read, and what the calls then answer by its tree. Assumes nothing.
use Rattle.std.specs.Prelude.{◌≡◌, refl, ◌↔◌, List, ◌++◌, ℕ, ◌≤◌, length, drop, Option, Some, None, Result, Ok, Err, Bool, false, true}
use Rattle.std.proofs.Common.{ap, ◌∙◌, subst}
use Rattle.answers.specs.Refusals.{Answer}
use Rattle.meaning.specs.Formula.{Formula as Tree, Series}
use Rattle.meaning.specs.Syntax.{Syntax, nnf}
use Rattle.meaning.specs.Dialect.{dialect, AnswersYes, TextAnswersYes}
use Rattle.meaning.specs.declared.Profile.{Profile}
use Rattle.rule.specs.Numbering.{formulas, Numbers}
use Rattle.rule.proofs.ListingLaws.{rule_one}
use Rattle.rule.specs.declared.Rule.{Rule}
use Rattle.reading.specs.declared.Wanted.{Wanted}
use Rattle.reading.specs.declared.Refusal.{Refusal}
use Rattle.reading.specs.Grammar.{Sound, TwoOrThree, SaysWanted, ReadAs}
use Rattle.reading.specs.Promise.{number_of, place_of, wanted_of, Reads}
use Rattle.reading.specs.Promise as reading
use Rattle.reading.specs.Complete.{unambiguous}
use Rattle.reading.specs.Outcomes.{sound_read, said_one}
use Rattle.printing.specs.Text.{text_of}
use Rattle.printing.specs.Printing.{Printing}
use Rattle.plain.specs.Judging.{Judging}
use Rattle.plain.specs.Outcome.{judging_yes, judging_no, judging_text}
use Rattle.tables.specs.Building.{Slices, Builds, counts, made_of}
use Rattle.tables.specs.Described.{build_agrees, build_means}
use Rattle.demands.specs.Demand1.{SaysWhat}
use Rattle.demands.specs.Demand2.{YesExactly}
use Rattle.demands.specs.Demand3.{ByTables}
use Rattle.demands.specs.TableLaws.{by_tables}

-- what a refused text says is wanted
pub wanted : (π : Profile) (text : List ℕ) (f : Refusal) → Reads (dialect π).number text (Err f) → SaysWhat text f
wanted π text f h =
    let (due, said) = (h.known π refl).outcome in
    record {
      says = λ w. (λ e. subst (SaysWanted text (number_of f) (place_of f)) e said, λ x. said_one text (number_of f) (place_of f) (wanted_of f) (Some w) said x);
      says_some = λ x. one (wanted_of f) x said;
    }
  where
    one : (w : Option Wanted) → TwoOrThree (number_of f) → SaysWanted text (number_of f) (place_of f) w → (v : Wanted) × (w ≡ Some v)
    one (Some w) x s = (w, refl)
    one None x s = absurd (s x)

pub read_exactly : (π : Profile) (text : List ℕ) (r : Result Rule Refusal) → Reads (dialect π).number text r
    → ((rule : Rule) × (r ≡ Ok rule)) ↔ ((p : Syntax) × Sound text p × (length (formulas (nnf p)) ≤ (dialect π).most))
read_exactly π text r h = (
  λ (rule, e). let x = subst (reading.Outcome π text) e (h.known π refl).outcome in
      (x.tree, x.sound, subst (λ (z : Profile). length (formulas (nnf x.tree)) ≤ (dialect z).most) x.profile_is x.numbers.fits.few),
  λ (p, s, few). sound_read π text p r s few h,
)

module _ (π : Profile) (text : List ℕ) (rule : Rule) (h : Reads (dialect π).number text (Ok rule)) where
  pub read_as : ReadAs π text rule
  read_as = (h.known π refl).outcome

  module _ (p : Syntax) (sound : Sound text p) where
    -- whatever tree it spells, the rule numbers that tree's formula
    pub numbers : Numbers rule (nnf p)
    numbers = subst (λ q. Numbers rule (nnf q)) (unambiguous read_as.sound.spells sound.spells) read_as.numbers

    pub text_plainly : (s : Series) (v : Answer Bool) → Judging rule s v → YesExactly (Ok true) (Ok false) v (TextAnswersYes π p s)
    text_plainly s v j =
        subst (λ (z : Profile). YesExactly (Ok true) (Ok false) v (TextAnswersYes z p s)) read_as.profile_is (judging_text rule s p numbers v j)

    pub text_by_tables : (s u : Slices) (n k : ℕ) → Builds rule s (counts n k) u → ByTables (TextAnswersYes π p) (made_of n k u)
    text_by_tables s u n k b =
        subst (λ (z : Profile). ByTables (TextAnswersYes z p) (made_of n k u)) read_as.profile_is
        (by_tables (TextAnswersYes rule.profile p) (made_of n k u) (build_agrees rule s u n k b (nnf p) numbers).good (build_means rule s u n k b p numbers))

-- a rule that is handed in, by the definition of its profile
module _ (π : Profile) (rule : Rule) (is : rule.profile ≡ π) where
  pub rule_plainly : (φ : Tree) → Numbers rule φ → (s : Series) (v : Answer Bool) → Judging rule s v → YesExactly (Ok true) (Ok false) v (AnswersYes π φ s)
  rule_plainly φ n s v j = subst (λ (z : Profile). YesExactly (Ok true) (Ok false) v (AnswersYes z φ s)) is (judging_yes rule s φ n v j, judging_no rule s φ n v j)

  pub rule_by_tables : (s u : Slices) (n k : ℕ) → Builds rule s (counts n k) u → (φ : Tree) → Numbers rule φ → ByTables (AnswersYes π φ) (made_of n k u)
  rule_by_tables s u n k b φ num =
      let made = build_agrees rule s u n k b φ num in
      subst (λ (z : Profile). ByTables (AnswersYes z φ) (made_of n k u)) is (by_tables (AnswersYes rule.profile φ) (made_of n k u) made.good made.agrees)

-- what is printed, by whatever formula the rule numbers
pub printed_exactly : (rule : Rule) (before after : List ℕ) (n : ℕ) → Printing rule before after (Ok n) → (φ : Tree) → Numbers rule φ
    → (n ≡ length (text_of φ)) × (after ≡ text_of φ ++ drop n before)
printed_exactly rule before after n x φ num =
    let same = rule_one rule x.right.formula φ x.right.numbers num in
    (x.right.long ∙ ap (λ (χ : Tree). length (text_of χ)) same, x.right.left ∙ ap (λ (χ : Tree). text_of χ ++ drop n before) same)
