-- What the plain judge answers: document 01, "Meaning on a series" and refusal 6; document 02, Q-6. Definitions, to be believed. Assumes nothing.
use Rattle.std.specs.Prelude.{◌≡◌, Bool, true, false, Result}
use Rattle.answers.specs.Answers.{Outcome, gives, refuses}
use Rattle.answers.specs.Refusals.{outcome}
use Rattle.answers.specs.declared.Refusal.{Refusal}
use Rattle.meaning.specs.Formula.{Formula as Tree, Series}
use Rattle.meaning.specs.Dialect.{AnswersYes}
use Rattle.rule.specs.Numbering.{Numbers, IsRule}
use Rattle.rule.specs.declared.Rule.{Rule}

-- when an answer is right: yes where the formula that the rule numbers says so by the rule's profile, no where it does not, 6 where the rule numbers none
abbrev pub Right : Rule → Series → Outcome Bool (Unit {0}) → Type 0
Right rule s (gives true) = (φ : Tree) × Numbers rule φ × AnswersYes rule.profile φ s
Right rule s (gives false) = (φ : Tree) × Numbers rule φ × (¬ AnswersYes rule.profile φ s)
Right rule s (refuses n left) = (n ≡ 6) × (¬ IsRule rule)

-- the judge's answer is right
pub record Judging (rule : Rule) (s : Series) (r : Result Bool Refusal) : Type 0 where
  pub right : Right rule s (outcome r)
