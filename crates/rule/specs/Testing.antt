-- What the test of a rule answers: the rule, known to be the numbering of some formula, or that it is none. Definitions, to be believed. Assumes nothing.
use Rattle.std.specs.Prelude.{◌≡◌, refl, Option, Some, None}
use Rattle.std.proofs.Common.{sym, ap, ◌∙◌}
use Rattle.rule.specs.Numbering.{IsRule}
use Rattle.rule.specs.declared.Rule.{Rule}
use Rattle.rule.specs.declared.numbering.Numbering.{Numbering}

abbrev pub TestedAs : Rule → Option Numbering → Type 0
TestedAs rule (Some n) = IsRule rule × (n.rule.now ≡ rule)
TestedAs rule None = ¬ IsRule rule

pub record Tested (rule : Rule) (r : Option Numbering) : Type 0 where
  pub tested : TestedAs rule r

-- what is answered, without the proof that the rule is one
abbrev pub rule_in : Option Numbering → Option Rule
rule_in (Some n) = Some n.rule.now
rule_in None = None

-- of what is answered, one outcome only
pub tested_one : (rule : Rule) (r s : Option Numbering) → Tested rule r → Tested rule s → rule_in r ≡ rule_in s
tested_one rule (Some n) (Some m) x y = ap Some (x.tested.1 ∙ sym y.tested.1)
tested_one rule (Some n) None x y = absurd (y.tested x.tested.0)
tested_one rule None (Some m) x y = absurd (x.tested y.tested.0)
tested_one rule None None x y = refl
