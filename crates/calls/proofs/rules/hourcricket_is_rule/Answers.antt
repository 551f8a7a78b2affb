use Rattle.std.specs.Prelude.{◌↔◌, Bool, true, false}
use Rattle.std.specs.Int.{from_bool}
use Rattle.std.proofs.Common.{refl, inl, inr}
use Rattle.laws.specs.Decided.{Decides}
use Rattle.calls.specs.FormLaws.{has_rule}
use Rattle.calls.specs.Answers.{Says}
use Rattle.calls.proofs.rules.hourcricket_is_rule.Goals as goal

says : {P Q : Type 0} (b : Bool) → Decides b P → P ↔ Q → Says (from_bool b) Q
says true h e = inl (refl, e.0 h)
says false h e = inr (refl, λ q. h (e.1 q))

pub returns : goal.returns
returns c = rw c.from.ensures (says c.is_numbering.result c.is_numbering.ensures (has_rule _ _ _ _ c.rule_of.ensures))
