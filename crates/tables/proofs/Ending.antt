-- What the test of a rule tells. Assumes nothing.
use Rattle.std.specs.Prelude.{ℕ, false, [], Ok, Err}
use Rattle.std.proofs.Math.Path.{subst⁻¹}
use Rattle.answers.specs.declared.Refusal.{Refusal}
use Rattle.answers.specs.Answers.{refuses}
use Rattle.answers.specs.Refusals.{number_of}
use Rattle.meaning.specs.Rest.{Rest}
use Rattle.rule.specs.Numbering.{IsRule}
use Rattle.rule.specs.declared.Rule.{Rule}
use Rattle.plain.specs.Masking.{MaskOf}
use Rattle.plain.specs.Ends.{EndsOf}
use Rattle.plain.specs.EndsLaws.{may_accept_mask}
use Rattle.tables.specs.Building.{Slices, Builds, not_a_rule}

pub ended_rule : {rule : Rule} {m : ℕ} → EndsOf rule (Ok m) → IsRule rule × MaskOf rule.entries (λ φ. Rest rule.profile false φ []) rule.count m
ended_rule {rule} {m} x = let (φ, is, said) = x.right in ((φ, is), may_accept_mask rule φ is m said)

pub ended_not : {rule : Rule} {f : Refusal} → EndsOf rule (Err f) → (s : Slices) → Builds rule s (refuses (number_of f) tt) s
ended_not {rule} x s = subst⁻¹ (λ (n : ℕ). Builds rule s (refuses n tt) s) x.right.0 (not_a_rule x.right.1)
