use Rattle.judge.proofs.Steps.{read_rule}
use Rattle.judge.proofs.answer_input.Goals as goal

pub invariant_of-answer_rule : goal.invariant_of-answer_rule
invariant_of-answer_rule c = record { is_rule = ∣ read_rule _ _ _ c.read_finite.ensures c.in-Ok.is ∣₁ }
