use Rattle.judge.proofs.Steps.{built_good}
use Rattle.judge.proofs.answer_rule.Goals as goal

pub invariant_of-answer_series : goal.invariant_of-answer_series
invariant_of-answer_series c = record { good = built_good _ _ _ _ c.in-Ok.counts c.in-Ok.is c.build_rule.ensures }
