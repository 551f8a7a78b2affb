use Rattle.walking.specs.PromisesLaws.{carries_few}
use Rattle.judge.proofs.read_rule.Goals as goal

pub loop-preserved : goal.loop-preserved
loop-preserved c = carries_few _ _ _ _ _ c.carry-held.ensures
