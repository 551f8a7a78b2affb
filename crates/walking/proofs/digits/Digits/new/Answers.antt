use Rattle.walking.specs.ReadingLaws.{values_none}
use Rattle.walking.proofs.digits.Digits.new.Goals as goal

pub loop-value-init : goal.loop-value-init
loop-value-init c = values_none
