use Rattle.walking.specs.Reading.{Values}
use Rattle.walking.proofs.digits.Digits.new.Given as goal

abbrev pub invariant-loop-value : goal.invariant-loop-value
invariant-loop-value l = Values l.value l.values
