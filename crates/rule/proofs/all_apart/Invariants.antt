use Rattle.rule.specs.Standing.{Apart}
use Rattle.rule.proofs.all_apart.Given as goal

abbrev pub invariant-loop-i : goal.invariant-loop-i
invariant-loop-i l = Apart l.rule.entries l.i
