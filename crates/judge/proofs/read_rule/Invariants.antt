use Rattle.std.proofs.Common.{◌≤◌}
use Rattle.judge.proofs.read_rule.Given as goal

abbrev pub invariant-loop : goal.invariant-loop
invariant-loop l = l.held ≤ 8193
