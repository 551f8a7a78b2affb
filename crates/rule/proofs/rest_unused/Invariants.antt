use Rattle.std.specs.Prelude.{ℕ, ◌≤◌, ◌<◌, ◌≡◌}
use Rattle.rule.specs.Numbering.{formula_at}
use Rattle.rule.specs.declared.Formula.TheVariants.{False}
use Rattle.rule.proofs.rest_unused.Given as goal

abbrev pub invariant-loop-i : goal.invariant-loop-i
invariant-loop-i l = (k : ℕ) → l.count ≤ k → k < l.i → formula_at l.rule.entries k ≡ False
