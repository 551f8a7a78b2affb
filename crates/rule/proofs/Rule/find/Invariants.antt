use Rattle.std.specs.Prelude.{ℕ, ◌<◌, ◌≡◌}
use Rattle.rule.specs.Numbering.{formula_at}
use Rattle.rule.proofs.Rule.find.Given as goal

abbrev pub invariant-loop-i : goal.invariant-loop-i
invariant-loop-i l = (k : ℕ) → k < l.i → formula_at l.self.entries k ≡ l.formula → ⊥
