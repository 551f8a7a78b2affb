use Rattle.std.specs.Prelude.{◌≡◌, ◌≤◌, ◌<◌, length}
use Rattle.printing.specs.Shapes.{Sizes}
use Rattle.printing.proofs.measure.Given as goal

abbrev pub invariant-loop-k : goal.invariant-loop-k
invariant-loop-k l = (0 < l.rule.count) × (l.rule.count ≤ 64) × (length l.sizes ≡ 64) × Sizes l.rule.entries l.k l.sizes
