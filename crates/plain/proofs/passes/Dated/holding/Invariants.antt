use Rattle.plain.specs.Masking.{PassOver}
use Rattle.plain.proofs.passes.Dated.holding.Given as goal

abbrev pub invariant-loop-k : goal.invariant-loop-k
invariant-loop-k l = PassOver l.numbering.rule.now l.self.date l.self.must l.self.may l.k l.here
