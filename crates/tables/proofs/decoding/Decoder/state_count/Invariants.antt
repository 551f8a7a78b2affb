use Rattle.std.proofs.Common.{◌≡◌, ◌-◌, ◌≤◌}
use Rattle.tables.proofs.Tails.{tail_by}
use Rattle.tables.proofs.decoding.Decoder.state_count.Given as goal

abbrev pub invariant-loop-k : goal.invariant-loop-k
invariant-loop-k l = (l.k ≤ l.self.numbering.rule.now.count) × (l.n ≡ tail_by l.self.counts l.mask l.k (l.self.numbering.rule.now.count - l.k))
