use Rattle.std.proofs.Common.{◌≡◌, ◌≤◌}
use Rattle.tables.proofs.Tails.{PickedTail}
use Rattle.tables.proofs.decoding.Decoder.state_choice.Given as goal

abbrev pub invariant-loop-k : goal.invariant-loop-k
invariant-loop-k l = (l.self.numbering ≡ l.fn.self.numbering) × (l.k ≤ l.fn.self.numbering.rule.now.count)
    × PickedTail l.fn.self.numbering.rule.now l.mask l.number l.k l.picked
