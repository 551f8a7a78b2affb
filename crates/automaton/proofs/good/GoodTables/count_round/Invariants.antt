use Rattle.automaton.specs.Handed.{seen}
use Rattle.automaton.proofs.Counts.{Rounded}
use Rattle.automaton.proofs.good.GoodTables.count_round.Given as goal

abbrev pub invariant-loop-state : goal.invariant-loop-state
invariant-loop-state l = Rounded (seen l.self.tables) l.round l.state l.initial.counts l.counts
