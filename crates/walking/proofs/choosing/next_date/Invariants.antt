use Rattle.automaton.specs.Handed.{seen}
use Rattle.walking.specs.Walks.{mask}
use Rattle.walking.proofs.Choices.{LeastUpto}
use Rattle.walking.proofs.choosing.next_date.Given as goal

abbrev pub invariant-loop-state : goal.invariant-loop-state
invariant-loop-state l = LeastUpto (seen l.walker.tables.tables) l.counts l.count (mask l.walker.walk) (mask l.state-iterator.left) l.least
