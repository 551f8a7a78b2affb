use Rattle.automaton.specs.Handed.{seen}
use Rattle.walking.specs.Walks.{mask}
use Rattle.walking.proofs.Steps.{NoneUpto}
use Rattle.walking.proofs.walkers.Walker.accepts.Given as goal

abbrev pub invariant-loop-state : goal.invariant-loop-state
invariant-loop-state l = NoneUpto (seen l.self.tables.tables) (mask l.self.walk) (mask l.state-iterator.left)
