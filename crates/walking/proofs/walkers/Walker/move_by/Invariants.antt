use Rattle.automaton.specs.Handed.{seen}
use Rattle.walking.specs.Walks.{mask}
use Rattle.walking.proofs.Steps.{MovedUpto}
use Rattle.walking.proofs.walkers.Walker.move_by.Given as goal

abbrev pub invariant-loop-state : goal.invariant-loop-state
invariant-loop-state l = MovedUpto (seen l.self.tables.tables) l.date (mask l.self.walk) (mask l.state-iterator.left) (mask l.moved)
