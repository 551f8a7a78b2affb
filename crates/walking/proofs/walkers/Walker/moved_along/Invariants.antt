use Rattle.automaton.specs.Handed.{seen}
use Rattle.automaton.specs.Tables.{row_of}
use Rattle.walking.specs.Walks.{mask}
use Rattle.walking.specs.Moving.{Added}
use Rattle.walking.proofs.walkers.Walker.moved_along.Given as goal

abbrev pub invariant-loop-edge : goal.invariant-loop-edge
invariant-loop-edge l = Added l.self.tables.tables.states (row_of (seen l.self.tables.tables) l.fn.state.0) l.passing.date (mask l.fn.walk) l.edge-index (mask l.moved)
