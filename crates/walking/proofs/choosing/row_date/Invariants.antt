use mathlib.Core.Path.{◌≡◌}
use Rattle.automaton.specs.Handed.{seen}
use Rattle.automaton.specs.Tables.{row_of}
use Rattle.walking.specs.Choosing.{row_date}
use Rattle.walking.proofs.choosing.row_date.Given as goal

abbrev pub invariant-loop-edge : goal.invariant-loop-edge
invariant-loop-edge l = l.least ≡ row_date (row_of (seen l.tables.tables) l.fn.state.0) l.counts l.count l.edge-index
