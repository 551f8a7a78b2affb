use mathlib.Core.Path.{◌≡◌}
use mathlib.Core.Bool.{false}
use lib.Dec.{eqb}
use lib.ListN.{get_or, take}
use Rattle.std.specs.List.{list_any}
use Rattle.meaning.specs.Flags.{flags}
use Rattle.automaton.specs.Handed.{seen}
use Rattle.automaton.specs.Tables.{target, row_of}
use Rattle.automaton.proofs.good.GoodTables.leads_to.Given as goal

abbrev pub invariant-loop-edge : goal.invariant-loop-edge
invariant-loop-edge l =
    list_any (λ edge. eqb (get_or l.counts (target flags edge) 0) l.count) (take l.edge-index (row_of (seen l.self.tables) l.fn.state.0)) ≡ false
