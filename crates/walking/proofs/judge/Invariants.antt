use mathlib.Core.Path.{◌≡◌}
use lib.ListN.{take}
use Rattle.meaning.specs.Flags.{flags}
use Rattle.automaton.specs.Handed.{seen}
use Rattle.automaton.specs.Walk.{walked, begun}
use Rattle.walking.specs.Walks.{mask}
use Rattle.walking.proofs.judge.Given as goal

abbrev pub invariant-loop-date : goal.invariant-loop-date
invariant-loop-date l = (l.walker.tables ≡ l.initial.walker.tables) × (mask l.walker.walk ≡ walked flags (seen l.initial.walker.tables.tables) begun (take l.date-index l.series))
