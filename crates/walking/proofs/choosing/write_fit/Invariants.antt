use mathlib.Core.Path.{◌≡◌}
use Rattle.automaton.specs.Handed.{seen}
use Rattle.walking.specs.Walks.{mask}
use Rattle.walking.proofs.Choices.{Underway}
use Rattle.walking.proofs.choosing.write_fit.Given as goal

abbrev pub invariant-loop-at : goal.invariant-loop-at
invariant-loop-at l =
    (l.walker.tables ≡ l.initial.walker.tables) × Underway (seen l.initial.walker.tables.tables) l.counts l.dates l.initial.out l.at (mask l.walker.walk) l.out
