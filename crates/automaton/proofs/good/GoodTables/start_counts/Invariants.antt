use Rattle.std.proofs.Common.{ℕ, ◌≡◌, ◌<◌, get_or}
use Rattle.automaton.specs.Handed.{seen}
use Rattle.automaton.specs.Rounds.{first_entry}
use Rattle.automaton.proofs.good.GoodTables.start_counts.Given as goal

abbrev pub invariant-loop-state : goal.invariant-loop-state
invariant-loop-state l = (k : ℕ) → k < l.state → get_or l.counts k 0 ≡ first_entry (seen l.self.tables) k
