use Rattle.std.proofs.Common.{◌≡◌}
use Rattle.meaning.specs.Flags.{flags}
use Rattle.automaton.specs.Handed.{seen}
use Rattle.automaton.specs.Rounds.{column_after}
use Rattle.automaton.proofs.good.GoodTables.fill_counts.Given as goal

abbrev pub invariant-loop-round : goal.invariant-loop-round
invariant-loop-round l = l.counts ≡ column_after flags (seen l.self.tables) l.round
