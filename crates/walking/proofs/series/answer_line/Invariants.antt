use mathlib.Core.Path.{◌≡◌}
use Rattle.std.specs.Slice.Iter.{chunks_exact_rest, chunks_exact_size}
use Rattle.automaton.specs.Handed.{seen}
use Rattle.walking.specs.Reading.{Underway}
use Rattle.walking.proofs.series.answer_line.Given as goal

abbrev pub invariant-loop-pair : goal.invariant-loop-pair
invariant-loop-pair l = (l.walker.tables ≡ l.initial.walker.tables)
    × (chunks_exact_size l.pair-iterator ≡ 2)
    × Underway (seen l.initial.walker.tables.tables) l.line (chunks_exact_rest l.pair-iterator) l.walker.walk
