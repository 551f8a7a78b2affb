use mathlib.Core.Path.{sym, ap₂, ◌∙◌}
use lib.ListN.{get_or}
use Prim.Native.Nat.{ℕ}
use Rattle.meaning.specs.Flags.{flags}
use Rattle.automaton.specs.Handed.{seen}
use Rattle.automaton.specs.Walk.{moved, begun}
use Rattle.automaton.specs.declared.good.GoodTables.{GoodTables}
use Rattle.walking.proofs.Steps.{walked_more}
use Rattle.walking.proofs.judge.Goals as goal

pub loop-date-preserved : goal.loop-date-preserved
loop-date-preserved c =
    let (same, at) = c.loop-date.invariant in
    let tables = c.begin-walker.result.tables.tables in
    let k = c.loop-date.date-index in
    let series = c.args.series.now in (
      c.move_by.ensures.tables ∙ same,
      c.move_by.ensures.walk ∙ ap₂ (λ (g : GoodTables) (m : ℕ). moved flags (seen g.tables) m (get_or series k 0)) same at
          ∙ sym (walked_more (seen tables) begun series k c.loop-date-test.true),
    )
