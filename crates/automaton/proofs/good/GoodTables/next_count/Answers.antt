use Rattle.std.proofs.Common.{sym, ◌∙◌}
use Rattle.automaton.specs.Handed.{seen}
use Rattle.automaton.proofs.Counts.{next_given, next_kept}
use Rattle.automaton.proofs.good.GoodTables.next_count.Goals.{else-count-via-then-count+else-leads_to, else-count-via-else-count}
use Rattle.automaton.proofs.good.GoodTables.next_count.Goals as goal

pub returns-then-leads_to : goal.returns-then-leads_to
returns-then-leads_to c =
    next_given (seen c.args.self.now.tables) c.args.self.now.good c.args.round c.args.counts.now c.args.state.0 c.requires.1 c.if-count.true (sym c.if-leads_to.true ∙ c.leads_to.ensures)

pub returns-else-count : goal.returns-else-count
returns-else-count c =
    next_kept (seen c.args.self.now.tables) c.args.self.now.good c.args.round c.args.counts.now c.args.state.0 c.requires.1 (λ e. elim c.else-count.branch [
      | else-count-via-then-count+else-leads_to w ↦ sym w.if-leads_to.false ∙ w.leads_to.ensures
      | else-count-via-else-count w ↦ absurd (w.if-count.false e)
    ])
