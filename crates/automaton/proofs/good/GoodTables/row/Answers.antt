use Rattle.std.proofs.Common.{add-one, arith, ◌+◌, ◌<◌}
use Rattle.meaning.specs.Flags.{flags}
use Rattle.automaton.specs.Handed.{seen}
use Rattle.automaton.proofs.TableLaws.{start_below}
use Rattle.automaton.proofs.RowLaws.{row_part, row_leading}
use Rattle.automaton.proofs.good.GoodTables.row.Goals as goal

pub slice_bounds-result-end-2 : goal.slice_bounds-result-end-2
slice_bounds-result-end-2 c =
    let tables = seen c.args.self.now.tables in
    let there : c.args.state.0 < tables.states = omega arith in
    omega (arith, start_below flags tables c.args.self.now.good (c.args.state.0 + 1) (omega arith), c.args.self.now.good.edges_fit)

pub returns-clause-leading : goal.returns-clause-leading
returns-clause-leading c =
    let tables = seen c.args.self.now.tables in
    let there : c.args.state.0 < tables.states = omega arith in
    let leads = row_leading tables c.args.self.now.good c.args.state.0 there in
    rw (c.from-end.ensures, c.from-first.ensures, add-one) (rw (row_part tables c.args.self.now.good c.args.state.0 there) at leads)
