use Rattle.std.proofs.Common.{◌≤◌, length, arith}
use Rattle.automaton.specs.Handed.{seen}
use Rattle.automaton.proofs.ColumnLaws.{column_laid}
use Rattle.automaton.proofs.good.GoodTables.fewest.Goals as goal

pub returns : goal.returns
returns c =
    let tables = seen c.args.self.now.tables in
    let good = c.args.self.now.good in
    let room : tables.states ≤ length c.args.counts.now = omega arith in
    record { told = (good, room, rw c.fill_counts.ensures (column_laid tables good c.args.counts.now room)) }
