use native.Mathlib.Omega.{arith}
use mathlib.Core.Path.{◌≡◌}
use Prim.Native.Nat.{◌-◌, ◌+◌}
use Rattle.tables.proofs.Joining.{counted_more}
use Rattle.tables.proofs.Known.{few}
use Rattle.tables.proofs.formulas.+counts_below.Goals as goal

pub returns : goal.returns
returns t c = let e : c.args.end - 1 + 1 ≡ c.args.end = omega arith in rw e at (counted_more _ _ _ _ c.counts_below-counts.ensures c.count_of.ensures (omega (arith, c.counts_below-counts.type_inv, few c.args.numbering)))

pub overflow_cast-k : goal.overflow_cast-k
overflow_cast-k t c = omega (arith, few c.args.numbering)

pub offset_bounds-counts-k : goal.offset_bounds-counts-k
offset_bounds-counts-k t c = omega (arith, few c.args.numbering)

pub bounds-counts-k : goal.bounds-counts-k
bounds-counts-k t c = omega (arith, few c.args.numbering)
