use Rattle.std.proofs.Common.{arith, ap₂, ◌-◌}
use Rattle.std.specs.Int.Bits.{bit_or}
use Rattle.laws.specs.Masks.{shl_one}
use Rattle.tables.proofs.Known.{few, some}
use Rattle.tables.proofs.building.start_set.Goals as goal

pub overflow_sub-result : goal.overflow_sub-result
overflow_sub-result c = some c.args.numbering

pub overflow_shl-result : goal.overflow_shl-result
overflow_shl-result c = omega (arith, few c.args.numbering, some c.args.numbering)

pub returns : goal.returns
returns c = ap₂ bit_or (shl_one 64 (c.args.numbering.rule.now.count - 1) (omega (arith, few c.args.numbering, some c.args.numbering))) c.mark.ensures
