use Rattle.plain.proofs.Masked.{bit_set}
use Rattle.plain.proofs.passes.with_number.Goals as goal

pub returns : goal.returns
returns c = rw (c.from.ensures) (bit_set c.args.mask c.args.number.0 c.args.holds c.requires)
