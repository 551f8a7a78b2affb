use Rattle.tables.proofs.Known.{few}
use Rattle.tables.specs.Keeping.{kept_none}
use Rattle.tables.proofs.decoding.Decoder.of.Goals as goal

pub invariant_of-result : goal.invariant_of-result
invariant_of-result c = record { small = few c.args.numbering; counted = c.counts_below-counts.ensures; kept_right = kept_none _ 64 }
