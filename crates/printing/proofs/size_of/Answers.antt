use Rattle.printing.proofs.Sizing.{binary_size}
use Rattle.printing.proofs.size_of.Goals as goal

pub returns-in-Binary : goal.returns-in-Binary
returns-in-Binary c =
    binary_size _ _ _ c.requires.1 _ c.shape_of.ensures _ _ _ _ _ _ _ _ _ c.in-Binary.is c.from-in-Binary.ensures c.from-in-Binary-2.ensures c.in_slot-left.ensures c.in_slot-right.ensures c.max-depth.ensures c.cut-in-Binary.ensures
