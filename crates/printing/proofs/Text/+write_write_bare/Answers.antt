use Rattle.std.proofs.Common.{arith}
use Rattle.printing.proofs.Storing.{close_room, loose_wrote, tight_wrote, sign_room, second_below, second_room, binary_wrote}
use Rattle.printing.proofs.Text.+write_write_bare.Goals as goal

pub write-add-requires-then-slot-level : goal.write-add-requires-then-slot-level
write-add-requires-then-slot-level t c =
    let room = close_room _ _ _ _ c.shape_of-shape.ensures (omega arith) _ c.requires _ c.add.ensures _ c.write_bare.ensures in omega arith

pub write-returns-then-slot-level : goal.write-returns-then-slot-level
write-returns-then-slot-level t c = loose_wrote _ _ _ _ c.shape_of-shape.ensures (omega arith) c.add.ensures c.write_bare.ensures c.add-then-slot-level.ensures

pub write-returns-else-slot-level : goal.write-returns-else-slot-level
write-returns-else-slot-level t c = tight_wrote _ _ _ _ c.shape_of-shape.ensures (omega arith) c.write_bare-else-slot-level.ensures

pub write_bare-add-requires-in-Binary : goal.write_bare-add-requires-in-Binary
write_bare-add-requires-in-Binary t c = sign_room _ _ _ _ _ _ c.in-Binary.is _ c.requires _ c.write-in-Binary.ensures

pub write_bare-write-requires-in-Binary-2 : goal.write_bare-write-requires-in-Binary-2
write_bare-write-requires-in-Binary-2 t c = (
  omega (arith, c.decreases, second_below _ _ _ _ _ _ c.in-Binary.is _ c.requires),
  second_room _ _ _ _ _ _ c.in-Binary.is _ c.requires _ c.write-in-Binary.ensures _ c.add-in-Binary.ensures,
)

pub write_bare-returns-in-Binary : goal.write_bare-returns-in-Binary
write_bare-returns-in-Binary t c = binary_wrote _ _ _ _ _ _ c.in-Binary.is c.write-in-Binary.ensures c.add-in-Binary.ensures c.write-in-Binary-2.ensures
