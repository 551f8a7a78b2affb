use Rattle.std.proofs.Common.{refl, arith}
use Rattle.printing.proofs.Storing.{stored_at}
use Rattle.printing.proofs.Text.add.Goals as goal

pub returns : goal.returns
returns c = record { same_slice = refl; puts = record { stored = stored_at _ _ _ _ _ c.requires (omega arith) c.copy_from_slice.ensures.after; end = refl } }
