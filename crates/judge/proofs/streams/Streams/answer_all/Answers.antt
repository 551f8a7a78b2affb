use Rattle.std.proofs.Common.{arith}
use Rattle.walking.specs.PromisesLaws.{carries_few}
use Rattle.judge.proofs.streams.Streams.answer_all.Goals as goal

pub read_behind-end-requires : goal.read_behind-end-requires
read_behind-end-requires c = omega (arith, carries_few _ _ _ _ _ c.carry-held.ensures)
