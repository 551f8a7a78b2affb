use Prim.Native.Nat.{◌+◌, ◌*◌}
use Rattle.tables.proofs.decoding.Decoder.+choice_of_decoded.Given as goal

abbrev pub decreases-choice_of : goal.decreases-choice_of
decreases-choice_of l = 2 * l.no.0 + 1

abbrev pub decreases-decoded : goal.decreases-decoded
decreases-decoded l = 2 * l.no.0
