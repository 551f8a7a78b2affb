use Prim.Native.Nat.{◌+◌, ◌*◌}
use Rattle.reading.proofs.numbering.+number_number_joined_number_prefixed.Given as goal

abbrev pub decreases-number : goal.decreases-number
decreases-number l = 3 * l.at + 2

abbrev pub decreases-number_prefixed : goal.decreases-number_prefixed
decreases-number_prefixed l = 3 * l.at + 1

abbrev pub decreases-number_joined : goal.decreases-number_joined
decreases-number_joined l = 3 * l.at
