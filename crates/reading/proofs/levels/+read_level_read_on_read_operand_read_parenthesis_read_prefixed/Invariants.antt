use lib.ListN.{length}
use Prim.Native.Nat.{◌+◌, ◌*◌, ◌-◌}
use Rattle.reading.proofs.levels.+read_level_read_on_read_operand_read_parenthesis_read_prefixed.Given as goal

abbrev pub decreases-read_level : goal.decreases-read_level
decreases-read_level l = 8 * (length l.text.now - l.start) + (l.level + 2)

abbrev pub decreases-read_on : goal.decreases-read_on
decreases-read_on l = 8 * (length l.text.now - l.at)

abbrev pub decreases-read_operand : goal.decreases-read_operand
decreases-read_operand l = 8 * (length l.text.now - l.start) + 1

abbrev pub decreases-read_parenthesis : goal.decreases-read_parenthesis
decreases-read_parenthesis l = 8 * (length l.text.now - l.at)

abbrev pub decreases-read_prefixed : goal.decreases-read_prefixed
decreases-read_prefixed l = 8 * (length l.text.now - l.at)
