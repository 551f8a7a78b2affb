use Rattle.std.specs.Prelude.{◌+◌, ◌*◌}
use Rattle.printing.proofs.Text.+write_write_bare.Given as goal

abbrev pub decreases-write : goal.decreases-write
decreases-write l = 2 * l.k.0 + 1

abbrev pub decreases-write_bare : goal.decreases-write_bare
decreases-write_bare l = 2 * l.k.0
