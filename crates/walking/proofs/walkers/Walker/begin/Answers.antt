use mathlib.Core.Path.{subst⁻¹}
use lib.Pow.{pow-lt}
use Rattle.walking.specs.Walks.{GoodWalk}
use Rattle.walking.specs.MovingLaws.{small_good}
use Rattle.walking.proofs.walkers.Walker.begin.Goals as goal

pub invariant_of-result : goal.invariant_of-result
invariant_of-result c = record { good = subst⁻¹ (GoodWalk c.args.tables.tables.states) c.begin.ensures (small_good _ _ (pow-lt c.args.tables.good.some_state)) }
