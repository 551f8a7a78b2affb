use Rattle.tables.proofs.Finding.{Behind}
use Rattle.tables.proofs.adding.find.Given as goal

abbrev pub invariant-loop-at : goal.invariant-loop-at
invariant-loop-at l = Behind l.masks l.mask l.at
