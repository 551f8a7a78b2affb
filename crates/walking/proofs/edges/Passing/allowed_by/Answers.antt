use native.Mathlib.Omega.{arith}
use Rattle.walking.proofs.Barring.{allowed_unbarred}
use Rattle.walking.proofs.edges.Passing.allowed_by.Goals as goal

pub returns : goal.returns
returns c =
    rw (c.flags_of.ensures, c.args.self.known)
    (allowed_unbarred c.args.edge c.args.self.date _ _ (omega arith) c.edge_present.ensures c.edge_absent.ensures)
