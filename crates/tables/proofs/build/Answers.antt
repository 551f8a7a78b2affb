use Rattle.std.proofs.Common.{◌≡◌, Err, arith, rules}
use Rattle.tables.specs.Building.{Long, slices, short_slice}
use Rattle.tables.proofs.Ending.{ended_rule, ended_not}
use Rattle.tables.proofs.build.Goals as goal

pub returns-in_err-ends : goal.returns-in_err-ends
returns-in_err-ends c =
    let e : c.from_residual.result ≡ Err c.in_err-ends.field-0.0 = search rules in
    rw e (ended_not c.in_err-ends.ensures _)

pub returns-then-masks-lt-STATES : goal.returns-then-masks-lt-STATES
returns-then-masks-lt-STATES c = short_slice (ended_rule c.in_ok-ends.ensures).0
    (λ (l : Long (slices c.args.masks.now c.args.starts.now c.args.accepts.now c.args.edges.now)). omega (arith, c.then-masks-lt-STATES.either, l.masks_long, l.starts_long, l.accepts_long, l.edges_long))

pub build_in-requires-clause-ends : goal.build_in-requires-clause-ends
build_in-requires-clause-ends c = (ended_rule c.in_ok-ends.ensures).1
