use mathlib.Core.Path.{◌≡◌}
use Prim.Native.Nat.{◌<◌}
use native.Mathlib.Omega.{arith}
use lib.ListN.{length}
use Rattle.std.proofs.lemmas.List.Elements.{All-get_or}
use Rattle.meaning.specs.Flags.{flags}
use Rattle.automaton.specs.Tables.{target}
use Rattle.walking.proofs.Steps.{added_none, added_more}
use Rattle.walking.proofs.walkers.Walker.moved_along.Goals as goal

pub loop-edge-init : goal.loop-edge-init
loop-edge-init c = added_none _ _ _ _ c.requires

pub with_if-moved-requires : goal.with_if-moved-requires
with_if-moved-requires c =
    let states = c.args.self.now.tables.tables.states in
    let row = c.row-edge-items.ensures in
    let below = All-get_or (λ x. target flags x < states) _ c.loop-edge.edge-index 0 c.loop-edge-test.true row.leading in
    omega (arith, c.args.self.now.tables.good.few_states, below, c.edge_target.ensures)

pub loop-edge-preserved : goal.loop-edge-preserved
loop-edge-preserved c =
    let states = c.args.self.now.tables.tables.states in
    let row = c.row-edge-items.ensures in
    let here = c.loop-edge-test.true in
    let below = All-get_or (λ x. target flags x < states) _ c.loop-edge.edge-index 0 here row.leading in
    added_more _ _ _ _ _ _ _ _ _ (rw row.row at here) (rw row.row at below) (rw row.row at c.allowed_by.ensures) (rw row.row at c.edge_target.ensures)
    c.with_if-moved.ensures c.loop-edge.invariant

pub returns : goal.returns
returns c =
    let row = c.row-edge-items.ensures.row in
    let long : c.loop-edge.edge-index ≡ length c.row-edge-items.result.now = omega arith in
    rw (long, row) at c.loop-edge.invariant
