use native.Mathlib.Omega.{arith}
use Rattle.std.proofs.Common.{◌∙◌}
use Rattle.tables.proofs.Known.{is_rule}
use Rattle.tables.proofs.Steps.{rows_start, row_bounds, rows_done, rows_over, choosing_start, choice_bounds, choosing_more, choosing_over, rows_next, grown_to}
use Rattle.tables.proofs.exploring.explore.Goals as goal

pub rows-init : goal.rows-init
rows-init c = (c.of-decoder.ensures, rows_start (is_rule c.args.numbering) c.requires)

pub overflow_cast-starts : goal.overflow_cast-starts
overflow_cast-starts c = let rb = row_bounds (is_rule c.args.numbering) c.requires c.rows.invariant.1 in let f = c.requires in omega arith

pub offset_bounds-starts-row : goal.offset_bounds-starts-row
offset_bounds-starts-row c = let rb = row_bounds (is_rule c.args.numbering) c.requires c.rows.invariant.1 in let f = c.requires in omega arith

pub bounds-starts-row : goal.bounds-starts-row
bounds-starts-row c = let rb = row_bounds (is_rule c.args.numbering) c.requires c.rows.invariant.1 in let f = c.requires in omega arith

pub offset_bounds-masks-row : goal.offset_bounds-masks-row
offset_bounds-masks-row c = let rb = row_bounds (is_rule c.args.numbering) c.requires c.rows.invariant.1 in let f = c.requires in omega arith

pub bounds-masks-row : goal.bounds-masks-row
bounds-masks-row c = let rb = row_bounds (is_rule c.args.numbering) c.requires c.rows.invariant.1 in let f = c.requires in let d = c.if-row-counts.false in omega arith

pub loop-number-init : goal.loop-number-init
loop-number-init c = (c.rows.invariant.0, choosing_start (is_rule c.args.numbering) c.requires c.rows.invariant.1 c.if-row-counts.false (rw c.rows.invariant.0 at c.state_count-choices.ensures) (omega arith))

pub add_edge-requires : goal.add_edge-requires
add_edge-requires c = let cb = choice_bounds (is_rule c.args.numbering) c.requires c.rows.invariant.1 c.if-row-counts.false (rw c.rows.invariant.0 at c.state_count-choices.ensures) (omega arith) c.loop-number.invariant.1 in record { masks_long = cb.masks_room; edges_long = cb.edges_room; few = cb.count_small; row_begun = cb.first_below; row_room = cb.row_room; edge_room = cb.edge_room }

pub loop-number-preserved : goal.loop-number-preserved
loop-number-preserved c = (
  c.state_choice-choice.ensures.same_rule ∙ c.loop-number.invariant.0,
  choosing_more (is_rule c.args.numbering) c.requires c.rows.invariant.1 c.if-row-counts.false (rw c.rows.invariant.0 at c.state_count-choices.ensures) (omega arith) c.loop-number.invariant.1 c.loop-number-test.true (rw c.loop-number.invariant.0 at c.state_choice-choice.ensures.choice) c.in-Some.ensures,
)

pub overflow_add-row : goal.overflow_add-row
overflow_add-row c = let cb = choice_bounds (is_rule c.args.numbering) c.requires c.rows.invariant.1 c.if-row-counts.false (rw c.rows.invariant.0 at c.state_count-choices.ensures) (omega arith) c.loop-number.invariant.1 in let r = cb.row_small in omega arith

pub rows-smaller : goal.rows-smaller
rows-smaller c = let cb = choice_bounds (is_rule c.args.numbering) c.requires c.rows.invariant.1 c.if-row-counts.false (rw c.rows.invariant.0 at c.state_count-choices.ensures) (omega arith) c.loop-number.invariant.1 in let r = cb.row_small in omega arith

pub rows-preserved : goal.rows-preserved
rows-preserved c = (c.loop-number.invariant.0, rows_next (is_rule c.args.numbering) c.requires c.rows.invariant.1 c.if-row-counts.false (rw c.rows.invariant.0 at c.state_count-choices.ensures) (omega arith) c.loop-number.invariant.1 (omega arith))

pub returns-then-row-counts : goal.returns-then-row-counts
returns-then-row-counts c = rows_done (is_rule c.args.numbering) c.requires c.rows.invariant.1 c.if-row-counts.true

pub returns-then-choices-gt-CHOICES : goal.returns-then-choices-gt-CHOICES
returns-then-choices-gt-CHOICES c = rows_over (is_rule c.args.numbering) c.requires c.rows.invariant.1 c.if-row-counts.false (rw c.rows.invariant.0 at c.state_count-choices.ensures) c.if-choices-gt-CHOICES.true

pub returns-in_default : goal.returns-in_default
returns-in_default c = choosing_over (is_rule c.args.numbering) c.requires c.rows.invariant.1 c.if-row-counts.false (rw c.rows.invariant.0 at c.state_count-choices.ensures) (omega arith) c.loop-number.invariant.1 c.loop-number-test.true (rw c.loop-number.invariant.0 at c.state_choice-choice.ensures.choice) (grown_to c.in_default.is c.add_edge.ensures)
