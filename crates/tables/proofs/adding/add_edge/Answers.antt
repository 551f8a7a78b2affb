use Rattle.tables.proofs.Ways.{way_again, way_full_row, way_full_states, way_old, way_new}
use Rattle.tables.proofs.adding.add_edge.Goals as goal

pub returns-then-contains : goal.returns-then-contains
returns-then-contains c = way_again c.args.masks.now c.args.edges.now c.args.choice c.requires.few c.requires.row_begun c.requires.row_room c.requires.edge_room c.requires.edges_long c.if-choice-ne0.false c.find-state.ensures c.edge_of-edge.ensures c.contains.ensures.value c.if-contains.true

pub returns-then-counts-first-eq-ROW_EDGES : goal.returns-then-counts-first-eq-ROW_EDGES
returns-then-counts-first-eq-ROW_EDGES c = way_full_row c.args.masks.now c.args.edges.now c.args.choice c.requires.few c.requires.row_begun c.requires.row_room c.requires.edge_room c.requires.edges_long c.if-choice-ne0.false c.find-state.ensures c.edge_of-edge.ensures c.contains.ensures.value c.if-contains.false c.if-counts-first-eq-ROW_EDGES.true

pub returns-then-state-counts : goal.returns-then-state-counts
returns-then-state-counts c = way_old c.args.masks.now c.args.edges.now c.args.choice c.requires.few c.requires.row_begun c.requires.row_room c.requires.edge_room c.requires.edges_long c.if-choice-ne0.false c.find-state.ensures c.edge_of-edge.ensures c.contains.ensures.value c.if-contains.false c.if-counts-first-eq-ROW_EDGES.false c.if-state-counts.true

pub returns-then-counts-eq-STATES : goal.returns-then-counts-eq-STATES
returns-then-counts-eq-STATES c = way_full_states c.args.masks.now c.args.edges.now c.args.choice c.requires.few c.requires.row_begun c.requires.row_room c.requires.edge_room c.requires.edges_long c.if-choice-ne0.false c.find-state.ensures c.edge_of-edge.ensures c.contains.ensures.value c.if-contains.false c.if-state-counts.false c.if-counts-eq-STATES.true

pub returns : goal.returns
returns c = way_new c.args.masks.now c.args.edges.now c.args.choice c.requires.few c.requires.row_begun c.requires.row_room c.requires.edge_room c.requires.edges_long c.if-choice-ne0.false c.find-state.ensures c.edge_of-edge.ensures c.contains.ensures.value c.if-contains.false c.if-counts-first-eq-ROW_EDGES.false c.if-state-counts.false c.if-counts-eq-STATES.false
