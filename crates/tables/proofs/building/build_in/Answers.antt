use native.Mathlib.Omega.{arith}
use Rattle.std.proofs.Common.{sym, length-take, length-take-le}
use Rattle.tables.specs.Laying.{first_entered}
use Rattle.tables.proofs.Known.{is_rule}
use Rattle.tables.proofs.Whole.{prepared_fresh, accepts_fresh, explored_long, build_too_much, done_few, done_room, build_done}
use Rattle.tables.proofs.building.build_in.Goals as goal

pub explore-requires : goal.explore-requires
explore-requires c = prepared_fresh _ c.requires.long (first_entered _ _ _ _ _ _ _ c.start_set.ensures c.clear.ensures)

pub returns-in_default : goal.returns-in_default
returns-in_default c = build_too_much _ c.requires.long (first_entered _ _ _ _ _ _ _ c.start_set.ensures c.clear.ensures) c.explore.ensures (is_rule c.args.numbering) c.in_default.is c.clear-in_default.ensures

pub slice_bounds-fill_accepts-end : goal.slice_bounds-fill_accepts-end
slice_bounds-fill_accepts-end c = done_room _ c.requires.long (first_entered _ _ _ _ _ _ _ c.start_set.ensures c.clear.ensures) c.explore.ensures c.in-Some.is (is_rule c.args.numbering)

pub slice_bounds-fill_accepts-end-2 : goal.slice_bounds-fill_accepts-end-2
slice_bounds-fill_accepts-end-2 c = sym (length-take-le c.in-Some.counts.states c.explore.new.masks (done_room _ c.requires.long (first_entered _ _ _ _ _ _ _ c.start_set.ensures c.clear.ensures) c.explore.ensures c.in-Some.is (is_rule c.args.numbering)))

pub fill_accepts-requires : goal.fill_accepts-requires
fill_accepts-requires c =
    let few = done_few _ c.requires.long (first_entered _ _ _ _ _ _ _ c.start_set.ensures c.clear.ensures) c.explore.ensures c.in-Some.is (is_rule c.args.numbering) in
    let long = explored_long _ c.requires.long (first_entered _ _ _ _ _ _ _ c.start_set.ensures c.clear.ensures) c.explore.ensures in
    record {
      few = omega (arith, length-take c.in-Some.counts.states c.explore.new.masks);
      long = long.accepts_long;
      zero = accepts_fresh c.args.numbering.rule.now c.requires.long (first_entered _ _ _ _ _ _ _ c.start_set.ensures c.clear.ensures);
    }

pub returns : goal.returns
returns c = build_done _ c.requires.long (first_entered _ _ _ _ _ _ _ c.start_set.ensures c.clear.ensures) c.explore.ensures c.in-Some.is (is_rule c.args.numbering) c.requires.ends c.fill_accepts.ensures
