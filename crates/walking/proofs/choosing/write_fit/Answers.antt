use mathlib.Core.Path.{◌≡◌, refl, ◌∙◌}
use native.Mathlib.Omega.{arith}
use Rattle.automaton.specs.Handed.{seen}
use Rattle.walking.specs.Walks.{mask}
use Rattle.walking.proofs.Choices.{underway_first, next_is_date, underway_more, underway_last}
use Rattle.walking.proofs.choosing.write_fit.Goals as goal

pub loop-at-init : goal.loop-at-init
loop-at-init c =
    let out = c.args.out.now in (
      refl,
      rw (c.begin-walker.ensures.walk, c.begin-walker.ensures.tables) (underway_first (seen c.args.tables.tables) c.args.counts.now c.args.dates out c.requires.3),
    )

pub overflow_cast-date : goal.overflow_cast-date
overflow_cast-date c =
    let (same, going) = c.loop-at.invariant in
    let m = mask c.loop-at.walker.walk in
    let tables = c.begin-walker.result.tables.tables in
    let small = next_is_date (seen tables) c.args.counts.now c.args.dates c.args.out.now c.loop-at.at m c.loop-at.out c.loop-at-test.true going in
    let date = rw same at c.next_date-date.ensures in
    omega (arith, small, date)

pub loop-at-preserved : goal.loop-at-preserved
loop-at-preserved c =
    let (same, going) = c.loop-at.invariant in
    let tables = c.begin-walker.result.tables.tables in
    let room = c.loop-at.auto.out in (
      c.move_by.ensures.tables ∙ same,
      underway_more (seen tables) c.args.counts.now _ _ _ _ _ c.loop-at-test.true going _ _ (omega (arith, room, c.requires.1)) (rw same at c.next_date-date.ensures)
          (rw same at c.move_by.ensures.walk),
    )

pub returns : goal.returns
returns c =
    let (same, going) = c.loop-at.invariant in
    let end : c.loop-at.at ≡ c.args.dates = omega arith in
    rw (← c.begin-walker.ensures.tables) (underway_last (seen c.begin-walker.result.tables.tables) c.args.counts.now _ _ _ _ (rw end at going))
