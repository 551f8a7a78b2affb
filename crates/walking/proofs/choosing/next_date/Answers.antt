use Rattle.automaton.specs.Handed.{seen}
use Rattle.walking.specs.MovingLaws.{good_small}
use Rattle.walking.proofs.Choices.{least_first, least_row, least_all}
use Rattle.walking.proofs.choosing.next_date.Goals as goal

pub loop-state-init : goal.loop-state-init
loop-state-init c =
    rw (c.into_iter-state-iterator.ensures.into_iter_gives, c.states-state-items.ensures, c.walk.ensures)
    (least_first (seen c.args.walker.now.tables.tables) c.args.counts.now c.args.count _)

pub loop-state-preserved : goal.loop-state-preserved
loop-state-preserved c =
    let walker = c.args.walker.now in
    least_row _ walker.tables.good c.args.counts.now c.args.count _ (good_small _ _ walker.good) _ _ _ _ _ _ c.loop-state.invariant
    c.in-Some.ensures.steps c.row_date.ensures c.min-least.ensures

pub returns : goal.returns
returns c =
    let walker = c.args.walker.now in
    least_all _ walker.tables.good c.args.counts.now c.args.count _ (good_small _ _ walker.good) _ _ c.in-None.ensures.steps c.loop-state.invariant
