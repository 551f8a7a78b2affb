use mathlib.Core.Path.{sym, ◌∙◌}
use Rattle.automaton.specs.Handed.{seen}
use Rattle.walking.specs.MovingLaws.{good_small}
use Rattle.walking.proofs.Steps.{none_first, none_more, accepted, not_accepted}
use Rattle.walking.proofs.walkers.Walker.accepts.Goals as goal

pub loop-state-init : goal.loop-state-init
loop-state-init c =
    rw (c.into_iter-state-iterator.ensures.into_iter_gives, c.states-state-items.ensures) (none_first (seen c.args.self.now.tables.tables) _)

pub returns-then-accepts : goal.returns-then-accepts
returns-then-accepts c =
    let self = c.args.self.now in
    accepted _ self.tables.good _ (good_small _ _ self.good) _ _ _ c.loop-state.invariant c.in-Some.ensures.steps (sym c.accepts.ensures ∙ c.if-accepts.true)

pub loop-state-preserved : goal.loop-state-preserved
loop-state-preserved c =
    let self = c.args.self.now in
    none_more _ self.tables.good _ (good_small _ _ self.good) _ _ _ c.loop-state.invariant c.in-Some.ensures.steps (sym c.accepts.ensures ∙ c.if-accepts.false)

pub returns : goal.returns
returns c =
    let self = c.args.self.now in
    not_accepted _ self.tables.good _ (good_small _ _ self.good) _ c.in-None.ensures.steps c.loop-state.invariant
