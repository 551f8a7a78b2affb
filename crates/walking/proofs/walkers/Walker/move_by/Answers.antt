use mathlib.Core.List.{[], ◌∷◌}
use mathlib.Core.Path.{sym, ◌∙◌, subst⁻¹}
use Rattle.std.specs.Prelude.{T}
use lib.Dec.{eqb→eq}
use Rattle.meaning.specs.Flags.{flags}
use Rattle.automaton.proofs.WalkLaws.{walked_none}
use Rattle.automaton.specs.Handed.{seen}
use Rattle.walking.specs.MovingLaws.{good_small, small_good}
use Rattle.walking.proofs.Steps.{moved_none, moved_small, moved_row, moved_all}
use Rattle.walking.proofs.walkers.Walker.move_by.Goals as goal

pub returns-then-is_closed-clause-walk : goal.returns-then-is_closed-clause-walk
returns-then-is_closed-clause-walk c =
    let none = eqb→eq _ 0 (subst⁻¹ T (sym c.is_closed.ensures ∙ c.if-is_closed.true) tt) in
    rw none (sym (walked_none flags (seen c.args.self.now.tables.tables) (c.args.date ∷ [])))

pub loop-state-init : goal.loop-state-init
loop-state-init c = rw (c.into_iter-state-iterator.ensures.into_iter_gives, c.states-state-items.ensures) (moved_none (seen c.args.self.now.tables.tables) _ _)

pub moved_along-moved-requires : goal.moved_along-moved-requires
moved_along-moved-requires c = moved_small _ _ _ _ _ c.loop-state.invariant

pub loop-state-preserved : goal.loop-state-preserved
loop-state-preserved c =
    let self = c.args.self.now in
    moved_row _ _ _ self.tables.good (good_small _ _ self.good) _ _ _ _ _ c.loop-state.invariant c.in-Some.ensures.steps (rw c.on-passing.ensures at c.moved_along-moved.ensures)

pub invariant_of-self : goal.invariant_of-self
invariant_of-self c = record { good = small_good _ _ (moved_small _ _ _ _ _ c.loop-state.invariant) }

pub returns-clause-walk : goal.returns-clause-walk
returns-clause-walk c =
    let self = c.args.self.now in
    moved_all _ _ _ self.tables.good (good_small _ _ self.good) _ _ c.in-None.ensures.steps c.loop-state.invariant
