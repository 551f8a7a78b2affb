use Rattle.std.proofs.Common.{arith, ◌≡◌, refl, sym, ◌∙◌}
use Rattle.tables.proofs.Tails.{picked_none, member_pickable, picked_more, picked_same, state_picked}
use Rattle.tables.proofs.decoding.Decoder.state_choice.Goals as goal

pub loop-k-init : goal.loop-k-init
loop-k-init c = (refl, omega arith, picked_none _ _ _)

pub with_choice-picked-requires-clause-pickable : goal.with_choice-picked-requires-clause-pickable
with_choice-picked-requires-clause-pickable c = rw c.loop-k.invariant.0 (member_pickable _ _ _ c.requires _ (omega arith) (sym c.has.ensures ∙ c.if-has.true))

pub loop-k-preserved-then-has : goal.loop-k-preserved-then-has
loop-k-preserved-then-has c = (
  c.with_choice-picked.ensures.same_rule ∙ c.loop-k.invariant.0,
  omega arith,
  picked_more _ _ _ c.requires _ _ (omega arith) c.loop-k.invariant.1 _ c.loop-k.invariant.2 (sym c.has.ensures ∙ c.if-has.true) _ (rw c.loop-k.invariant.0 at c.with_choice-picked.ensures.picked),
)

pub loop-k-preserved : goal.loop-k-preserved
loop-k-preserved c = (
  c.loop-k.invariant.0,
  omega arith,
  picked_same _ _ _ c.requires _ _ (omega arith) c.loop-k.invariant.1 _ c.loop-k.invariant.2 (sym c.has.ensures ∙ c.if-has.false),
)

pub returns-clause-choice : goal.returns-clause-choice
returns-clause-choice c = let e : c.loop-k.k ≡ 0 = omega arith in state_picked _ _ _ c.requires _ (rw e at c.loop-k.invariant.2)
