use mathlib.Core.Path.{subst⁻¹}
use borrow.Author.Rules.{rules}
use borrow.Author.Tests.{ne_eqb}
use Rattle.laws.specs.Decided.{Decides}
use Rattle.walking.specs.Walks.{GoodWalk}
use Rattle.walking.proofs.Words.{good_many, good_above, bad_above, good_low}
use Rattle.walking.proofs.Walk.is_within.Goals as goal

pub returns-then-states-ge-STATES : goal.returns-then-states-ge-STATES
returns-then-states-ge-STATES c = good_many _ _ (search rules) (search rules) c.if-states-ge-STATES.true

pub returns-then-states-ge64 : goal.returns-then-states-ge64
returns-then-states-ge64 c = good_above c.args.states c.args.self (search rules) c.if-states-ge64.true

pub returns-then-self-eq0 : goal.returns-then-self-eq0
returns-then-self-eq0 c = good_low c.args.states c.args.self c.if-self-eq0.true

pub returns-else-self-eq0 : goal.returns-else-self-eq0
returns-else-self-eq0 c = subst⁻¹ (λ b. Decides b (GoodWalk c.args.states c.args.self)) (ne_eqb c.args.self.high 0 c.if-self-eq0.false)
    (bad_above c.args.states c.args.self c.if-states-ge64.false c.if-self-eq0.false)
