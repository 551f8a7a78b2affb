use borrow.Author.Rules.{rules}
use Rattle.walking.proofs.Firsts.{lowest_word, lowest_low, lowest_high}
use Rattle.walking.proofs.sets.StatesIterator.next.Goals as goal

pub returns-then-low-ne0-clause-steps : goal.returns-then-low-ne0-clause-steps
returns-then-low-ne0-clause-steps c = lowest_low 64 _ _ (search rules) _ _ (lowest_word 64 _ (search rules) c.if-low-ne0.true)

pub returns-then-high-ne0-clause-steps : goal.returns-then-high-ne0-clause-steps
returns-then-high-ne0-clause-steps c = lowest_high 64 _ _ (search rules) _ _ c.if-low-ne0.false (lowest_word 64 _ (search rules) c.if-high-ne0.true)
