use Rattle.tables.proofs.Known.{ready}
use Rattle.tables.proofs.Tails.{pick_some, picked_one}
use Rattle.tables.proofs.decoding.Decoder.with_choice.Goals as goal

pub nonzero_div-result : goal.nonzero_div-result
nonzero_div-result c = rw c.count_at-each.ensures (pick_some (ready c.args.self.now) c.requires.in_rule c.requires.pickable)

pub returns-clause-picked : goal.returns-clause-picked
returns-clause-picked c = rw (c.joined.ensures, c.count_at-each.ensures) (picked_one (ready c.args.self.now) c.requires.in_rule c.requires.pickable c.args.picked _ (rw c.count_at-each.ensures at c.choice_of-more.ensures.choice))
