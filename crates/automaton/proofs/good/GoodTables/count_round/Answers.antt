use Rattle.std.proofs.Common.{arith}
use Rattle.meaning.specs.Flags.{flags}
use Rattle.automaton.specs.Handed.{seen}
use Rattle.automaton.specs.Rounds.{next_entry}
use Rattle.automaton.proofs.Counts.{is_list_of, rounded_more}
use Rattle.automaton.proofs.good.GoodTables.count_round.Goals as goal

pub loop-state-preserved : goal.loop-state-preserved
loop-state-preserved c =
    rounded_more (seen c.args.self.now.tables) c.args.round _ _ c.requires.1 _ c.loop-state.invariant _ (omega arith) c.next_count.ensures

pub returns : goal.returns
returns c =
    is_list_of _ _ (next_entry flags (seen c.args.self.now.tables) c.args.round c.args.counts.now) (omega arith) (λ k h. c.loop-state.invariant.done k (omega arith))
