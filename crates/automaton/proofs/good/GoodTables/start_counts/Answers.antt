use Rattle.std.proofs.Common.{arith}
use Rattle.automaton.specs.Handed.{seen}
use Rattle.automaton.specs.Rounds.{first_entry}
use Rattle.automaton.proofs.Counts.{is_list_of}
use Rattle.automaton.proofs.good.GoodTables.start_counts.Goals as goal

pub returns : goal.returns
returns c = is_list_of _ _ (first_entry (seen c.args.self.now.tables)) (omega arith) (λ k h. c.loop-state.invariant k (omega arith))
