use lib.ListN.{length}
use Rattle.automaton.specs.Handed.{seen}
use Rattle.walking.specs.Walks.{Accepted}
use Rattle.walking.specs.Answering.{Reaches}
use Prim.Native.Nat.{◌-◌}
use Rattle.walking.proofs.answering.lines_answered.Given as goal

abbrev pub invariant-loop-out : goal.invariant-loop-out
invariant-loop-out l = Reaches (Accepted (seen l.tables.tables)) l.bytes l.initial.progress l.initial.out l.progress l.out

abbrev pub decreases-loop-out : goal.decreases-loop-out
decreases-loop-out l = length l.bytes - l.progress.at
