use Rattle.std.proofs.Common.{◌≡◌, ◌+◌, ◌-◌, ◌≤◌}
use Rattle.judge.proofs.streams.Streams.answer_ended.Given as goal

abbrev pub invariant-loop-progress : goal.invariant-loop-progress
invariant-loop-progress l =
    (l.progress.at ≤ l.count) × (l.progress.end ≡ 0) × (l.progress.number + l.fn.from.at ≤ l.fn.from.number + l.progress.at)

abbrev pub decreases-loop-progress : goal.decreases-loop-progress
decreases-loop-progress l = l.count - l.progress.at
