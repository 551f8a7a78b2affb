use Rattle.std.proofs.Common.{◌≡◌, ◌+◌, ◌*◌, ◌^◌, ◌≤◌, ◌<◌}
use Rattle.judge.proofs.streams.Streams.answer_all.Given as goal

abbrev pub invariant-loop-turn : goal.invariant-loop-turn
invariant-loop-turn l =
    (l.from.at ≤ l.end) × (l.end < 65536) × (l.from.end ≡ 0) × (l.from.number ≤ 1 + 65536 * l.turn) × (l.turn ≤ 2 ^ 47)
