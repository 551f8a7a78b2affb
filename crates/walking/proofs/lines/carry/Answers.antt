use Rattle.std.specs.Prelude.{◌≡◌, ◌+◌, ◌-◌}
use Rattle.std.proofs.Common.{arith}
use Rattle.walking.specs.PromisesLaws.{carries_none, carries_all}
use Rattle.walking.proofs.lines.carry.Goals as goal

pub returns-then-stop-at : goal.returns-then-stop-at
returns-then-stop-at c = carries_none _ _ _ _ c.min-stop.ensures c.if-stop-at.true

pub returns : goal.returns
returns c =
    let count : c.args.at + c.min-count.result - c.args.at ≡ c.min-count.result = omega arith in
    let front : 0 + c.min-count.result ≡ c.min-count.result = omega arith in
    carries_all _ _ _ _ c.min-stop.ensures c.min-count.result _ (omega arith) (omega arith) (rw (count, front) at c.copy_within.ensures.after)
