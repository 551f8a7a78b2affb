use Rattle.std.proofs.Common.{take, rules, arith, length-take}
use Rattle.judge.proofs.Steps.{onward}
use Rattle.judge.proofs.streams.Streams.answer_ended.Goals as goal

pub returns-then-progress-eq0 : goal.returns-then-progress-eq0
returns-then-progress-eq0 c =
    let bytes = take c.args.count c.loop-progress.self.chunk in
    let o = onward _ bytes c.loop-progress.progress _ _ c.unwrap-progress.result _ c.unwrap-progress.ensures (omega arith) c.answer_lines.ensures in
    (c.if-progress-eq0.true, omega (arith, length-take c.args.count c.loop-progress.self.chunk))

pub loop-progress-smaller : goal.loop-progress-smaller
loop-progress-smaller c =
    let bytes = take c.args.count c.loop-progress.self.chunk in
    let o = onward _ bytes c.loop-progress.progress _ _ c.unwrap-progress.result _ c.unwrap-progress.ensures (omega arith) c.answer_lines.ensures in
    let m = o.moves (let n = c.if-progress-eq0.false in omega arith) in
    omega (arith, m, length-take c.args.count c.loop-progress.self.chunk)

pub loop-progress-preserved : goal.loop-progress-preserved
loop-progress-preserved c =
    let bytes = take c.args.count c.loop-progress.self.chunk in
    let o = onward _ bytes c.loop-progress.progress _ _ c.unwrap-progress.result _ c.unwrap-progress.ensures (omega arith) c.answer_lines.ensures in
    (omega (arith, length-take c.args.count c.loop-progress.self.chunk), search rules, omega arith)
