use native.Mathlib.Omega.{arith}
use mathlib.Core.Path.{subst}
use lib.ListN.{length}
use Rattle.walking.specs.Promises.{EndsAt}
use Rattle.walking.specs.PromisesLaws.{reaches_none, reaches_line, takes_all, takes_full}
use Prim.Native.Nat.{◌<◌}
use Rattle.walking.proofs.answering.lines_answered.Goals as goal

pub loop-out-init : goal.loop-out-init
loop-out-init c = let p = c.requires in reaches_none _ _ _ _ p.at p.end

pub overflow_sub-out : goal.overflow_sub-out
overflow_sub-out c = let w = c.loop-out.invariant.written in omega arith

pub returns-then-stop-bytes : goal.returns-then-stop-bytes
returns-then-stop-bytes c = takes_all _ _ _ _ _ _ c.loop-out.invariant (subst (EndsAt _ _) c.if-stop-bytes.true c.line_end-stop.ensures)

pub line_answered-progress-requires : goal.line_answered-progress-requires
line_answered-progress-requires c =
    let ready = c.requires in
    let i = c.loop-out.invariant in
    let e = c.line_end-stop.ensures in
    let l = i.written.long in
    let w = i.written.within in
    let n = c.if-stop-bytes.false in
    let t = c.loop-out-test.true in
    let h : c.line_end-stop.result < length c.args.bytes.now = omega arith in
    let low = (e.newline h).0 in
    let count = ready.number in
    let sofar = i.counted in
    (low, h, omega arith, omega (arith, count, sofar, low, h))

pub loop-out-smaller : goal.loop-out-smaller
loop-out-smaller c =
    let e = c.line_end-stop.ensures in
    let n = c.if-stop-bytes.false in
    let h : c.line_end-stop.result < length c.args.bytes.now = omega arith in
    let k = (e.newline h).0 in
    let a = c.line_answered-progress.ensures.at in
    omega arith

pub loop-out-preserved : goal.loop-out-preserved
loop-out-preserved c =
    let i = c.loop-out.invariant in
    let e = c.line_end-stop.ensures in
    let l = i.written.long in
    let w = i.written.within in
    let n = c.if-stop-bytes.false in
    let t = c.loop-out-test.true in
    reaches_line _ _ _ _ _ _ i _ c.line_end-stop.result _ (omega arith) e (omega arith) c.line_answered-progress.ensures

pub returns : goal.returns
returns c =
    let i = c.loop-out.invariant in
    let l = i.written.long in
    let w = i.written.within in
    takes_full _ _ _ _ _ _ i (omega arith)
