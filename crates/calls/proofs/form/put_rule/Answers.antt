use Rattle.std.specs.Prelude.{◌≡◌, length}
use Rattle.std.proofs.Common.{rules, arith, ◌∙◌}
use Rattle.calls.proofs.Writing.{written_none, written_more, written_all}
use Rattle.calls.proofs.form.put_rule.Goals as goal

pub loop-i-init : goal.loop-i-init
loop-i-init c = record { long = λ h. absurd (omega arith); written = written_none _ _ }

pub loop-i-preserved : goal.loop-i-preserved
loop-i-preserved c =
    let long : length c.args.rule.now.entries ≡ 64 = search rules in
    record {
      long = λ h. long;
      written = rw (c.loop-i.invariant.written, c.copy_from_slice.ensures.after) (written_more _ _ long c.loop-i.i _ c.loop-i-test.true (omega arith) c.from-code.result c.from-code.ensures);
    }

pub returns : goal.returns
returns c =
    let t = c.loop-i.invariant in
    let e : c.loop-i.i ≡ 64 = omega arith in
    t.written ∙ (rw e (written_all _ _ (t.long (omega arith))))
