use Rattle.std.proofs.Common.{take, length, ◌-◌, [], ℕ, true, false, arith}
use Rattle.std.proofs.Math.Path.{subst⁻¹}
use Rattle.std.proofs.lemmas.List.{length_push}
use Rattle.std.proofs.lemmas.Iterator.Consumers.{YieldsList-turn, YieldsList-end}
use Rattle.std.proofs.lemmas.Iterator.Adapters.{YieldsList-from_rev_slice}
use Rattle.meaning.specs.Rest.{Rest}
use Rattle.plain.specs.Masking.{MaskOf}
use Rattle.plain.proofs.Masked.{must_mask}
use Rattle.plain.proofs.Dates.{mask_last, mask_earlier, mask_date, mask_all}
use Rattle.plain.proofs.passes.on_series.Goals as goal

pub loop-date-init : goal.loop-date-init
loop-date-init c =
    let rule = c.args.numbering.rule.now in
    let s = c.args.series.now in
    let may = c.at_end-may in
    let must = c.must_at_end-must in
    let last = mask_earlier rule s (length s) must.result may.result c.holding-after.result (omega arith) (omega arith)
    (mask_last rule s true must.result
    (subst⁻¹ (λ (m : ℕ). MaskOf rule.entries (λ φ. Rest rule.profile true φ []) rule.count m) must.ensures
    (must_mask rule.entries rule.count may.result rule.profile may.ensures)))
    (mask_last rule s false may.result may.ensures) c.holding-after.ensures in
    (last true, last false)

pub loop-date-preserved : goal.loop-date-preserved
loop-date-preserved c =
    let rule = c.args.numbering.rule.now in
    let s = c.args.series.now in
    let loop = c.loop-date in
    let t = YieldsList-turn (YieldsList-from_rev_slice (take (length s - 1) s) cc) loop.yielded _ loop.yielded_by _ _ c.in-Some.field-0 c.in-Some.is c.next.ensures.steps in
    let next = mask_date rule s (length loop.yielded) c.in-Some.field-0.now loop.after c.holding-after-in-loop-date.result t loop.invariant.0 loop.invariant.1
    c.holding-after-in-loop-date.ensures _ (length_push loop.yielded c.in-Some.field-0) in
    (next true, next false)

pub returns : goal.returns
returns c =
    let rule = c.args.numbering.rule.now in
    let s = c.args.series.now in
    let loop = c.loop-date in
    let t = YieldsList-end (YieldsList-from_rev_slice (take (length s - 1) s) cc) loop.yielded _ loop.yielded_by _ _ c.in-None.is c.next.ensures.steps in
    mask_all rule s (length loop.yielded) loop.after t.1 loop.invariant.0
