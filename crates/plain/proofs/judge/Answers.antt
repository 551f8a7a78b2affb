use Rattle.std.proofs.Common.{◌≡◌, Some, Ok, arith, subst}
use Rattle.rule.specs.declared.Rule.{Rule}
use Rattle.plain.specs.Judging.{Judging}
use Rattle.plain.proofs.Masked.{some, few}
use Rattle.plain.proofs.Dates.{same_rule, judged}
use Rattle.plain.proofs.judge.Goals as goal

pub overflow_sub-numbering : goal.overflow_sub-numbering
overflow_sub-numbering c = let n = c.in_ok-numbering.numbering in some n.rule.now n.is_rule

pub overflow_cast-numbering : goal.overflow_cast-numbering
overflow_cast-numbering c = let n = c.in_ok-numbering.numbering in omega (arith, few n.rule.now n.is_rule)

pub has-requires : goal.has-requires
has-requires c = let n = c.in_ok-numbering.numbering in omega (arith, some n.rule.now n.is_rule, few n.rule.now n.is_rule)

pub returns : goal.returns
returns c =
    let n = c.in_ok-numbering.numbering in
    let e : c.numbering.result ≡ Some n = grind arith in
    subst (λ (rule : Rule). Judging rule c.args.series.now (Ok c.has.result)) (same_rule c.args.rule.now c.numbering.result n c.numbering.ensures e)
    (judged n.rule.now c.args.series.now n.is_rule c.on_series-here.result c.on_series-here.ensures c.has.result c.has.ensures)
