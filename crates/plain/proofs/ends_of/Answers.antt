use Rattle.std.proofs.Common.{◌≡◌, Some, Ok, arith, subst}
use Rattle.rule.proofs.Deciding.{known_rule}
use Rattle.rule.specs.declared.Rule.{Rule}
use Rattle.plain.specs.Ends.{EndsOf}
use Rattle.plain.specs.EndsLaws.{mask_may_accept}
use Rattle.plain.proofs.Dates.{same_rule}
use Rattle.plain.proofs.ends_of.Goals as goal

pub returns : goal.returns
returns c =
    let n = c.in_ok-numbering.numbering in
    let e : c.numbering.result ≡ Some n = grind arith in
    let (φ, is) = known_rule n.rule.now n.is_rule in
    subst (λ (rule : Rule). EndsOf rule (Ok c.at_end.result)) (same_rule c.args.rule.now c.numbering.result n c.numbering.ensures e)
    (record { right = (φ, is, mask_may_accept n.rule.now φ is c.at_end.result c.at_end.ensures) })
