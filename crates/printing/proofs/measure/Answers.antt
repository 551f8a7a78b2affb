use Rattle.std.proofs.Common.{arith, refl, length-set}
use Rattle.rule.proofs.Deciding.{known_rule}
use Rattle.rule.proofs.ListingLaws.{rule_some, rule_few}
use Rattle.printing.proofs.Sizing.{rule_standing, sizes_none, sizes_more}
use Rattle.printing.proofs.measure.Goals as goal

pub loop-k-init : goal.loop-k-init
loop-k-init c =
    let numbers = (known_rule _ c.args.numbering.is_rule).1 in
    (rule_some _ _ numbers, rule_few _ _ numbers, refl, rw c.cut-sizes.ensures (sizes_none _ 64))

pub size_of-requires : goal.size_of-requires
size_of-requires c = (rule_standing _ (known_rule _ c.args.numbering.is_rule) _ (omega arith), c.loop-k.invariant.3)

pub loop-k-preserved : goal.loop-k-preserved
loop-k-preserved c = (
  c.loop-k.invariant.0,
  c.loop-k.invariant.1,
  simp length-set c.loop-k.invariant.2,
  sizes_more _ _ _ _ (omega arith) c.loop-k.invariant.3 (rule_standing _ (known_rule _ c.args.numbering.is_rule) _ (omega arith)) c.size_of.ensures,
)

pub returns : goal.returns
returns c = record { size = λ φ x. c.loop-k.invariant.3.each _ φ (omega arith) x }
