use Rattle.std.proofs.Common.{ℕ, [], false, ◌≡◌, arith, subst}
use Rattle.meaning.specs.Rest.{Rest}
use Rattle.plain.specs.Masking.{MaskOf}
use Rattle.plain.proofs.Masked.{few, below, all_of, entry_inner, mask_none, ends_more}
use Rattle.plain.proofs.passes.at_end.Goals as goal

pub shared_ref_as_front-formulas : goal.shared_ref_as_front-formulas
shared_ref_as_front-formulas c = few c.args.numbering.rule.now c.args.numbering.is_rule

pub loop-k-init : goal.loop-k-init
loop-k-init c = let rule = c.args.numbering.rule.now in mask_none rule.entries (λ φ. Rest rule.profile false φ [])

pub offset_bounds-formulas-k : goal.offset_bounds-formulas-k
offset_bounds-formulas-k c = omega (arith, below c.args.numbering.rule.now c.args.numbering.is_rule c.loop-k.k c.loop-k-test.true)

pub may_at_end-holds-requires : goal.may_at_end-holds-requires
may_at_end-holds-requires c = entry_inner c.args.numbering.rule.now c.args.numbering.is_rule c.loop-k.k c.loop-k-test.true

pub overflow_cast-k : goal.overflow_cast-k
overflow_cast-k c = omega (arith, below c.args.numbering.rule.now c.args.numbering.is_rule c.loop-k.k c.loop-k-test.true)

pub with_number-here-requires : goal.with_number-here-requires
with_number-here-requires c = (below c.args.numbering.rule.now c.args.numbering.is_rule c.loop-k.k c.loop-k-test.true).1

pub loop-k-preserved : goal.loop-k-preserved
loop-k-preserved c =
    let loop = c.loop-k in
    let says = c.may_at_end-holds in
    ends_more c.args.numbering.rule.now c.args.numbering.is_rule loop.k loop.here c.with_number-here.result says.result c.loop-k-test.true loop.invariant
    says.ensures c.with_number-here.ensures

pub returns : goal.returns
returns c =
    let rule = c.args.numbering.rule.now in
    let loop = c.loop-k in
    let e : loop.k ≡ rule.count = omega (arith, all_of rule c.args.numbering.is_rule) in
    subst (λ (n : ℕ). MaskOf rule.entries (λ φ. Rest rule.profile false φ []) n loop.here) e loop.invariant
