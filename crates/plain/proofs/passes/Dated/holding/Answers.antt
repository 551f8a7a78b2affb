use Rattle.std.proofs.Common.{ℕ, ◌≡◌, arith, subst}
use Rattle.plain.specs.Masking.{PassOver}
use Rattle.plain.proofs.Masked.{few, below, all_of, entry_inner, pass_none, pass_more}
use Rattle.plain.proofs.passes.Dated.holding.Goals as goal

pub shared_ref_as_front-formulas : goal.shared_ref_as_front-formulas
shared_ref_as_front-formulas c = few c.args.numbering.rule.now c.args.numbering.is_rule

pub loop-k-init : goal.loop-k-init
loop-k-init c = let at = c.args.self in pass_none c.args.numbering.rule.now c.args.numbering.is_rule at.date at.must at.may

pub offset_bounds-formulas-k : goal.offset_bounds-formulas-k
offset_bounds-formulas-k c = omega (arith, below c.args.numbering.rule.now c.args.numbering.is_rule c.loop-k.k c.loop-k-test.true)

pub overflow_cast-number : goal.overflow_cast-number
overflow_cast-number c = omega (arith, below c.args.numbering.rule.now c.args.numbering.is_rule c.loop-k.k c.loop-k-test.true)

pub says-holds-requires : goal.says-holds-requires
says-holds-requires c =
    let rule = c.args.numbering.rule.now in
    let is = c.args.numbering.is_rule in
    ((below rule is c.loop-k.k c.loop-k-test.true).1, entry_inner rule is c.loop-k.k c.loop-k-test.true)

pub with_number-here-requires : goal.with_number-here-requires
with_number-here-requires c = (below c.args.numbering.rule.now c.args.numbering.is_rule c.loop-k.k c.loop-k-test.true).1

pub loop-k-preserved : goal.loop-k-preserved
loop-k-preserved c =
    let at = c.args.self in
    let loop = c.loop-k in
    let says = c.says-holds in
    pass_more c.args.numbering.rule.now c.args.numbering.is_rule at.date at.must at.may loop.k loop.here c.with_number-here.result says.result
    c.loop-k-test.true loop.invariant says.ensures c.with_number-here.ensures

pub returns : goal.returns
returns c =
    let rule = c.args.numbering.rule.now in
    let at = c.args.self in
    let loop = c.loop-k in
    let e : loop.k ≡ rule.count = omega (arith, all_of rule c.args.numbering.is_rule) in
    subst (λ (n : ℕ). PassOver rule at.date at.must at.may n loop.here) e loop.invariant
