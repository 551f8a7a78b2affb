use Rattle.std.specs.Prelude.{◌⊎◌, ◌<◌, ◌≡◌, ◌-◌, Some, None, Err}
use Rattle.std.proofs.Common.{inl, inr, ⊎_elim, refl, subst, arith, rules}
use Rattle.std.proofs.Math.Path.{subst⁻¹}
use Rattle.answers.specs.declared.Refusal.TheVariants.{NotARule}
use Rattle.rule.specs.Testing.{TestedAs}
use Rattle.rule.specs.declared.Rule.{Rule}
use Rattle.rule.proofs.ListingLaws.{rule_some, rule_few}
use Rattle.printing.specs.Shapes.{SizeIs}
use Rattle.printing.specs.Printing.{Printing, not_a_rule, short_slice}
use Rattle.printing.proofs.Whole.{excessive_refused, whole_room, same_slice, printed_right}
use Rattle.printing.proofs.print.Goals as goal

pub returns-in_err-numbering : goal.returns-in_err-numbering
returns-in_err-numbering c =
    let none : c.numbering.result ≡ None = grind arith in
    let refused : c.from_residual.result ≡ Err NotARule = grind arith in
    subst⁻¹ (Printing c.args.rule.now c.args.out.now c.args.out.now) refused
    (record { right = (not_a_rule (subst (TestedAs c.args.rule.now) none c.numbering.ensures.tested), refl) })

pub returns-then-out-lt-MOST_BYTES : goal.returns-then-out-lt-MOST_BYTES
returns-then-out-lt-MOST_BYTES c =
    let some : c.numbering.result ≡ Some c.in_ok-numbering.numbering = grind arith in
    let (is_rule, same) = subst (TestedAs c.args.rule.now) some c.numbering.ensures.tested in
    record { right = (short_slice is_rule c.if-out-lt-MOST_BYTES.true, refl) }

pub returns-then-size-gt-MOST_BYTES : goal.returns-then-size-gt-MOST_BYTES
returns-then-size-gt-MOST_BYTES c =
    let some : c.numbering.result ≡ Some c.in_ok-numbering.numbering = grind arith in
    let (is_rule, same) = subst (TestedAs c.args.rule.now) some c.numbering.ensures.tested in
    let sized = subst (λ (rule : Rule). SizeIs rule.entries (rule.count - 1) c.measure-size.result) same c.measure-size.ensures in
    let over : (1024 < c.measure-size.result.bytes) ⊎ (32 < c.measure-size.result.depth) =
    ⊎_elim (λ b. inl (omega arith)) (λ (b, d). inr (omega arith)) c.then-size-gt-MOST_BYTES.either in
    excessive_refused _ is_rule _ sized _ (omega arith) over

pub overflow_sub-rule : goal.overflow_sub-rule
overflow_sub-rule c =
    let some : c.numbering.result ≡ Some c.in_ok-numbering.numbering = grind arith in
    let (is_rule, same) = subst (TestedAs c.args.rule.now) some c.numbering.ensures.tested in
    rule_some _ _ is_rule.1

pub overflow_cast-rule : goal.overflow_cast-rule
overflow_cast-rule c =
    let some : c.numbering.result ≡ Some c.in_ok-numbering.numbering = grind arith in
    let (is_rule, same) = subst (TestedAs c.args.rule.now) some c.numbering.ensures.tested in
    omega (arith, rule_few _ _ is_rule.1)

pub write-requires : goal.write-requires
write-requires c =
    let some : c.numbering.result ≡ Some c.in_ok-numbering.numbering = grind arith in
    let (is_rule, same) = subst (TestedAs c.args.rule.now) some c.numbering.ensures.tested in
    let sized = subst (λ (rule : Rule). SizeIs rule.entries (rule.count - 1) c.measure-size.result) same c.measure-size.ensures in
    whole_room _ is_rule _ sized (omega arith) (omega arith) _ refl (omega arith)

pub returns : goal.returns
returns c =
    let some : c.numbering.result ≡ Some c.in_ok-numbering.numbering = grind arith in
    let (is_rule, same) = subst (TestedAs c.args.rule.now) some c.numbering.ensures.tested in
    let sized = subst (λ (rule : Rule). SizeIs rule.entries (rule.count - 1) c.measure-size.result) same c.measure-size.ensures in
    let right = printed_right _ is_rule _ sized (omega arith) (omega arith) _ _ refl (omega arith) c.write.ensures in
    let kept = same_slice _ is_rule _ sized (omega arith) (omega arith) c.write.ensures in
    search rules
