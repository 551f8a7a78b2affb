use Rattle.std.proofs.Common.{sym, ap, ◌∙◌, Some}
use Rattle.rule.specs.Visiting.{taken}
use Rattle.rule.proofs.Testing.{visit_alone, visit_over, right_high, left_failed, right_failed, visit_both}
use Rattle.rule.proofs.+visit.Goals as goal

pub returns-then-k-next : goal.returns-then-k-next
returns-then-k-next t c = record { visits = taken c.if-k-next.true }

pub returns-in_err-j-in-Two : goal.returns-in_err-j-in-Two
returns-in_err-j-in-Two t c = rw c.from_residual-in_err-j-in-Two.ensures (
    right_high c.if-k-next.false _ _ (sym c.in_ok-parts_of.ensures ∙ ap Some c.in-Two.is) c.in_err-j-in-Two.ensures)

pub returns-in_err-middle-in-Two : goal.returns-in_err-middle-in-Two
returns-in_err-middle-in-Two t c = rw c.from_residual-in_err-middle-in-Two.ensures (
    left_failed c.if-k-next.false _ _ (sym c.in_ok-parts_of.ensures ∙ ap Some c.in-Two.is) c.in_ok-i-in-Two.ensures.1 c.in_err-middle-in-Two.ensures)

pub returns-in_err-end-in-Two : goal.returns-in_err-end-in-Two
returns-in_err-end-in-Two t c = rw c.from_residual-in_err-end-in-Two.ensures (
    right_failed c.if-k-next.false _ _ (sym c.in_ok-parts_of.ensures ∙ ap Some c.in-Two.is) c.in_ok-i-in-Two.ensures c.in_ok-j-in-Two.ensures
    c.in_ok-middle-in-Two.ensures c.in_err-end-in-Two.ensures)

pub returns-in-Nothing : goal.returns-in-Nothing
returns-in-Nothing t c = visit_alone c.if-k-next.false (sym c.in_ok-parts_of.ensures ∙ ap Some c.in-Nothing.is) _ c.own.ensures

pub returns-in_ok-middle-in-One : goal.returns-in_ok-middle-in-One
returns-in_ok-middle-in-One t c =
    visit_over c.if-k-next.false _ (sym c.in_ok-parts_of.ensures ∙ ap Some c.in-One.is) c.in_ok-below-in-One.ensures c.in_ok-middle-in-One.ensures _ c.own-in-One.ensures

pub returns-in_ok-end-in-Two : goal.returns-in_ok-end-in-Two
returns-in_ok-end-in-Two t c =
    visit_both c.if-k-next.false _ _ (sym c.in_ok-parts_of.ensures ∙ ap Some c.in-Two.is) c.in_ok-i-in-Two.ensures c.in_ok-j-in-Two.ensures
    c.in_ok-middle-in-Two.ensures c.in_ok-end-in-Two.ensures _ c.own-in-Two.ensures
