use mathlib.Core.Path.{refl, sym, ◌∙◌}
use native.Mathlib.Omega.{arith}
use Rattle.std.specs.Prelude.{length}
use Rattle.automaton.specs.Handed.{seen}
use Rattle.walking.specs.ReadingLaws.{underway_none, underway_more, underway_all, answers_yes, answers_no, bad_odd, bad_long, bad_first, bad_second}
use Rattle.walking.proofs.series.answer_line.Goals.{then-line-eq1-via-then-line-eq1, then-line-eq1-via-else-line-eq1+then-line-gt-DIGITS}
use Rattle.walking.proofs.series.answer_line.Goals as goal

pub returns-then-line-eq1 : goal.returns-then-line-eq1
returns-then-line-eq1 c = elim c.then-line-eq1.branch [
  | then-line-eq1-via-then-line-eq1 w ↦ bad_odd c.args.line.now w.if-line-eq1.true
  | then-line-eq1-via-else-line-eq1+then-line-gt-DIGITS w ↦ bad_long c.args.line.now w.if-line-gt-DIGITS.true
]

pub loop-pair-init : goal.loop-pair-init
loop-pair-init c =
    let items = c.chunks_exact-pair-items.ensures in
    rw (c.into_iter-pair-iterator.ensures.into_iter_gives) (refl, items.size, rw (items.rest) (underway_none _ _ _ c.begin-walker.ensures.walk))

pub returns-in_default : goal.returns-in_default
returns-in_default c =
    let (same, size, going) = c.loop-pair.invariant in
    let (size', (cut, two), rem) = c.in-Some.ensures.steps in
    bad_second _ _ _ _ _ _ cut (two ∙ size) going c.in_default.ensures'.digit

pub returns-in_default-2 : goal.returns-in_default-2
returns-in_default-2 c =
    let (same, size, going) = c.loop-pair.invariant in
    let (size', (cut, two), rem) = c.in-Some.ensures.steps in
    bad_first _ _ _ _ _ _ cut (two ∙ size) going (rw c.in_default.is-0 at c.value_of.ensures).digit

pub loop-pair-preserved : goal.loop-pair-preserved
loop-pair-preserved c =
    let (same, size, going) = c.loop-pair.invariant in
    let (size', (cut, two), rem) = c.in-Some.ensures.steps in
    let digits = c.in-Some-Some in (
      c.move_by.ensures.tables ∙ same,
      size' ∙ size,
      underway_more _ _ _ _ _ _ cut (two ∙ size) going _ _ _ digits.ensures.digit digits.ensures'.digit (rw same at c.move_by.ensures.walk),
    )

pub returns-then-accepts : goal.returns-then-accepts
returns-then-accepts c =
    let (same, size, going) = c.loop-pair.invariant in
    let (size', (short, end), rem) = c.in-None.ensures.steps in
    let said = rw same at (sym c.accepts.ensures ∙ c.if-accepts.true) in
    rw (← c.begin-walker.ensures.tables)
    (answers_yes (seen c.begin-walker.result.tables.tables) c.args.line.now (length c.args.line.now) _ (omega arith) (omega arith)
    (underway_all _ _ c.if-line-eq1.false _ _ (omega (arith, short, size)) going) said)

pub returns-else-accepts : goal.returns-else-accepts
returns-else-accepts c =
    let (same, size, going) = c.loop-pair.invariant in
    let (size', (short, end), rem) = c.in-None.ensures.steps in
    let said = rw same at (sym c.accepts.ensures ∙ c.if-accepts.false) in
    rw (← c.begin-walker.ensures.tables)
    (answers_no (seen c.begin-walker.result.tables.tables) c.args.line.now (length c.args.line.now) _ (omega arith) (omega arith)
    (underway_all _ _ c.if-line-eq1.false _ _ (omega (arith, short, size)) going) said)
