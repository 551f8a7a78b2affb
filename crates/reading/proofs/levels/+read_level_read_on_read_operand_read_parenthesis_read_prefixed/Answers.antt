use native.Mathlib.Omega.{arith}
use mathlib.Core.Path.{subst}
use Rattle.std.specs.Prelude.{◌-◌, Some, Ok}
use Rattle.reading.specs.declared.signs.Head.{Head}
use Rattle.reading.specs.declared.signs.Link.{Link}
use Rattle.reading.specs.declared.tree.Tree.{Tree}
use Rattle.reading.specs.Parts as parts
use Rattle.reading.proofs.levels.+read_level_read_on_read_operand_read_parenthesis_read_prefixed.Goals as goal

pub read_on-returns-in_default-link : goal.read_on-returns-in_default-link
read_on-returns-in_default-link t c =
    let x = c.args in
    parts.begun_on x.text.now x.level x.room x.at x.tree.now x.tree.now c.lacking.result
    (subst (λ (l : Link). parts.LinkAt x.text.now x.at (Some l)) c.in_default-link.is c.in-Some.ensures) c.lacking.ensures

pub read_on-returns-then-room-row : goal.read_on-returns-then-room-row
read_on-returns-then-room-row t c =
    let x = c.args in
    parts.row_deep x.text.now c.in-Sign.sign c.row-row.result x.at c.in-Sign.to c.row-row.ensures
    (subst (λ (l : Link). parts.LinkAt x.text.now x.at (Some l)) c.in-Sign.is c.in-Some.ensures) x.level x.room x.tree.now x.tree.now c.if-row-level.false c.if-room-row.true

pub read_on-returns-in_default-part : goal.read_on-returns-in_default-part
read_on-returns-in_default-part t c =
    let x = c.args in
    let after = c.read_level-part.new.tree in
    parts.row_refused x.text.now c.in-Sign.sign c.row-row.result x.at c.in-Sign.to c.row-row.ensures
    (subst (λ (l : Link). parts.LinkAt x.text.now x.at (Some l)) c.in-Sign.is c.in-Some.ensures) x.level x.room x.tree.now after after c.read_level-part.result
    c.in_default-part.is c.if-row-level.false (omega arith) c.read_level-part.ensures

pub read_on-returns : goal.read_on-returns
read_on-returns t c =
    let x = c.args in
    let w = subst (λ (l : Link). parts.LinkAt x.text.now x.at (Some l)) c.in-Sign.is c.in-Some.ensures in
    let inside = parts.row_inside x.text.now c.in-Sign.sign c.row-row.result x.at c.in-Sign.to c.row-row.ensures w in
    let y : parts.Answers c.row-row.result.right (x.room - c.row-row.result.deeper) x.text.now c.in-Sign.to x.tree.now c.read_level-part.new.tree (Ok c.in-Ok.next) = c.in-Ok.ensures in
    let f = c.requires.3 in
    parts.row_joined x.text.now c.in-Sign.sign c.row-row.result x.at c.in-Sign.to c.row-row.ensures w x.level x.room c.in-Ok.next x.tree.now
    c.read_level-part.new.tree c.read_on.new.tree c.read_on.result c.if-row-level.false (omega arith) y (omega (arith, inside, y.short, y.inside, f.few, f.short))
    (subst (λ (z : Tree). parts.GoesFrom x.level x.room x.text.now c.in-Ok.next z c.read_on.new.tree c.read_on.result) c.push.ensures c.read_on.ensures)

pub read_operand-returns-in_default : goal.read_operand-returns-in_default
read_operand-returns-in_default t c =
    let x = c.args in
    parts.operand_missing x.text.now x.room x.start c.skip-at.result x.tree.now x.tree.now c.lacking.result c.skip-at.ensures c.in_default.ensures c.lacking.ensures

pub read_operand-returns-in-Leaf : goal.read_operand-returns-in-Leaf
read_operand-returns-in-Leaf t c =
    let x = c.args in
    let at = c.skip-at.result in
    let w = (subst (λ (h : Head). parts.HeadAt x.text.now at (Some h)) c.in-Leaf.is c.in-Some.ensures).begins in
    rw c.push.ensures
    (parts.skipped x.text.now 0 x.room x.start at x.tree.now _ (Ok c.skip.result) c.skip-at.ensures
    (parts.leaf_read x.text.now x.room at c.skip.result c.in-Leaf.leaf x.tree.now w c.requires.wide
    (omega (arith, c.requires.few, c.requires.wide, c.requires.short, c.skip-at.ensures.after, w.0.inside)) c.skip.ensures))
