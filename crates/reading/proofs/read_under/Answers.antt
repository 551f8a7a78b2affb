use mathlib.Core.Path.{◌≡◌, subst}
use borrow.Author.Rules.{rules}
use mathlib.Core.Bool.{true}
use mathlib.Core.Logic.{inl, inr}
use native.Mathlib.Omega.{arith}
use Rattle.std.specs.Prelude.{◌-◌, Option, Some, None, Err, length}
use Rattle.rule.specs.Numbering.{empty_in}
use Rattle.rule.specs.declared.FormulaNo.{FormulaNo}
use Rattle.reading.specs.declared.Refusal.TheVariants.{TooMany}
use Rattle.rule.specs.declared.Rule.{Rule}
use Rattle.reading.specs.Grammar.{too_long, not_sound, too_many}
use Rattle.reading.specs.Exact.{neither}
use Rattle.reading.specs.Pushing.{NumbersTree}
use Rattle.reading.specs.Outcomes.{numbered_rule, numbered_full}
use Rattle.reading.proofs.read_under.Goals as goal

pub returns-then-length-gt-MOST_BYTES : goal.returns-then-length-gt-MOST_BYTES
returns-then-length-gt-MOST_BYTES c = record { outcome = (too_long c.if-length-gt-MOST_BYTES.true, neither 1 (inl (omega arith))) }

pub returns-in_err-read_tree : goal.returns-in_err-read_tree
returns-in_err-read_tree c =
    let w = c.in_err-read_tree.ensures in
    let e : c.from_residual.result ≡ Err c.in_err-read_tree.field-0.0 = search rules in
    rw e (record { outcome = (not_sound c.if-length-gt-MOST_BYTES.false w.0, w.1) })

pub returns-in_err-ok_or : goal.returns-in_err-ok_or
returns-in_err-ok_or c =
    let tree = c.read_tree.new.tree in
    let w = c.in_ok-read_tree.ensures in
    let none : c.number.result ≡ None = grind arith in
    let e : c.from_residual-in_err-ok_or.result ≡ Err (TooMany (record { 0 = length c.args.text.now })) = grind arith in
    let n = subst (λ (q : Rule). NumbersTree tree.nodes (tree.count - 1) true q c.number.result c.number.new.rule) c.empty_in-rule.ensures c.number.ensures in
    let m = subst (λ (o : Option FormulaNo). NumbersTree tree.nodes (tree.count - 1) true (empty_in c.args.profile) o c.number.new.rule) none n in
    rw e (record {
      outcome = (
        too_many {p = w.tree} (record { short = c.if-length-gt-MOST_BYTES.false; spells = w.spells })
            (numbered_full c.args.profile tree.nodes (tree.count - 1) w.tree c.number.new.rule w.stands_last m),
        neither 5 (inr (omega arith)),
      );
    })

pub returns : goal.returns
returns c =
    let tree = c.read_tree.new.tree in
    let w = c.in_ok-read_tree.ensures in
    let some : c.number.result ≡ Some c.in_ok-ok_or.field-0 = grind arith in
    let n = subst (λ (q : Rule). NumbersTree tree.nodes (tree.count - 1) true q c.number.result c.number.new.rule) c.empty_in-rule.ensures c.number.ensures in
    let m = subst (λ (o : Option FormulaNo). NumbersTree tree.nodes (tree.count - 1) true (empty_in c.args.profile) o c.number.new.rule) some n in
    let done = numbered_rule c.args.profile tree.nodes (tree.count - 1) w.tree c.number.new.rule w.stands_last c.in_ok-ok_or.field-0 m in
    record {
      outcome = record {
        profile_is = done.1;
        tree = w.tree;
        sound = record { short = c.if-length-gt-MOST_BYTES.false; spells = w.spells };
        numbers = done.0;
      };
    }
