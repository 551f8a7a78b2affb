use Rattle.tables.proofs.Known.{before, few}
use native.Mathlib.Omega.{arith}
use Rattle.tables.proofs.Counting.{says, count_right, left_small, right_small}
use Rattle.tables.proofs.formulas.count_of.Goals as goal

pub count_at-requires : goal.count_at-requires
count_at-requires c = left_small (before c.args.numbering c.requires.in_rule c.requires.counted) (says (before c.args.numbering c.requires.in_rule c.requires.counted) (rw c.from.ensures at c.in-And.is))

pub count_at-requires-in-And : goal.count_at-requires-in-And
count_at-requires-in-And c = right_small (before c.args.numbering c.requires.in_rule c.requires.counted) (says (before c.args.numbering c.requires.in_rule c.requires.counted) (rw c.from.ensures at c.in-And.is))

pub count_at-requires-in-Or : goal.count_at-requires-in-Or
count_at-requires-in-Or c = left_small (before c.args.numbering c.requires.in_rule c.requires.counted) (says (before c.args.numbering c.requires.in_rule c.requires.counted) (rw c.from.ensures at c.in-Or.is))

pub count_at-requires-in-Or-2 : goal.count_at-requires-in-Or-2
count_at-requires-in-Or-2 c = right_small (before c.args.numbering c.requires.in_rule c.requires.counted) (says (before c.args.numbering c.requires.in_rule c.requires.counted) (rw c.from.ensures at c.in-Or.is))

pub count_at-requires-in-Until : goal.count_at-requires-in-Until
count_at-requires-in-Until c = right_small (before c.args.numbering c.requires.in_rule c.requires.counted) (says (before c.args.numbering c.requires.in_rule c.requires.counted) (rw c.from.ensures at c.in-Until.is))

pub count_at-requires-in-Until-2 : goal.count_at-requires-in-Until-2
count_at-requires-in-Until-2 c = left_small (before c.args.numbering c.requires.in_rule c.requires.counted) (says (before c.args.numbering c.requires.in_rule c.requires.counted) (rw c.from.ensures at c.in-Until.is))

pub count_at-requires-in-Release : goal.count_at-requires-in-Release
count_at-requires-in-Release c = right_small (before c.args.numbering c.requires.in_rule c.requires.counted) (says (before c.args.numbering c.requires.in_rule c.requires.counted) (rw c.from.ensures at c.in-Release.is))

pub count_at-requires-in-Release-2 : goal.count_at-requires-in-Release-2
count_at-requires-in-Release-2 c = left_small (before c.args.numbering c.requires.in_rule c.requires.counted) (says (before c.args.numbering c.requires.in_rule c.requires.counted) (rw c.from.ensures at c.in-Release.is))

pub returns-in-Flag : goal.returns-in-Flag
returns-in-Flag c = count_right (before c.args.numbering c.requires.in_rule c.requires.counted) (rw c.from.ensures at c.in-Flag.is)

pub returns-in-NotFlag : goal.returns-in-NotFlag
returns-in-NotFlag c = count_right (before c.args.numbering c.requires.in_rule c.requires.counted) (rw c.from.ensures at c.in-NotFlag.is)

pub returns-in-True : goal.returns-in-True
returns-in-True c = count_right (before c.args.numbering c.requires.in_rule c.requires.counted) (rw c.from.ensures at c.in-True.is)

pub returns-in-False : goal.returns-in-False
returns-in-False c = count_right (before c.args.numbering c.requires.in_rule c.requires.counted) (rw c.from.ensures at c.in-False.is)

pub returns-in-And : goal.returns-in-And
returns-in-And c = rw (c.product.ensures, c.count_at.ensures, c.count_at-in-And.ensures) (count_right (before c.args.numbering c.requires.in_rule c.requires.counted) (rw c.from.ensures at c.in-And.is))

pub returns-in-Or : goal.returns-in-Or
returns-in-Or c = rw (c.sum.ensures, c.count_at-in-Or.ensures, c.count_at-in-Or-2.ensures) (count_right (before c.args.numbering c.requires.in_rule c.requires.counted) (rw c.from.ensures at c.in-Or.is))

pub returns-in-Next : goal.returns-in-Next
returns-in-Next c = count_right (before c.args.numbering c.requires.in_rule c.requires.counted) (rw c.from.ensures at c.in-Next.is)

pub returns-in-WeakNext : goal.returns-in-WeakNext
returns-in-WeakNext c = count_right (before c.args.numbering c.requires.in_rule c.requires.counted) (rw c.from.ensures at c.in-WeakNext.is)

pub returns-in-Until : goal.returns-in-Until
returns-in-Until c = rw (c.sum-in-Until.ensures, c.count_at-in-Until.ensures, c.count_at-in-Until-2.ensures) (count_right (before c.args.numbering c.requires.in_rule c.requires.counted) (rw c.from.ensures at c.in-Until.is))

pub returns-in-Release : goal.returns-in-Release
returns-in-Release c = rw (c.product-in-Release.ensures, c.count_at-in-Release.ensures, c.sum-in-Release.ensures, c.count_at-in-Release-2.ensures) (count_right (before c.args.numbering c.requires.in_rule c.requires.counted) (rw c.from.ensures at c.in-Release.is))

pub bounds-numbering-from : goal.bounds-numbering-from
bounds-numbering-from c = omega (arith, few c.args.numbering)
