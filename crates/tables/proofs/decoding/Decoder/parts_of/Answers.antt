use native.Mathlib.Omega.{arith}
use Rattle.std.specs.Int.Bits.{or_zero_r}
use Rattle.laws.specs.Masks.{shl_one}
use Rattle.meaning.specs.Flags.{flags}
use Rattle.tables.proofs.Known.{decoder_before}
use Rattle.tables.proofs.Counting.{says, left_small, right_small, part_small}
use Rattle.tables.proofs.Splitting.{split_flag, split_not_flag, split_true, split_false, split_next, split_weak, split_and, split_or_left, split_or_right}
use Rattle.tables.proofs.Splitting.{split_until_now, split_until_later, split_release_now, split_release_later, and_some, count_small}
use Rattle.tables.proofs.decoding.Decoder.parts_of.Goals as goal

pub overflow_shl-result : goal.overflow_shl-result
overflow_shl-result c = (says (decoder_before c.args.self.now c.requires.in_rule) (rw c.from.ensures at c.in-Flag.is)).0

pub overflow_shl-result-in-NotFlag : goal.overflow_shl-result-in-NotFlag
overflow_shl-result-in-NotFlag c = (says (decoder_before c.args.self.now c.requires.in_rule) (rw c.from.ensures at c.in-NotFlag.is)).0

pub count_at-each-requires : goal.count_at-each-requires
count_at-each-requires c = right_small (decoder_before c.args.self.now c.requires.in_rule) (says (decoder_before c.args.self.now c.requires.in_rule) (rw c.from.ensures at c.in-And.is))

pub nonzero_div-result : goal.nonzero_div-result
nonzero_div-result c = rw (c.count_at-each.ensures) (and_some (decoder_before c.args.self.now c.requires.in_rule) c.requires.within (rw c.from.ensures at c.in-And.is))

pub nonzero_rem-result : goal.nonzero_rem-result
nonzero_rem-result c = rw (c.count_at-each.ensures) (and_some (decoder_before c.args.self.now c.requires.in_rule) c.requires.within (rw c.from.ensures at c.in-And.is))

pub count_at-first-requires : goal.count_at-first-requires
count_at-first-requires c = left_small (decoder_before c.args.self.now c.requires.in_rule) (says (decoder_before c.args.self.now c.requires.in_rule) (rw c.from.ensures at c.in-Or.is))

pub put_off-requires : goal.put_off-requires
put_off-requires c = part_small (decoder_before c.args.self.now c.requires.in_rule) (says (decoder_before c.args.self.now c.requires.in_rule) (rw c.from.ensures at c.in-Next.is))

pub put_off-requires-in-WeakNext : goal.put_off-requires-in-WeakNext
put_off-requires-in-WeakNext c = part_small (decoder_before c.args.self.now c.requires.in_rule) (says (decoder_before c.args.self.now c.requires.in_rule) (rw c.from.ensures at c.in-WeakNext.is))

pub count_at-first-requires-in-Until : goal.count_at-first-requires-in-Until
count_at-first-requires-in-Until c = right_small (decoder_before c.args.self.now c.requires.in_rule) (says (decoder_before c.args.self.now c.requires.in_rule) (rw c.from.ensures at c.in-Until.is))

pub count_at-held-requires : goal.count_at-held-requires
count_at-held-requires c = left_small (decoder_before c.args.self.now c.requires.in_rule) (says (decoder_before c.args.self.now c.requires.in_rule) (rw c.from.ensures at c.in-Release.is))

pub overflow_add-each : goal.overflow_add-each
overflow_add-each c = let x = says (decoder_before c.args.self.now c.requires.in_rule) (rw c.from.ensures at c.in-Release.is) in omega (arith, c.count_at-held.ensures, count_small (decoder_before c.args.self.now c.requires.in_rule) c.requires.within _ x.left_below)

pub returns-in-Flag : goal.returns-in-Flag
returns-in-Flag c = rw (shl_one flags c.in-Flag.f (says (decoder_before c.args.self.now c.requires.in_rule) (rw c.from.ensures at c.in-Flag.is)).0) (split_flag (decoder_before c.args.self.now c.requires.in_rule) c.requires.within (rw c.from.ensures at c.in-Flag.is))

pub returns-in-NotFlag : goal.returns-in-NotFlag
returns-in-NotFlag c = rw (shl_one flags c.in-NotFlag.f (says (decoder_before c.args.self.now c.requires.in_rule) (rw c.from.ensures at c.in-NotFlag.is)).0) (split_not_flag (decoder_before c.args.self.now c.requires.in_rule) c.requires.within (rw c.from.ensures at c.in-NotFlag.is))

pub returns-in-True : goal.returns-in-True
returns-in-True c = split_true (decoder_before c.args.self.now c.requires.in_rule) c.requires.within (rw c.from.ensures at c.in-True.is)

pub returns-in-False : goal.returns-in-False
returns-in-False c = split_false (decoder_before c.args.self.now c.requires.in_rule) c.requires.within (rw c.from.ensures at c.in-False.is)

pub returns-in-And : goal.returns-in-And
returns-in-And c = rw (c.count_at-each.ensures) (split_and (decoder_before c.args.self.now c.requires.in_rule) c.requires.within (rw c.from.ensures at c.in-And.is))

pub returns-then-number-first : goal.returns-then-number-first
returns-then-number-first c = split_or_left (decoder_before c.args.self.now c.requires.in_rule) c.requires.within (rw c.from.ensures at c.in-Or.is) (omega (arith, c.if-number-first.true, c.count_at-first.ensures))

pub returns-else-number-first : goal.returns-else-number-first
returns-else-number-first c = rw (c.count_at-first.ensures) (split_or_right (decoder_before c.args.self.now c.requires.in_rule) c.requires.within (rw c.from.ensures at c.in-Or.is) (omega (arith, c.if-number-first.false, c.count_at-first.ensures)))

pub returns-in-Next : goal.returns-in-Next
returns-in-Next c = rw (c.put_off.ensures, c.mark-mark.ensures) (split_next (decoder_before c.args.self.now c.requires.in_rule) c.requires.within (rw c.from.ensures at c.in-Next.is))

pub returns-in-WeakNext : goal.returns-in-WeakNext
returns-in-WeakNext c = rw (c.put_off-in-WeakNext.ensures, or_zero_r _) (split_weak (decoder_before c.args.self.now c.requires.in_rule) c.requires.within (rw c.from.ensures at c.in-WeakNext.is))

pub returns-then-number-first-2 : goal.returns-then-number-first-2
returns-then-number-first-2 c = split_until_now (decoder_before c.args.self.now c.requires.in_rule) c.requires.within (rw c.from.ensures at c.in-Until.is) (omega (arith, c.if-number-first-2.true, c.count_at-first-in-Until.ensures))

pub returns-else-number-first-2 : goal.returns-else-number-first-2
returns-else-number-first-2 c = rw (c.put_off-else-number-first-2.ensures, c.mark-mark.ensures, c.count_at-first-in-Until.ensures) (split_until_later (decoder_before c.args.self.now c.requires.in_rule) c.requires.within (rw c.from.ensures at c.in-Until.is) (omega (arith, c.if-number-first-2.false, c.count_at-first-in-Until.ensures)))

pub returns-then-right-held : goal.returns-then-right-held
returns-then-right-held c = rw (c.count_at-held.ensures) (split_release_now (decoder_before c.args.self.now c.requires.in_rule) c.requires.within (rw c.from.ensures at c.in-Release.is) (rw (← c.count_at-held.ensures) (c.if-right-held.true)))

pub returns-else-right-held : goal.returns-else-right-held
returns-else-right-held c = rw (c.put_off-else-right-held.ensures, or_zero_r _, c.count_at-held.ensures) (split_release_later (decoder_before c.args.self.now c.requires.in_rule) c.requires.within (rw c.from.ensures at c.in-Release.is) (rw (← c.count_at-held.ensures) (omega (arith, c.if-right-held.false))))
