use native.Mathlib.Omega.{arith}
use Rattle.tables.proofs.Known.{is_rule}
use Rattle.tables.proofs.Joining.{part_below, left_below, right_below, part_within, left_within, right_within}
use Rattle.tables.proofs.decoding.Decoder.+choice_of_decoded.Goals as goal

pub decoded-choice_of-requires : goal.decoded-choice_of-requires
decoded-choice_of-requires t c = let l = part_below _ _ (is_rule c.args.self.now.numbering) _ _ _ _ c.in-One.ensures in let b = c.requires.in_rule in let e = c.decreases in (omega arith, (omega arith, part_within _ _ _ c.requires.within _ _ _ c.in-One.ensures))

pub decoded-choice_of-left-requires : goal.decoded-choice_of-left-requires
decoded-choice_of-left-requires t c = let l = left_below _ _ (is_rule c.args.self.now.numbering) _ _ _ _ _ c.in-Two.ensures in let b = c.requires.in_rule in let e = c.decreases in (omega arith, (omega arith, left_within _ _ _ c.requires.within _ _ _ _ c.in-Two.ensures))

pub decoded-choice_of-right-requires : goal.decoded-choice_of-right-requires
decoded-choice_of-right-requires t c = let l = right_below _ _ (is_rule c.args.self.now.numbering) _ _ _ _ _ c.in-Two.ensures in let b = c.requires.in_rule in let e = c.decreases in (omega arith, rw c.choice_of-left.ensures.same_rule (omega arith, right_within _ _ _ c.requires.within _ _ _ _ c.in-Two.ensures))
