use Rattle.std.proofs.Common.{◌+◌, ◌-◌, true, false, length}
use Rattle.plain.proofs.Dates.{MaskFrom}
use Rattle.plain.proofs.passes.on_series.Given as goal

-- from a date on: what is put off to it, whether it has to be there or not
abbrev pub invariant-loop-date : goal.invariant-loop-date
invariant-loop-date l =
    MaskFrom l.numbering.rule.now l.series true (length l.series - (length l.yielded + 1)) l.after
    × MaskFrom l.numbering.rule.now l.series false (length l.series - (length l.yielded + 1)) l.after
