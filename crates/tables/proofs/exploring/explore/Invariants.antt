use Rattle.std.proofs.Common.{◌≡◌, ◌-◌}
use Rattle.tables.specs.Progress.{Rows, Choosing}
use Rattle.tables.proofs.exploring.explore.Given as goal

abbrev pub invariant-loop-number : goal.invariant-loop-number
invariant-loop-number l =
    (l.decoder.numbering ≡ l.fn.numbering) × Choosing l.numbering.rule.now l.initial.masks l.initial.edges l.row l.mask l.choices l.first l.number l.counts.states l.counts.edges l.masks l.starts l.edges

abbrev pub invariant-rows : goal.invariant-rows
invariant-rows l =
    (l.decoder.numbering ≡ l.fn.numbering) × Rows l.numbering.rule.now l.initial.masks l.initial.starts l.initial.edges l.row l.counts.states l.counts.edges l.masks l.starts l.edges

abbrev pub decreases-rows : goal.decreases-rows
decreases-rows l = 128 - l.row
