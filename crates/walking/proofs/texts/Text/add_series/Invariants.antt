use Rattle.std.specs.Prelude.{take}
use Rattle.walking.specs.Series.{series_text}
use Rattle.walking.specs.Adding.{Adds}
use Rattle.walking.proofs.texts.Text.add_series.Given as goal

abbrev pub invariant-loop-date : goal.invariant-loop-date
invariant-loop-date l = Adds l.initial.self (series_text (take l.date-index l.series)) l.self
