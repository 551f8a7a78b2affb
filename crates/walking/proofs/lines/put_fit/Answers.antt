use Rattle.std.proofs.Common.{arith, rules}
use Rattle.walking.specs.TextLaws.{dates_length}
use Rattle.walking.proofs.AddingLaws.{adds_both}
use Rattle.walking.proofs.lines.put_fit.Goals as goal

pub add-requires-2 : goal.add-requires-2
add-requires-2 c = let w = c.add_dates.ensures.written in omega (arith, dates_length c.args.series.now)

pub returns : goal.returns
returns c = let a = adds_both (adds_both c.add.ensures c.add_dates.ensures) c.add-2.ensures in search rules
