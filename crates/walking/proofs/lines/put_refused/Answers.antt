use Rattle.std.proofs.Common.{rules}
use Rattle.walking.proofs.AddingLaws.{adds_both}
use Rattle.walking.proofs.lines.put_refused.Goals as goal

pub returns : goal.returns
returns c = let a = adds_both (adds_both c.add_numbered.ensures.added c.add_numbered-2.ensures.added) c.add_wanted.ensures in search rules
