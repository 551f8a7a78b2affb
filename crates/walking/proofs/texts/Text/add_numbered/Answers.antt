use Rattle.walking.proofs.AddingLaws.{adds_both}
use Rattle.walking.proofs.texts.Text.add_numbered.Goals as goal

pub returns-clause-added : goal.returns-clause-added
returns-clause-added c = adds_both c.add.ensures c.add_number.ensures.added
