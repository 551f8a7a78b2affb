use Rattle.std.proofs.Common.{sym, ◌∙◌, arith}
use Rattle.walking.specs.TextLaws.{decimal_printed}
use Rattle.walking.proofs.AddingLaws.{adds_as}
use Rattle.walking.proofs.texts.Text.add_number.Goals as goal

pub returns-clause-added : goal.returns-clause-added
returns-clause-added c = adds_as (decimal_printed c.args.number (omega arith) ∙ sym c.format.ensures.text ∙ sym c.as_bytes.ensures.value) c.add.ensures
