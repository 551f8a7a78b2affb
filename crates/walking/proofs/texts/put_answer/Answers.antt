use Rattle.std.proofs.Common.{rules}
use Rattle.walking.proofs.AddingLaws.{adds_both}
use Rattle.walking.proofs.texts.put_answer.Goals as goal

pub returns : goal.returns
returns c = let a = adds_both c.add_number.ensures.added c.add_answer_word.ensures in search rules
