-- The test of tables admits one outcome only: the same tables, or the same refusal. Assumes nothing.
use Rattle.std.specs.Prelude.{◌≡◌, Ok, Err}
use Rattle.std.proofs.Common.{sym, ap, ◌∙◌}
use Rattle.answers.specs.Refusals.{Answer}
use Rattle.automaton.specs.declared.Tables.{Tables}
use Rattle.automaton.specs.declared.good.GoodTables.{GoodTables}
use Rattle.automaton.specs.Checking.{Checked, tables_in}

pub checked_one : (t : Tables) (r s : Answer GoodTables) → Checked t r → Checked t s → tables_in r ≡ tables_in s
checked_one t (Ok g) (Ok h) x y = ap Ok (x.found.1 ∙ sym y.found.1)
checked_one t (Ok g) (Err f) x y = absurd (y.found.1 x.found.0)
checked_one t (Err f) (Ok g) x y = absurd (x.found.1 y.found.0)
checked_one t (Err f) (Err g) x y = ap Err (x.found.0 ∙ sym y.found.0)
