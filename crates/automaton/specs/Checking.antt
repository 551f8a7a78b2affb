-- What the test of tables answers: refusal 10 exactly for bad ones. Definitions, to be believed. Assumes nothing.
use Rattle.std.specs.Prelude.{◌≡◌, Ok, Err}
use Rattle.answers.specs.Refusals.{Answer}
use Rattle.answers.specs.declared.Refusal.TheVariants.{BadTables}
use Rattle.meaning.specs.Flags.{flags}
use Rattle.automaton.specs.Tables.{Good}
use Rattle.automaton.specs.Handed.{seen}
use Rattle.automaton.specs.declared.Tables.{Tables}
use Rattle.automaton.specs.declared.good.GoodTables.{GoodTables}

abbrev pub Found : Tables → Answer GoodTables → Type 0
Found t (Ok g) = Good flags (seen t) × (g.tables ≡ t)
Found t (Err f) = (f ≡ BadTables) × (Good flags (seen t) → ⊥)

pub record Checked (t : Tables) (r : Answer GoodTables) : Type 0 where
  pub found : Found t r

-- what is answered, without the proof that the tables are good
abbrev pub tables_in : Answer GoodTables → Answer Tables
tables_in (Ok good) = Ok good.tables
tables_in (Err refusal) = Err refusal
