-- What it is to resume a walk. Contract of an inner function. Assumes nothing.
use Rattle.std.specs.Prelude.{◌≡◌, Result, Ok, Err}
use Rattle.answers.specs.declared.Refusal.{Refusal}
use Rattle.answers.specs.declared.Refusal.TheVariants.{BadTables}
use Rattle.automaton.specs.declared.Tables.{Tables}
use Rattle.automaton.specs.Handed.{seen}
use Rattle.walking.specs.declared.Walk.{Walk}
use Rattle.walking.specs.declared.walkers.Walker.{Walker}
use Rattle.walking.specs.Answers.{Taken}

-- refusal 10 exactly for what is not taken; else the walk on the tables
abbrev pub Found : Tables → Walk → Result Walker Refusal → Type 0
Found t m (Ok w) = Taken (seen t) m × (w.tables.tables ≡ t) × (w.walk ≡ m)
Found t m (Err f) = (f ≡ BadTables) × (Taken (seen t) m → ⊥)

pub record Resumed (t : Tables) (m : Walk) (r : Result Walker Refusal) : Type 0 where
  pub found : Found t m r
