-- The fewest dates from each state to an accepting one, a column of counts beside the tables, and what `fewest` leaves in the lent slice.
-- Definitions, to be believed. Assumes nothing.
use Rattle.std.specs.Prelude.{◌≡◌, ◌⊎◌, Ok, Err, List, ℕ, ◌≤◌, ◌<◌, length, get_or, drop}
use Rattle.answers.specs.Refusals.{Answer}
use Rattle.answers.specs.declared.Refusal.{Refusal}
use Rattle.answers.specs.declared.Refusal.TheVariants.{ShortSlice, BadTables}
use Rattle.meaning.specs.Flags.{flags}
use Rattle.automaton.specs.Tables.{Tables, Good}
use Rattle.automaton.specs.Fit.{Fits, Never}

-- n dates are the fewest with which state q accepts
pub record Fewest (w : ℕ) (t : Tables) (q n : ℕ) : Type 0 where
  pub series : List ℕ
  pub fits : Fits w t q series
  pub long : length series ≡ n
  pub least : (s : List ℕ) → Fits w t q s → n ≤ length s

-- the mark of a state that accepts no series
abbrev pub never : ℕ
never = 65535

-- a state's entry: that mark, or the fewest dates
abbrev pub TrueEntry : ℕ → Tables → ℕ → ℕ → Type 0
TrueEntry w t q v = ((v ≡ never) × Never w t q) ⊎ Fewest w t q v

-- a column that is true of the tables, at the front of a list
pub record Column (w : ℕ) (t : Tables) (col : List ℕ) : Type 0 where
  pub room : t.states ≤ length col
  pub true_entry : (q : ℕ) → q < t.states → TrueEntry w t q (get_or col q 0)

-- the slice has a true column, and what is behind it is as before
pub record ColumnIn (t : Tables) (old new : List ℕ) : Type 0 where
  pub column : Column flags t new
  pub rest : drop t.states new ≡ drop t.states old
  pub long : length new ≡ length old

-- why nothing is filled in: bad tables, or no room for the column of good ones
abbrev pub Lacking : Tables → List ℕ → Refusal → Type 0
Lacking t old f = ((f ≡ BadTables) × (Good flags t → ⊥)) ⊎ ((f ≡ ShortSlice) × Good flags t × (length old < t.states))

-- what `fewest` answers: where the tables are good and there is room, the column is filled in; else it says which is lacking, and nothing is changed
abbrev pub FilledBy : Tables → List ℕ → List ℕ → Answer (Unit {0}) → Type 0
FilledBy t old new (Ok done) = Good flags t × (t.states ≤ length old) × ColumnIn t old new
FilledBy t old new (Err f) = (new ≡ old) × Lacking t old f

pub record Filled (t : Tables) (old new : List ℕ) (r : Answer (Unit {0})) : Type 0 where
  pub told : FilledBy t old new r
