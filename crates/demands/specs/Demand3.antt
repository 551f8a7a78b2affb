-- Demand 3: for tables that are built from a rule, and every series however long, the tables say yes exactly when the definition of its profile does; that
-- none fits is said exactly when none of any length does, and otherwise the first of the shortest is shown. Definitions, to be believed. Assumes nothing.
use Rattle.std.specs.Prelude.{◌≡◌, ◌⊎◌, List, [], ◌∷◌, ◌++◌, ℕ, ◌≤◌, length, drop, Ok, Option, None, Some, Bool, false, true}
use Rattle.answers.specs.Answers.{gives}
use Rattle.laws.specs.Masks.{has}
use Rattle.answers.specs.Refusals.{Answer, outcome}
use Rattle.meaning.specs.Flags.{flags}
use Rattle.meaning.specs.Formula.{Formula as Tree, Series}
use Rattle.meaning.specs.Syntax.{Syntax}
use Rattle.meaning.specs.Meaning.{holds}
use Rattle.meaning.specs.Listed.{lists}
use Rattle.meaning.specs.Dialect.{dialect, TextAnswersYes}
use Rattle.meaning.specs.declared.Profile.{Profile}
use Rattle.meaning.specs.declared.Profile.TheVariants.{Finite, Last}
use Rattle.rule.specs.Numbering.{Numbers}
use Rattle.rule.specs.declared.Rule.{Rule}
use Rattle.reading.specs.Grammar.{Sound}
use Rattle.reading.specs.Promise.{Reads}
use Rattle.tables.specs.Tables.{states, edge_entries}
use Rattle.tables.specs.Building.{Slices, filled, Builds, counts, made_of}
use Rattle.automaton.specs.Tables.{Tables, Good}
use Rattle.automaton.specs.Walk.{Accepts, begun}
use Rattle.walking.specs.Walks.{mask, walk_of}
use Rattle.walking.specs.Answers.{Taken, Answered, Closed, Judged, Along}
use Rattle.walking.specs.declared.Walk.{Walk}
use Rattle.walking.specs.FitAnswers.{Searched, Shown, room}
use Rattle.calls.specs.ByteForm.{Encodes}
use Rattle.calls.specs.Answers.{Saying}
use Rattle.calls.specs.Promises.{walk_at, Begins, StepsTo, FitCall, BuildCall}
use Rattle.demands.specs.Fits.{FitOf}
use Rattle.demands.specs.Demand2.{YesExactly, ReadFromC}

-- what the calls on the tables t answer, said by which series fit
pub record ByTables (Fits : Series → Type 0) (t : Tables) : Type 0 where
  -- they are good, so that no call refuses them, and a walk goes on along every series
  pub good : Good flags t
  pub goes_on : (z : Series) → (m : Walk) × Along t (walk_of begun) z m
  -- for every series, however long
  pub judges : (z : Series) (v : Answer Bool) → Judged t z v → YesExactly (Ok true) (Ok false) v (Fits z)
  -- the same by a walk that is begun, stepped along the series and asked
  pub walks : (z : Series) (m : Walk) (v : Answer Bool) → Along t (walk_of begun) z m → Answered t m v → YesExactly (Ok true) (Ok false) v (Fits z)
  -- a buffer with room for it gets the fit at its front, or none exactly when there is none of any length
  pub shows : (before after : List ℕ) → room ≤ length before → (r : Answer (Option ℕ)) → Searched t before after r
      → (n : Option ℕ) × (o : Option Series) × (outcome r ≡ gives n) × FitOf Fits o × Shown before after o n

-- the walk that calls of `step` from C lead to, one for each date
abbrev pub AlongFromC : Tables → Walk → Series → Walk → Type 0
AlongFromC t m [] n = m ≡ n
AlongFromC t m (d ∷ s) n = (next : Walk) × StepsTo t m.low m.high d 0 next.low next.high × AlongFromC t next s n

-- 1 with the fit at the front and its number of dates, or 0 with all as it was, exactly when there is none of any length
abbrev pub ShowsFromC : (Series → Type 0) → List ℕ → ℕ → ℕ → List ℕ → ℕ → Type 0
ShowsFromC Fits out dates r out' dates' =
    ((r ≡ 1) × ((s : Series) × FitOf Fits (Some s) × (length s ≤ room) × (dates' ≡ length s) × (out' ≡ s ++ drop (length s) out)))
    ⊎ ((r ≡ 0) × FitOf Fits None × (dates' ≡ dates) × (out' ≡ out))

-- the same of the calls from C
pub record ByTablesFromC (Fits : Series → Type 0) (t : Tables) : Type 0 where
  pub good : Good flags t
  pub goes_on : (z : Series) (low high : ℕ) → Begins low high → (n : Walk) × AlongFromC t (walk_at low high) z n
  pub judges : (z : Series) (r : ℕ) → Saying (Judged t z) r → YesExactly 1 0 r (Fits z)
  pub walks : (z : Series) (low high : ℕ) (n : Walk) (r : ℕ) → Begins low high → AlongFromC t (walk_at low high) z n → Saying (Answered t n) r
      → YesExactly 1 0 r (Fits z)
  pub shows : (out : List ℕ) (dates r : ℕ) (out' : List ℕ) (dates' : ℕ) → room ≤ length out → FitCall t out dates r out' dates'
      → ShowsFromC Fits out dates r out' dates'

pub record Demand3 : Type 0 where
  -- the counts that a build answers and all that it leaves in the slices are those of the formula that the rule numbers
  pub built_exactly : (rule : Rule) (s u : Slices) (n k : ℕ) → Builds rule s (counts n k) u → (φ : Tree) → Numbers rule φ
      → (n ≡ length (states rule.profile φ)) × (k ≡ length (edge_entries rule.profile φ)) × (u ≡ filled rule.profile φ s)
  pub built_exactly_from_c : (π : Profile) (count : ℕ) (bytes : List ℕ) (rule : Rule) → Encodes (dialect π).number count bytes rule
      → (lent u : Slices) (states' edges' n k : ℕ) → BuildCall (dialect π).number count bytes lent states' edges' 0 u n k → (φ : Tree) → Numbers rule φ
      → (n ≡ length (states π φ)) × (k ≡ length (edge_entries π φ)) × (u ≡ filled π φ lent)
  -- tables that a build made of a rule and that were not altered since: by the formula that the rule numbers, under finite by Definition 9, under last by
  -- document 001's list where there is a date
  pub finite_by_tables : (rule : Rule) → rule.profile ≡ Finite → (s u : Slices) (n k : ℕ) → Builds rule s (counts n k) u → (φ : Tree) → Numbers rule φ
      → ByTables (holds φ) (made_of n k u)
  pub last_by_tables : (rule : Rule) → rule.profile ≡ Last → (s u : Slices) (n k : ℕ) → Builds rule s (counts n k) u → (φ : Tree) → Numbers rule φ
      → ByTables (λ z. (1 ≤ length z) × lists φ z) (made_of n k u)
  -- from a text to the tables' answers: whatever tree the text spells, by what that tree says
  pub text_by_tables : (π : Profile) (text : List ℕ) (rule : Rule) → Reads (dialect π).number text (Ok rule)
      → (s u : Slices) (n k : ℕ) → Builds rule s (counts n k) u → (p : Syntax) → Sound text p → ByTables (TextAnswersYes π p) (made_of n k u)
  -- the same from C
  pub finite_by_tables_from_c : (count : ℕ) (bytes : List ℕ) (rule : Rule) → Encodes (dialect Finite).number count bytes rule
      → (lent u : Slices) (states edges n k : ℕ) → BuildCall (dialect Finite).number count bytes lent states edges 0 u n k
      → (φ : Tree) → Numbers rule φ → ByTablesFromC (holds φ) (made_of n k u)
  pub last_by_tables_from_c : (count : ℕ) (bytes : List ℕ) (rule : Rule) → Encodes (dialect Last).number count bytes rule
      → (lent u : Slices) (states edges n k : ℕ) → BuildCall (dialect Last).number count bytes lent states edges 0 u n k
      → (φ : Tree) → Numbers rule φ → ByTablesFromC (λ z. (1 ≤ length z) × lists φ z) (made_of n k u)
  pub text_by_tables_from_c : (π : Profile) (text : List ℕ) (count : ℕ) (bytes : List ℕ) → ReadFromC π text count bytes
      → (lent u : Slices) (states edges n k : ℕ) → BuildCall (dialect π).number count bytes lent states edges 0 u n k
      → (p : Syntax) → Sound text p → ByTablesFromC (TextAnswersYes π p) (made_of n k u)
  -- good tables that no rule made: by what the automaton accepts that they describe
  pub any_tables : (t : Tables) → Good flags t → ByTables (Accepts flags t 0) t × ByTablesFromC (Accepts flags t 0) t
  -- a walk is closed exactly when no state is left
  pub closed_exactly : (t : Tables) (m : Walk) → Taken t m → (v : Answer Bool) → Closed t m v → YesExactly (Ok true) (Ok false) v ((q : ℕ) → ¬ has (mask m) q)
  pub closed_exactly_from_c : (t : Tables) (m : Walk) → Taken t m → (r : ℕ) → Saying (Closed t m) r → YesExactly 1 0 r ((q : ℕ) → ¬ has (mask m) q)
  -- one that is closed, over whatever tables, goes on along whatever dates come, and stays closed and says no
  pub closed_stays : (t : Tables) (m : Walk) → Closed t m (Ok true) → (z : Series)
      → ((n : Walk) × Along t m z n)
      × ((n : Walk) → Along t m z n → ((v : Answer Bool) → Closed t n v → v ≡ Ok true) × ((v : Answer Bool) → Answered t n v → v ≡ Ok false))
  pub closed_stays_from_c : (t : Tables) (m : Walk) → Saying (Closed t m) 1 → (z : Series)
      → ((n : Walk) × AlongFromC t m z n)
      × ((n : Walk) → AlongFromC t m z n → ((r : ℕ) → Saying (Closed t n) r → r ≡ 1) × ((r : ℕ) → Saying (Answered t n) r → r ≡ 0))
