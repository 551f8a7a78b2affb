-- How many more dates a state needs at least, and the column of these counts, by rounds from the accepting states backwards. Assumes nothing.
use Rattle.std.specs.Prelude.{cond, ◌&&◌, List, ℕ, zero, suc, eqb, get_or}
use Rattle.laws.specs.Ranges.{list_of}
use Rattle.automaton.specs.Tables.{Tables, target, accepting}
use Rattle.automaton.specs.Walk.{any_edge}
use Rattle.automaton.specs.Column.{never}

-- the computation: 0 for each accepting state; round r gives r + 1 to each state that has no count yet and an edge to one with count r
abbrev pub first_entry : Tables → ℕ → ℕ
first_entry t q = cond (accepting t q) 0 never

abbrev pub next_entry : ℕ → Tables → ℕ → List ℕ → ℕ → ℕ
next_entry w t r col q = cond (eqb (get_or col q 0) never && any_edge t q (λ e. eqb (get_or col (target w e) 0) r)) (suc r) (get_or col q 0)

abbrev pub first_column : Tables → List ℕ
first_column t = list_of t.states (first_entry t)

abbrev pub next_column : ℕ → Tables → ℕ → List ℕ → List ℕ
next_column w t r col = list_of t.states (next_entry w t r col)

abbrev pub column_after : ℕ → Tables → ℕ → List ℕ
column_after w t zero = first_column t
column_after w t (suc r) = next_column w t r (column_after w t r)

abbrev pub column : ℕ → Tables → List ℕ
column w t = column_after w t t.states
