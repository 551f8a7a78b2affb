-- The dates of the fit as the code chooses them. Contracts of inner functions. Assumes nothing.
use Rattle.std.specs.Prelude.{◌≡◌, Bool, cond, List, ◌++◌, ℕ, ◌^◌, eqb, length, get_or, drop}
use Rattle.laws.specs.Ranges.{least_in}
use Rattle.meaning.specs.Flags.{flags}
use Rattle.automaton.specs.Tables.{Tables, present, target}
use Rattle.automaton.specs.Walk.{begun}
use Rattle.automaton.specs.Fit.{Dates}
use Rattle.automaton.specs.Search.{fit_from}

-- the least date along an edge to a state with the count r
abbrev pub edge_date : List ℕ → ℕ → ℕ → ℕ
edge_date col r e = cond (eqb (get_or col (target flags e) 0) r) (present flags e) (2 ^ flags)

-- edge i of a row leads to a state with the count r
abbrev pub leads_to : List ℕ → List ℕ → ℕ → ℕ → Bool
leads_to row col r i = eqb (get_or col (target flags (get_or row i 0)) 0) r

-- the least of those along the first k edges of a row
abbrev pub row_date : List ℕ → List ℕ → ℕ → ℕ → ℕ
row_date row col r k = least_in 0 k (leads_to row col r) (λ i. present flags (get_or row i 0)) (2 ^ flags)

-- the k dates that are chosen are dates
pub record Chosen (t : Tables) (col : List ℕ) (k : ℕ) : Type 0 where
  pub dates : Dates flags (fit_from flags t col k begun)

-- they stand at the front of the slice, and what is behind them is as before
pub record Written (t : Tables) (col : List ℕ) (k : ℕ) (before after : List ℕ) : Type 0 where
  pub long : length after ≡ length before
  pub shown : after ≡ fit_from flags t col k begun ++ drop k before
