-- The search for the fit, by the column of counts, finds the first fit; there is one at most. Assumes nothing.
use Rattle.std.specs.Prelude.{cond, List, [], ◌∷◌, ℕ, zero, suc, ◌^◌, eqb, get_or, Option, None, Some}
use Rattle.laws.specs.Ranges.{least_in}
use Rattle.laws.specs.Masks.{bit}
use Rattle.automaton.specs.Tables.{Tables, start, edge, present, target}
use Rattle.automaton.specs.Walk.{moved, begun}
use Rattle.automaton.specs.Column.{never}

-- the computation, by the column of counts: m is the walk after the dates chosen so far, r + 1 the number of dates to come
module _ (w : ℕ) (t : Tables) (col : List ℕ) where
  -- the least date with which an edge from q to a state that needs r is passed; 2 ^ w where there is no such edge
  abbrev pub date_from : ℕ → ℕ → ℕ
  date_from r q = least_in (start t q) (start t (suc q)) (λ i. eqb (get_or col (target w (edge t i)) 0) r) (λ i. present w (edge t i)) (2 ^ w)

  abbrev pub next_date : ℕ → ℕ → ℕ
  next_date r m = least_in 0 t.states (bit m) (date_from r) (2 ^ w)

  abbrev pub fit_from : ℕ → ℕ → List ℕ
  fit_from zero m = []
  fit_from (suc r) m = next_date r m ∷ fit_from r (moved w t m (next_date r m))

  abbrev pub fit : Option (List ℕ)
  fit = cond (eqb (get_or col 0 0) never) None (Some (fit_from (get_or col 0 0) begun))
