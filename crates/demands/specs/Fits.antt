-- What a fit is, said by what fits and not by tables. Definitions, to be believed. Assumes nothing.
use Rattle.std.specs.Prelude.{Option}
use Rattle.meaning.specs.Flags.{flags}
use Rattle.meaning.specs.Formula.{Series}
use Rattle.automaton.specs.Fit.{Dates}
use Rattle.automaton.specs.Fit as automaton

-- the first of the shortest series of dates that fit, or none exactly when no series of dates fits, of any length
abbrev pub FitOf : (Series → Type 0) → Option Series → Type 0
FitOf Fits = automaton.FitOf (λ s. Dates flags s × Fits s)
