-- There is one fit at most, and tables that accept what fits have it. Assumes nothing.
use Rattle.std.specs.Prelude.{◌≡◌, ◌↔◌, Option}
use Rattle.meaning.specs.Flags.{flags}
use Rattle.meaning.specs.Formula.{Series}
use Rattle.automaton.specs.Tables.{Tables}
use Rattle.automaton.specs.Walk.{Accepts}
use Rattle.automaton.specs.Fit.{Dates, FirstFit}
use Rattle.automaton.specs.Fit as automaton
use Rattle.automaton.proofs.SearchLaws.{fit_unique, fit_same}
use Rattle.demands.specs.Fits.{FitOf}

module _ (Fits : Series → Type 0) where
  pub fit_one : (a b : Option Series) → FitOf Fits a → FitOf Fits b → a ≡ b
  fit_one = fit_unique (λ s. Dates flags s × Fits s)

  -- the first fit of tables is that of what they accept
  pub fit_by : (t : Tables) → ((u : Series) → Accepts flags t 0 u ↔ Fits u) → (o : Option Series) → FirstFit flags t o → FitOf Fits o
  fit_by t agrees =
      fit_same (automaton.Fits flags t 0) (λ s. Dates flags s × Fits s)
      (λ u. (λ h. (h.dates, (agrees u).0 h.accepted), λ h. record { dates = h.0; accepted = (agrees u).1 h.1 }))
