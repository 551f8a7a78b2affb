-- The fit: of the series that state 0 accepts a shortest, and of these the first in byte order. Definitions, to be believed. Assumes nothing.
use Rattle.std.specs.Prelude.{◌≡◌, ◌⊎◌, List, [], ◌∷◌, ℕ, ◌^◌, ◌≤◌, ◌<◌, length, Option, None, Some}
use Rattle.laws.specs.Lists.{All}
use Rattle.automaton.specs.Tables.{Tables}
use Rattle.automaton.specs.Walk.{Accepts}

-- a series whose every date has flags below w only
abbrev pub Dates : ℕ → List ℕ → Type 0
Dates w s = All (λ d. d < 2 ^ w) s

-- s is a series, and state q accepts it
pub record Fits (w : ℕ) (t : Tables) (q : ℕ) (s : List ℕ) : Type 0 where
  pub dates : Dates w s
  pub accepted : Accepts w t q s

-- state q accepts no series of any length
abbrev pub Never : ℕ → Tables → ℕ → Type 0
Never w t q = (s : List ℕ) → Fits w t q s → ⊥

-- s does not come after u, by number, date by date
abbrev pub NotAfter : List ℕ → List ℕ → Type 0
NotAfter [] u = Unit {0}
NotAfter (a ∷ s) [] = ⊥
NotAfter (a ∷ s) (b ∷ u) = (a < b) ⊎ ((a ≡ b) × NotAfter s u)

-- s fits, by what P says, nothing shorter does, and nothing as long comes before it
pub record FirstOf (P : List ℕ → Type 0) (s : List ℕ) : Type 0 where
  pub fits : P s
  pub shortest : (u : List ℕ) → P u → length s ≤ length u
  pub first : (u : List ℕ) → P u → length u ≡ length s → NotAfter s u

-- none exactly when nothing of any length fits
abbrev pub FitOf : (List ℕ → Type 0) → Option (List ℕ) → Type 0
FitOf P None = (s : List ℕ) → P s → ⊥
FitOf P (Some s) = FirstOf P s

-- what the search has to find: the fit of what state 0 accepts
abbrev pub FirstFit : ℕ → Tables → Option (List ℕ) → Type 0
FirstFit w t = FitOf (Fits w t 0)
