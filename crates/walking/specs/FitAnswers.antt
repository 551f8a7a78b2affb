-- What the search for a fit promises, in document 01's words. Definitions, to be believed. Assumes nothing.
use Rattle.std.specs.Prelude.{◌≡◌, ◌⊎◌, List, ◌++◌, ℕ, ◌≤◌, ◌<◌, length, drop, Option, Some, None, Result}
use Rattle.answers.specs.Answers.{Outcome, gives, refuses}
use Rattle.answers.specs.Refusals.{outcome}
use Rattle.answers.specs.declared.Refusal.{Refusal}
use Rattle.meaning.specs.Flags.{flags}
use Rattle.automaton.specs.Tables.{Tables, Good}
use Rattle.automaton.specs.Fit.{FirstFit}

-- the fewest bytes that the buffer must have, and the most dates of a fit
abbrev pub room : ℕ
room = 127

-- s stands at the front of the buffer, with its number of dates told, and the bytes after it are as before
abbrev pub Shown : List ℕ → List ℕ → Option (List ℕ) → Option ℕ → Type 0
Shown before after None None = after ≡ before
Shown before after (Some s) (Some n) = (length s ≡ n) × (n ≤ room) × (after ≡ s ++ drop n before)
Shown before after None (Some n) = ⊥
Shown before after (Some s) None = ⊥

-- refusal 8 exactly for a buffer below its size, then 10 exactly for bad tables, and nothing is written; else the first fit is shown
abbrev pub Told : Tables → List ℕ → List ℕ → Outcome (Option ℕ) (Unit {0}) → Type 0
Told t before after (gives n) =
    (room ≤ length before) × Good flags t × ((s : Option (List ℕ)) × FirstFit flags t s × Shown before after s n)
Told t before after (refuses n l) =
    (after ≡ before) × (((n ≡ 8) × (length before < room)) ⊎ ((n ≡ 10) × (room ≤ length before) × (Good flags t → ⊥)))

pub record Searched (t : Tables) (before after : List ℕ) (r : Result (Option ℕ) Refusal) : Type 0 where
  pub told : Told t before after (outcome r)
