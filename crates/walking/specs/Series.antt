-- What a line of the program's input holds. A series is written in two lowercase hex digits a date, and has at most 4,096 dates; a line without a
-- byte is the series of no dates. Definitions, to be believed. Assumes nothing.
use Rattle.std.specs.Prelude.{◌≡◌, cond, List, [], ◌∷◌, ℕ, ◌+◌, ◌/◌, ◌%◌, ◌≤◌, ltb, length}
use Rattle.meaning.specs.Flags.{flags}
use Rattle.automaton.specs.Fit.{Dates}
use Rattle.walking.specs.declared.lines.Answer.{Answer}
use Rattle.walking.specs.declared.lines.Answer.TheVariants.{Yes, No, Bad}

-- the digit of a number below 16: `0` to `9`, then `a` to `f`
abbrev pub hex_digit : ℕ → ℕ
hex_digit v = cond (ltb v 10) (48 + v) (87 + v)

-- a series as text
abbrev pub series_text : List ℕ → List ℕ
series_text [] = []
series_text (d ∷ s) = hex_digit (d / 16) ∷ hex_digit (d % 16) ∷ series_text s

-- the line is the series s
pub record IsSeries (line s : List ℕ) : Type 0 where
  pub text : line ≡ series_text s
  pub dates : Dates flags s
  pub few : length s ≤ 4096

-- the answer to a line, where `Fits` says which series fit
abbrev pub AnswerIs : (List ℕ → Type 0) → List ℕ → Answer → Type 0
AnswerIs Fits line Yes = (s : List ℕ) × IsSeries line s × Fits s
AnswerIs Fits line No = (s : List ℕ) × IsSeries line s × (Fits s → ⊥)
AnswerIs Fits line Bad = (s : List ℕ) → IsSeries line s → ⊥
