-- What `judge` prints for an input, from its first byte to its last, and what it would print under the other profile: document 01, "Both sides of the
-- line", and document 02, Q-1.
-- Definitions, to be believed. Assumes nothing.
use Rattle.std.specs.Prelude.{cond, List, [], ◌∷◌, ◌++◌, ℕ, eqb, length, Option, None, Some}
use Rattle.meaning.specs.Formula.{Formula as Tree, Series}
use Rattle.meaning.specs.Syntax.{nnf}
use Rattle.meaning.specs.Dialect.{TextAnswersYes}
use Rattle.meaning.specs.declared.Profile.{Profile}
use Rattle.meaning.specs.declared.Profile.TheVariants.{Finite}
use Rattle.rule.specs.declared.Rule.{Rule}
use Rattle.reading.specs.declared.Wanted.{Wanted}
use Rattle.reading.specs.Grammar.{Refuses, SaysWanted, ReadAs}
use Rattle.reading.specs.Promise.{wanted_number}
use Rattle.tables.specs.Tables.{TooMuch, states, edge_entries}
use Rattle.walking.specs.Text.{newline, counts_text, refused_text, fit_text, no_fit_text}
use Rattle.walking.specs.Output.{Answered}
use Rattle.demands.specs.Fits.{FitOf}

-- line 1 is the rule, up to its newline or the input's end; an input with no line has the empty text
abbrev pub rule_line : List ℕ → List ℕ
rule_line [] = []
rule_line (x ∷ input) = cond (eqb x newline) [] (x ∷ rule_line input)

-- all that follows it are lines of series
abbrev pub series_lines : List ℕ → List ℕ
series_lines [] = []
series_lines (x ∷ input) = cond (eqb x newline) input (series_lines input)

-- how many states and edges the tables of φ have
abbrev pub counts_line : Profile → Tree → List ℕ
counts_line π φ = counts_text (length (states π φ)) (length (edge_entries π φ))

-- the fit's dates, or `fit empty` where it has none, or `fit none` where nothing fits
abbrev pub fit_line : Option Series → List ℕ
fit_line (Some s) = fit_text s
fit_line None = no_fit_text

pub data Prints (π : Profile) (input : List ℕ) : List ℕ → Type 0 where
  -- a text that is refused, by 1 to 5; for 2 and 3 a word says what is wanted
  refused : {number place : ℕ} (wanted : Option Wanted) → Refuses π (rule_line input) number place → SaysWanted (rule_line input) number place wanted
      → Prints π input (refused_text number place (wanted_number wanted))
  -- a rule whose tables are too large, by 9, with place 0 and no word
  too_large : {rule : Rule} (x : ReadAs π (rule_line input) rule) → TooMuch π (nnf x.tree) → Prints π input (refused_text 9 0 0)
  -- any other: the counts of its tables, an answer to each series by what the text means, and the fit
  judged : {rule : Rule} {answers : List ℕ} (fit : Option Series) (x : ReadAs π (rule_line input) rule) → ¬ TooMuch π (nnf x.tree)
      → Answered (TextAnswersYes π x.tree) (series_lines input) answers → FitOf (TextAnswersYes π x.tree) fit
      → Prints π input (counts_line π (nnf x.tree) ++ (answers ++ fit_line fit))

-- `judge` reads under the profile finite
abbrev pub JudgePrints : List ℕ → List ℕ → Type 0
JudgePrints = Prints Finite
