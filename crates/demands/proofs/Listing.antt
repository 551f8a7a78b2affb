-- Document 01's input of five lines prints its six lines. Assumes nothing.
use Rattle.std.specs.Prelude.{◌≡◌, refl, List, [], ◌∷◌, ◌++◌, ℕ, ◌≤◌, length, Some}
use Rattle.std.proofs.Math.Decide.{ℕ_discrete}
use Rattle.std.proofs.Common.{arith}
use Rattle.laws.specs.Decided.{le_means}
use Rattle.meaning.specs.Formula.{Formula as Tree}
use Rattle.meaning.specs.Syntax.{Syntax, flag, until, nnf, signed}
use Rattle.meaning.specs.Ending.{end_yes}
use Rattle.meaning.specs.Dialect.{TextAnswersYes}
use Rattle.meaning.specs.declared.Profile.TheVariants.{Finite}
use Rattle.rule.specs.Numbering.{formulas, number, numbering}
use Rattle.reading.specs.Grammar.{Sound, sign_of, ReadAs}
use Rattle.reading.specs.Exact.{read_exact}
use Rattle.tables.specs.Choices.{choices, choices_of, members_from}
use Rattle.tables.specs.Tables.{TooMuch, states, edges_of}
use Rattle.tables.specs.Building.{laid}
use Rattle.cases.specs.Proved.{test_within_lem}
use Rattle.walking.specs.Text.{decimal, decimal_in}
use Rattle.walking.specs.Output.{Answered}
use Rattle.demands.specs.Answering.{digit?, date_first, written?, lines_of, answer_of, answers_of, answered_of}
use Rattle.demands.specs.KnownFlags.{sound_numbers}
use Rattle.demands.specs.Fits.{FitOf}
use Rattle.demands.proofs.ProgramLaws.{prints_one}
use Rattle.demands.proofs.ProgramSome.{decide, fit_of}
use Rattle.demands.specs.Program.{JudgePrints, judged}

-- ---- the input: `a U b`, then `0102`, `01`, a blank line and `03`; 10 is a newline

abbrev text : List ℕ
text = 97 ∷ 32 ∷ 85 ∷ 32 ∷ 98 ∷ []  -- `a U b`

abbrev series : List ℕ
series = 48 ∷ 49 ∷ 48 ∷ 50 ∷ 10 ∷ 48 ∷ 49 ∷ 10 ∷ 10 ∷ 48 ∷ 51 ∷ 10 ∷ []  -- `0102`, `01`, a blank line, `03`, each with its newline

abbrev pub five_lines : List ℕ
five_lines = text ++ 10 ∷ series

-- ---- the output: `rule 2 states 3 edges`, then `1 yes`, `2 no`, `3 no`, `4 yes`, and `fit 02`, each with its newline

abbrev counts : List ℕ
counts = 114 ∷ 117 ∷ 108 ∷ 101 ∷ 32 ∷ 50 ∷ 32 ∷ 115 ∷ 116 ∷ 97 ∷ 116 ∷ 101 ∷ 115 ∷ 32 ∷ 51 ∷ 32 ∷ 101 ∷ 100 ∷ 103 ∷ 101 ∷ 115 ∷ 10 ∷ []  -- `rule 2 states 3 edges`

abbrev answers : List ℕ
answers = 49 ∷ 32 ∷ 121 ∷ 101 ∷ 115 ∷ 10 ∷ 50 ∷ 32 ∷ 110 ∷ 111 ∷ 10 ∷ 51 ∷ 32 ∷ 110 ∷ 111 ∷ 10 ∷ 52 ∷ 32 ∷ 121 ∷ 101 ∷ 115 ∷ 10 ∷ []  -- `1 yes`, `2 no`, `3 no`, `4 yes`

abbrev fit : List ℕ
fit = 102 ∷ 105 ∷ 116 ∷ 32 ∷ 48 ∷ 50 ∷ 10 ∷ []  -- `fit 02`

abbrev pub six_lines : List ℕ
six_lines = counts ++ (answers ++ fit)

-- ---- why

abbrev tree : Syntax
tree = until (flag 0) (flag 1)

abbrev φ : Tree
φ = nnf tree

sound : Sound text tree
unfolding sign_of
sound = record { short = omega arith; spells = (read_exact 32 text tree).0 refl }

few : length (formulas φ) ≤ 64
unfolding nnf signed formulas ℕ_discrete
few = (le_means (length (formulas φ)) 64).0 tt

read_profile : (numbering Finite φ).profile ≡ Finite
unfolding numbering
read_profile = refl

abbrev read : ReadAs Finite text (numbering Finite φ)
read = record { profile_is = read_profile; tree = tree; sound = sound; numbers = sound_numbers Finite text tree sound few }

fine : ¬ TooMuch Finite φ
unfolding nnf signed formulas number choices choices_of members_from states edges_of ℕ_discrete
fine = test_within_lem Finite φ tt

answered : Answered (TextAnswersYes Finite tree) series answers
unfolding decide nnf signed ℕ_discrete digit? date_first written? lines_of answer_of answers_of answered_of decimal decimal_in
answered = (answered_of (TextAnswersYes Finite tree) (decide Finite tree) series).1

fits : FitOf (TextAnswersYes Finite tree) (Some (2 ∷ []))
unfolding nnf signed formulas number choices choices_of members_from states edges_of end_yes laid fit_of ℕ_discrete
fits = (fit_of Finite text (numbering Finite φ) read fine).1

pub listing : JudgePrints five_lines six_lines
unfolding nnf signed formulas number choices choices_of members_from states edges_of decimal decimal_in ℕ_discrete
listing = judged (Some (2 ∷ [])) read fine answered fits

-- and nothing else
pub listing_only : (output : List ℕ) → JudgePrints five_lines output → output ≡ six_lines
listing_only output h = prints_one Finite five_lines output six_lines h listing
