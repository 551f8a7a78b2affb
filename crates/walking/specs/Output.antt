-- The lines of the program's input, and the answers that it prints for them. Definitions, to be believed. Assumes nothing.
use Rattle.std.specs.Prelude.{◌≡◌, List, [], ◌∷◌, ◌++◌, ℕ, suc}
use Rattle.laws.specs.Lists.{All}
use Rattle.walking.specs.declared.lines.Answer.{Answer}
use Rattle.walking.specs.Series.{AnswerIs}
use Rattle.walking.specs.Text.{newline, answer_text}

-- no byte that ends a line
abbrev pub Unbroken : List ℕ → Type 0
Unbroken bytes = All (λ x. x ≡ newline → ⊥) bytes

-- lines, each with its end
abbrev pub ended : List (List ℕ) → List ℕ
ended [] = []
ended (l ∷ ls) = l ++ newline ∷ ended ls

-- the bytes are these lines, and then what is left: of a line that has not ended
pub record Lines (bytes : List ℕ) (lines : List (List ℕ)) (left : List ℕ) : Type 0 where
  pub text : bytes ≡ ended lines ++ left
  pub unbroken : All Unbroken lines
  pub rest : Unbroken left

-- what stands behind the last newline is a line too, unless it is nothing
abbrev pub last_line_of : List ℕ → List (List ℕ)
last_line_of [] = []
last_line_of (x ∷ left) = (x ∷ left) ∷ []

-- the text of the lines' answers, the first line having number n
abbrev pub AnswersAre : (List ℕ → Type 0) → ℕ → List (List ℕ) → List ℕ → Type 0
AnswersAre Fits n [] text = text ≡ []
AnswersAre Fits n (l ∷ ls) text = (a : Answer) × (rest : List ℕ) × AnswerIs Fits l a × (text ≡ answer_text n a ++ rest) × AnswersAre Fits (suc n) ls rest

-- the text of the answers to all series of an input, which are its lines after the rule
pub record Answered (Fits : List ℕ → Type 0) (input text : List ℕ) : Type 0 where
  pub lines : List (List ℕ)
  pub left : List ℕ
  pub are : Lines input lines left
  pub answers : AnswersAre Fits 1 (lines ++ last_line_of left) text
