-- Lines answered one after the other, while that goes on. Contracts of inner functions. Assumes nothing.
use Rattle.std.specs.Prelude.{◌≡◌, List, ◌++◌, ℕ, ◌+◌, ◌≤◌, length}
use Rattle.walking.specs.declared.lines.Answer.{Answer}
use Rattle.walking.specs.declared.lines.Progress.{Progress}
use Rattle.walking.specs.Series.{AnswerIs}
use Rattle.walking.specs.Text.{answer_text, Written}
use Rattle.walking.specs.Progress.{between}
use Rattle.walking.specs.Promises.{Answers}

-- one line is answered: its text stands in the slice, and the next line begins behind it
pub record TakesLine (Fits : List ℕ → Type 0) (bytes : List ℕ) (from : Progress) (stop : ℕ) (before : List ℕ) (to : Progress) (after : List ℕ) : Type 0 where
  pub answer : Answer
  pub is : AnswerIs Fits (between from.at stop bytes) answer
  pub written : Written before from.end (answer_text from.number answer) to.end after
  pub at : to.at ≡ stop + 1
  pub number : to.number ≡ from.number + 1

-- lines are answered as far as p: whatever answers the rest, the text and that answer all
pub record Reaches (Fits : List ℕ → Type 0) (bytes : List ℕ) (from : Progress) (before : List ℕ) (p : Progress) (now : List ℕ) : Type 0 where
  pub text : List ℕ
  pub written : Written before from.end text p.end now
  pub within : p.at ≤ length bytes
  pub counted : p.number + from.at ≤ from.number + p.at
  pub onward : (rest : List ℕ) (to : Progress) → Answers Fits bytes (length before) p rest to → Answers Fits bytes (length before) from (text ++ rest) to
