-- What the calls on lines and texts promise. Definitions, to be believed. Assumes nothing.
use Rattle.std.specs.Prelude.{◌≡◌, List, [], ◌∷◌, ◌++◌, ℕ, suc, ◌+◌, ◌^◌, ◌≤◌, ◌<◌, length, get_or, drop, Result}
use Rattle.answers.specs.Answers.{Outcome, gives, refuses}
use Rattle.answers.specs.Refusals.{outcome}
use Rattle.answers.specs.declared.Refusal.{Refusal}
use Rattle.meaning.specs.Flags.{flags}
use Rattle.automaton.specs.Tables.{Tables, Good}
use Rattle.walking.specs.declared.lines.Answer.{Answer}
use Rattle.walking.specs.declared.lines.Progress.{Progress}
use Rattle.walking.specs.Walks.{Accepted}
use Rattle.walking.specs.Series.{AnswerIs}
use Rattle.walking.specs.Text.{newline, answer_text, Written}
use Rattle.walking.specs.Output.{Unbroken}
use Rattle.walking.specs.Progress.{between, kept}

-- the line that begins at `from` ends at e: at the first newline from there on, or where the bytes end
pub record EndsAt (bytes : List ℕ) (from e : ℕ) : Type 0 where
  pub within : e ≤ length bytes
  pub unbroken : Unbroken (between from e bytes)
  pub newline : e < length bytes → (from ≤ e) × (get_or bytes e 0 ≡ newline)

-- the most bytes that an answer takes
abbrev pub longest : ℕ
longest = 25

-- behind a line and its answer
abbrev pub behind : Progress → List ℕ → Answer → Progress
behind p line a = record {
  at = p.at + suc (length line);
  end = p.end + length (answer_text p.number a);
  number = suc p.number;
}

-- from one place to another the lines that have ended are answered, one after the other, by the text: all of them, or as many as
-- find room for the longest answer
pub data Answers (Fits : List ℕ → Type 0) (bytes : List ℕ) (room : ℕ) : Progress → List ℕ → Progress → Type 0 where
  all : {p : Progress} → Unbroken (drop p.at bytes) → Answers Fits bytes room p [] p
  full : {p : Progress} → room < p.end + longest → Answers Fits bytes room p [] p
  next : {p to : Progress} {text rest : List ℕ} (line left : List ℕ) (a : Answer) → p.end + longest ≤ room → drop p.at bytes ≡ line ++ newline ∷ left
      → Unbroken line → AnswerIs Fits line a → text ≡ answer_text p.number a ++ rest → Answers Fits bytes room (behind p line a) rest to
      → Answers Fits bytes room p text to

-- and the text stands in the slice, from one end to the other
pub record Takes (Fits : List ℕ → Type 0) (bytes : List ℕ) (from : Progress) (before : List ℕ) (to : Progress) (after : List ℕ) : Type 0 where
  pub text : List ℕ
  pub answers : Answers Fits bytes (length before) from text to
  pub written : Written before from.end text to.end after

-- good tables; a place in the bytes, an end in the slice, and a number from which the lines can be counted
pub record Ready (t : Tables) (bytes : List ℕ) (from : Progress) (out : List ℕ) : Type 0 where
  pub good : Good flags t
  pub at : from.at ≤ length bytes
  pub end : from.end ≤ length out
  pub number : from.number + length bytes < 2 ^ 64 + from.at

-- refusal 10 exactly for what is not ready, and nothing is written; else the answers
abbrev pub Tells : Tables → List ℕ → Progress → List ℕ → List ℕ → Outcome Progress (Unit {0}) → Type 0
Tells t bytes from before after (gives to) = Ready t bytes from before × Takes (Accepted t) bytes from before to after
Tells t bytes from before after (refuses n l) = (n ≡ 10) × (after ≡ before) × (Ready t bytes from before → ⊥)

pub record Answering (t : Tables) (bytes : List ℕ) (from : Progress) (before : List ℕ) (r : Result Progress Refusal) (after : List ℕ) : Type 0 where
  pub told : Tells t bytes from before after (outcome r)

-- what is kept of the bytes from `at` up to, not including, `end` stands at the front, and all behind it is as before
pub record Carries (before : List ℕ) (at end r : ℕ) (after : List ℕ) : Type 0 where
  pub count : r ≡ length (kept (between at end before))
  pub bytes : after ≡ kept (between at end before) ++ drop r before

-- the text stands at the front, and all behind it is as before; where there is less room than is asked for, nothing is written
pub record Puts (text : List ℕ) (room : ℕ) (before : List ℕ) (end : ℕ) (after : List ℕ) : Type 0 where
  pub put : room ≤ length before → Written before 0 text end after
  pub short : length before < room → (end ≡ 0) × (after ≡ before)
