-- What the program prints where each of its calls answers as it promises. Definitions, to be believed. Assumes nothing.
use Rattle.std.specs.Prelude.{◌≡◌, ◌⊎◌, List, [], ◌∷◌, ◌++◌, ℕ, ◌≤◌, ◌<◌, length, take, drop, Ok, Err, None, Option, Some}
use Rattle.answers.specs.Answers.{refuses}
use Rattle.answers.specs.Refusals.{Answer}
use Rattle.meaning.specs.Dialect.{dialect}
use Rattle.meaning.specs.declared.Profile.{Profile}
use Rattle.reading.specs.Promise.{number_of, place_of, wanted_of, wanted_number, Reads}
use Rattle.reading.specs.declared.Refusal.{Refusal}
use Rattle.rule.specs.declared.Rule.{Rule}
use Rattle.automaton.specs.Tables.{Tables}
use Rattle.tables.specs.Building.{counts, Slices, Long, Builds, made_of}
use Rattle.walking.specs.FitAnswers.{Searched, room}
use Rattle.walking.specs.declared.lines.Progress.{Progress}
use Rattle.walking.specs.Text.{newline, counts_text, refused_text, fit_text, no_fit_text}
use Rattle.walking.specs.Progress.{kept, joined}
use Rattle.walking.specs.Promises.{longest, Answering}
use Rattle.demands.specs.Program.{rule_line, series_lines}

-- how the fit that was searched for is printed, from the buffer that it stands in
abbrev pub found_text : Answer (Option ℕ) → List ℕ → List ℕ
found_text (Ok (Some n)) buffer = fit_text (take n buffer)
found_text (Ok None) buffer = no_fit_text
found_text (Err refusal) buffer = []

-- what is held of the rule's line when it has ended: the line, or, of one with more than 8,192 bytes, which may have been cut on the way,
-- any text that has more than that too
abbrev pub Held : List ℕ → List ℕ → Type 0
Held line text = (text ≡ line) ⊎ ((8192 < length line) × (8192 < length text))

-- lines are answered from this place and number on, and their answers stand at the slice's front
abbrev pub begin : ℕ → ℕ → Progress
begin at number = record { at = at; end = 0; number = number }

-- calls of `answer_lines` on the same bytes, one after the other, from a place and a line's number to a place and a number; what each wrote
-- is printed
pub data InCalls (t : Tables) (bytes : List ℕ) : (at number : ℕ) (text : List ℕ) (at' number' : ℕ) → Type 0 where
  -- one that wrote something is followed by one that goes on where it ended
  wrote : {at number at' number' : ℕ} {text before after : List ℕ} (to : Progress) → Answering t bytes (begin at number) before (Ok to) after
      → 0 < to.end → InCalls t bytes to.at to.number text at' number' → InCalls t bytes at number (take to.end after ++ text) at' number'
  -- one that wrote nothing, though there was room for an answer, is the last
  wrote_nothing : {at number : ℕ} {before after : List ℕ} (to : Progress) → longest ≤ length before
      → Answering t bytes (begin at number) before (Ok to) after → to.end ≡ 0 → InCalls t bytes at number [] to.at to.number

-- what is printed for an input that is read part by part, where `held` is held of the line with this number
pub data ByParts (t : Tables) : (held : List ℕ) (number : ℕ) (parts : List (List ℕ)) (text : List ℕ) → Type 0 where
  -- a part comes behind what is held, and the calls begin at what is held; then what is kept of the bytes that they left is held
  next_part : {held part : List ℕ} {number : ℕ} {parts : List (List ℕ)} {x y : List ℕ} (bytes : List ℕ) (from at m : ℕ)
      → drop from bytes ≡ held ++ part → InCalls t bytes from number x at m → ByParts t (kept (drop at bytes)) m parts y
      → ByParts t held number (part ∷ parts) (x ++ y)
  -- the input has ended, and nothing is held
  all_ended : {number : ℕ} → ByParts t [] number [] []
  -- or the last line lacks its newline, which is set behind it
  last_line : {b : ℕ} {held : List ℕ} {number : ℕ} {text : List ℕ} (at m : ℕ) → InCalls t ((b ∷ held) ++ (newline ∷ [])) 0 number text at m
      → ByParts t (b ∷ held) number [] text

-- what the program prints, where each call answers as it promises; `judge` makes those under finite: `read` of what is held of the rule's line, then
-- `build` in slices that are long enough, then the series in the parts that they come in, by the tables that it made, then `fit` in a buffer with room for it
pub data Calls (π : Profile) (input : List ℕ) : List ℕ → Type 0 where
  not_read : (text : List ℕ) (f : Refusal) → Held (rule_line input) text → Reads (dialect π).number text (Err f)
      → Calls π input (refused_text (number_of f) (place_of f) (wanted_number (wanted_of f)))
  not_built : (text : List ℕ) (rule : Rule) (s u : Slices) (n : ℕ) → Held (rule_line input) text → Reads (dialect π).number text (Ok rule)
      → Long s → Builds rule s (refuses n tt) u → Calls π input (refused_text n 0 0)
  all_said : (text : List ℕ) (rule : Rule) (s u : Slices) (n k : ℕ) (parts : List (List ℕ)) (answers before after : List ℕ) (f : Answer (Option ℕ))
      → Held (rule_line input) text → Reads (dialect π).number text (Ok rule) → Builds rule s (counts n k) u
      → joined parts ≡ series_lines input → ByParts (made_of n k u) [] 1 parts answers
      → room ≤ length before → Searched (made_of n k u) before after f
      → Calls π input (counts_text n k ++ (answers ++ found_text f after))
