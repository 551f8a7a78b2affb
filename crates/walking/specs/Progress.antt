-- Parts of the input, and the answers to the lines that end in them. Definitions, to be believed. Assumes nothing.
use Rattle.std.specs.Prelude.{◌≡◌, List, [], ◌∷◌, ◌++◌, ℕ, ◌+◌, ◌-◌, length, take, drop}
use Rattle.walking.specs.Output.{Lines, last_line_of, AnswersAre}

-- the bytes from a up to, not including, e
abbrev pub between : ℕ → ℕ → List ℕ → List ℕ
between a e bytes = take (e - a) (drop a bytes)

-- the lines that end in the bytes, numbered from n, are answered by the text; `left` is left of the bytes, and its line has number m
pub record Told (Fits : List ℕ → Type 0) (bytes : List ℕ) (n : ℕ) (text left : List ℕ) (m : ℕ) : Type 0 where
  pub lines : List (List ℕ)
  pub are : Lines bytes lines left
  pub answers : AnswersAre Fits n lines text
  pub number : m ≡ n + length lines

-- what is kept of a line that has not ended: one byte more than a series may have
abbrev pub kept : List ℕ → List ℕ
kept bytes = take 8193 bytes

abbrev pub joined : List (List ℕ) → List ℕ
joined [] = []
joined (part ∷ parts) = part ++ joined parts

-- the text of the answers to an input that comes in parts, where `held` is held of the line with number n: the lines that end in a part
-- are answered with what is held, and then what is kept of the line that has not ended is held
abbrev pub InParts : (List ℕ → Type 0) → List ℕ → ℕ → List (List ℕ) → List ℕ → Type 0
InParts Fits held n [] text = AnswersAre Fits n (last_line_of held) text
InParts Fits held n (part ∷ parts) text =
    (x : List ℕ) × (y : List ℕ) × (left : List ℕ) × (m : ℕ) × Told Fits (held ++ part) n x left m × (text ≡ x ++ y) × InParts Fits (kept left) m parts y
