-- A line while it is read: the values of its digits, and the walk along its dates. Contracts of inner functions. Assumes nothing.
use Rattle.std.specs.Prelude.{◌≡◌, List, ◌++◌, ℕ, ◌≤◌, ◌<◌, length, get_or, Option, Some, None}
use Rattle.meaning.specs.Flags.{flags}
use Rattle.automaton.specs.Tables.{Tables}
use Rattle.automaton.specs.Walk.{walked, begun}
use Rattle.walking.specs.declared.Walk.{Walk}
use Rattle.walking.specs.Walks.{mask}
use Rattle.automaton.specs.Fit.{Dates}
use Rattle.walking.specs.Series.{hex_digit, series_text}

-- v is the value of the byte as one of the first n digits; 16 where it is none of them
pub record ValueIs (n byte v : ℕ) : Type 0 where
  pub within : v ≤ 16
  pub digit : v < 16 → byte ≡ hex_digit v
  pub none : v ≡ 16 → (w : ℕ) → w < n → byte ≡ hex_digit w → ⊥

-- how many values a byte has
abbrev pub byte_count : ℕ
byte_count = 256

-- the values of all bytes
pub record Values (n : ℕ) (values : List ℕ) : Type 0 where
  pub long : length values ≡ byte_count
  pub value : (byte : ℕ) → byte < byte_count → ValueIs n byte (get_or values byte 0)

-- the byte is the digit of the value, or none
abbrev pub DigitIs : ℕ → Option ℕ → Type 0
DigitIs byte (Some v) = (v < 16) × (byte ≡ hex_digit v)
DigitIs byte None = (w : ℕ) → w < 16 → byte ≡ hex_digit w → ⊥

pub record ValueOf (byte : ℕ) (r : Option ℕ) : Type 0 where
  pub digit : DigitIs byte r

-- the bytes are dates, and these lead to w
pub record Leads (t : Tables) (bytes : List ℕ) (w : Walk) : Type 0 where
  pub series : List ℕ
  pub text : bytes ≡ series_text series
  pub dates : Dates flags series
  pub walk : mask w ≡ walked flags t begun series

-- of a line `rest` is still to be read, and what stands before it leads to w
pub record Underway (t : Tables) (line rest : List ℕ) (w : Walk) : Type 0 where
  pub read : List ℕ
  pub whole : line ≡ read ++ rest
  pub leads : Leads t read w
