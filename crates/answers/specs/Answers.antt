-- What a call answers: a value, or a refusal with its number. Definitions, to be believed. Assumes nothing.
use Rattle.std.specs.Prelude.{ℕ}

-- a value of A, or a refusal: its number, and what the caller is left with
pub data Outcome (A L : Type 0) : Type 0 where
  gives : A → Outcome A L
  refuses : ℕ → L → Outcome A L

-- the number of a refusal, and 0 for none
abbrev pub number_in : {A L : Type 0} → Outcome A L → ℕ
number_in (gives a) = 0
number_in (refuses n l) = n

-- the value that is given, or what stood there before
abbrev pub value_or : {A L : Type 0} → Outcome A L → A → A
value_or (gives a) old = a
value_or (refuses n l) old = old
