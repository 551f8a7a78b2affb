-- The documents' number of each refusal that has no place, and what a call's result is in their words. Definitions, to be believed. Assumes nothing.
use Rattle.std.specs.Prelude.{ℕ, Result, Ok, Err}
use Rattle.answers.specs.Answers.{Outcome, gives, refuses}
use Rattle.answers.specs.declared.Refusal.{Refusal}
use Rattle.answers.specs.declared.Refusal.TheVariants.{NotARule, TooLong, ShortSlice, TooLarge, BadTables}

abbrev pub number_of : Refusal → ℕ
number_of NotARule = 6
number_of TooLong = 7
number_of ShortSlice = 8
number_of TooLarge = 9
number_of BadTables = 10

-- what a call answers: a value, or why it is refused
abbrev pub Answer : Type 0 → Type 0
Answer A = Result A Refusal

-- the same in the documents' words: a value, or a refusal by its number
abbrev pub outcome : {A : Type 0} → Answer A → Outcome A (Unit {0})
outcome (Ok a) = gives a
outcome (Err f) = refuses (number_of f) tt
