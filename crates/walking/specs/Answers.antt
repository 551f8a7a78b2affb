-- What the calls promise, in document 01's words: a value, or a refusal with its number. Definitions, to be believed. Assumes nothing.
use Rattle.std.specs.Prelude.{◌≡◌, Bool, List, [], ◌∷◌, ℕ, T, Result, Ok, Err}
use Rattle.laws.specs.Decided.{Decides}
use Rattle.answers.specs.Answers.{Outcome, gives, refuses}
use Rattle.answers.specs.Refusals.{number_of, outcome}
use Rattle.answers.specs.declared.Refusal.{Refusal}
use Rattle.meaning.specs.Flags.{flags}
use Rattle.automaton.specs.Tables.{Tables, Good}
use Rattle.automaton.specs.Walk.{moved, answer, closed}
use Rattle.walking.specs.declared.Walk.{Walk}
use Rattle.walking.specs.Walks.{mask, walk_of, GoodWalk, Accepted}

-- what `step` answers, and the walk that it leaves: the walk that is given, or the one with which a refusal leaves its caller
abbrev pub place : Walk → Result (Unit {0}) Refusal → Outcome Walk Walk
place m (Ok u) = gives m
place m (Err f) = refuses (number_of f) m

-- refusal 10 exactly for what is not taken, with the caller left as before; else a value with P
abbrev pub Told : {A L : Type 0} → Type 0 → L → (A → Type 0) → Outcome A L → Type 0
Told taken left P (gives a) = taken × P a
Told taken left P (refuses n l) = (n ≡ 10) × (l ≡ left) × (taken → ⊥)

abbrev pub Taken : Tables → Walk → Type 0
Taken t m = Good flags t × GoodWalk t.states m

-- m is the walk before, and `after` the one that stands there then
pub record Stepped (t : Tables) (m : Walk) (d : ℕ) (after : Walk) (r : Result (Unit {0}) Refusal) : Type 0 where
  pub told : Told (Taken t m) m (λ next. next ≡ walk_of (moved flags t (mask m) d)) (place after r)

-- n is the walk to which the calls of `step`, one for each date of s, lead from m on
abbrev pub Along : Tables → Walk → List ℕ → Walk → Type 0
Along t m [] n = m ≡ n
Along t m (d ∷ s) n = (next : Walk) × Stepped t m d next (Ok tt) × Along t next s n

pub record Answered (t : Tables) (m : Walk) (r : Result Bool Refusal) : Type 0 where
  pub told : Told (Taken t m) tt (λ said. Decides said (T (answer t (mask m)))) (outcome r)

pub record Closed (t : Tables) (m : Walk) (r : Result Bool Refusal) : Type 0 where
  pub told : Told (Taken t m) tt (λ said. Decides said (T (closed (mask m)))) (outcome r)

pub record Judged (t : Tables) (s : List ℕ) (r : Result Bool Refusal) : Type 0 where
  pub told : Told (Good flags t) tt (λ said. Decides said (Accepted t s)) (outcome r)
