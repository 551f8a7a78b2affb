-- What each call promises of its number and of what is lent: the library's own promise, said of bytes and numbers. Definitions, to be believed.
-- Assumes nothing.
use Rattle.std.specs.Prelude.{ℕ, ◌<◌, ◌≡◌, ◌⊎◌, Bool, List, length, Result, Ok, Err, Option, Some, None}
use Rattle.answers.specs.Answers.{Outcome, gives, refuses, number_in, value_or}
use Rattle.answers.specs.Refusals.{Answer, outcome}
use Rattle.meaning.specs.Dialect.{dialect}
use Rattle.meaning.specs.declared.Profile.{Profile}
use Rattle.rule.specs.declared.Rule.{Rule}
use Rattle.automaton.specs.Tables.{Tables}
use Rattle.automaton.specs.Walk.{begun}
use Rattle.reading.specs.Promise.{Reads, number_of, place_of, wanted_of, wanted_number}
use Rattle.reading.specs.declared.Refusal.{Refusal}
use Rattle.plain.specs.Judging.{Judging}
use Rattle.walking.specs.Walks.{walk_of}
use Rattle.walking.specs.Answers.{Stepped}
use Rattle.walking.specs.declared.Walk.{Walk}
use Rattle.printing.specs.Printing.{Printing}
use Rattle.tables.specs.Building.{Slices, Builds}
use Rattle.tables.specs.declared.Counts.{Counts}
use Rattle.walking.specs.FitAnswers.{Searched}
use Rattle.calls.specs.ByteForm.{RuleIs, bytes_of, front}
use Rattle.calls.specs.Answers.{said_number}

pub record JudgedPlainly (profile count : ℕ) (bytes series : List ℕ) (r : ℕ) : Type 0 where
  pub rule : Rule
  pub from : RuleIs profile count bytes rule
  pub judged : Answer Bool
  pub promised : Judging rule series judged
  pub number : r ≡ said_number (outcome judged)

abbrev pub walk_at : ℕ → ℕ → Walk
walk_at low high = record { low = low; high = high }

pub record Begins (low high : ℕ) : Type 0 where
  pub begins : walk_at low high ≡ walk_of begun

-- with the walk that is left
pub record StepsTo (t : Tables) (low high date r low' high' : ℕ) : Type 0 where
  pub stepped : Answer (Unit {0})
  pub promised : Stepped t (walk_at low high) date (walk_at low' high') stepped
  pub number : r ≡ number_in (outcome stepped)

-- what is lent to a reading call
pub record ReadSlots : Type 0 where
  pub count : ℕ
  pub bytes : List ℕ
  pub place : ℕ
  pub wanted : ℕ

abbrev pub read_slots : ℕ → List ℕ → ℕ → ℕ → ReadSlots
read_slots count bytes place wanted = record { count = count; bytes = bytes; place = place; wanted = wanted }

-- the number of a reading, and what it leaves: the rule's count and bytes, or the place and what is wanted there
abbrev pub read_number : Result Rule Refusal → ℕ
read_number (Ok rule) = 0
read_number (Err f) = number_of f

abbrev pub read_left : Result Rule Refusal → ReadSlots → ReadSlots
read_left (Ok rule) lent = read_slots rule.count (front (bytes_of rule.entries) lent.bytes) lent.place lent.wanted
read_left (Err f) lent = read_slots lent.count lent.bytes (place_of f) (wanted_number (wanted_of f))

pub record ReadOf (profile : ℕ) (text : List ℕ) (lent : ReadSlots) (r : ℕ) (left : ReadSlots) : Type 0 where
  pub reading : Result Rule Refusal
  pub promised : Reads profile text reading
  pub number : r ≡ read_number reading
  pub leaves : left ≡ read_left reading lent

-- too short a slice for the rule's bytes, where the number is that of a profile: another is refused before
abbrev pub NoRoom : ℕ → ℕ → Type 0
NoRoom profile size = (size < 192) × ((π : Profile) × ((dialect π).number ≡ profile))

-- then 8, and all as it was
abbrev pub ReadGives : ℕ → List ℕ → ReadSlots → ℕ → ReadSlots → Type 0
ReadGives profile text lent r left =
    (NoRoom profile (length lent.bytes) × (r ≡ 8) × (left ≡ lent)) ⊎ ((¬ NoRoom profile (length lent.bytes)) × ReadOf profile text lent r left)

pub record ReadCall (profile : ℕ) (text : List ℕ) (lent : ReadSlots) (r : ℕ) (left : ReadSlots) : Type 0 where
  pub gives : ReadGives profile text lent r left

-- a fit's number, and the number of dates that is left
abbrev pub fit_number : Outcome (Option ℕ) (Unit {0}) → ℕ
fit_number (gives (Some n)) = 1
fit_number (gives None) = 0
fit_number (refuses n left) = n

abbrev pub dates_left : Outcome (Option ℕ) (Unit {0}) → ℕ → ℕ
dates_left (gives (Some n)) dates = n
dates_left (gives None) dates = dates
dates_left (refuses n left) dates = dates

pub record FitCall (t : Tables) (out : List ℕ) (dates r : ℕ) (out' : List ℕ) (dates' : ℕ) : Type 0 where
  pub fitted : Answer (Option ℕ)
  pub promised : Searched t out out' fitted
  pub number : r ≡ fit_number (outcome fitted)
  pub left : dates' ≡ dates_left (outcome fitted) dates

pub record BuildCall (profile count : ℕ) (bytes : List ℕ) (lent : Slices) (states edges r : ℕ) (left : Slices) (states' edges' : ℕ) : Type 0 where
  pub rule : Rule
  pub from : RuleIs profile count bytes rule
  pub built : Answer Counts
  pub promised : Builds rule lent (outcome built) left
  pub number : r ≡ number_in (outcome built)
  pub counts : record { states = states'; edges = edges' } ≡ value_or (outcome built) (record { states = states; edges = edges })

pub record PrintCall (profile count : ℕ) (bytes out : List ℕ) (size r : ℕ) (out' : List ℕ) (size' : ℕ) : Type 0 where
  pub rule : Rule
  pub from : RuleIs profile count bytes rule
  pub printed : Answer ℕ
  pub promised : Printing rule out out' printed
  pub number : r ≡ number_in (outcome printed)
  pub left : size' ≡ value_or (outcome printed) size
