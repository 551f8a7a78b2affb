-- What a formula says of a series with at least one date: the list of document 001, section II.A. `drop i s` is the suffix of s that begins at place i;
-- the places run over the dates, so no suffix is empty. Definitions, to be believed. Assumes nothing.
use Rattle.std.specs.Prelude.{ℕ, ◌≤◌, ◌<◌, ◌≡◌, ◌⊎◌, length, drop, get_or}
use Rattle.laws.specs.Masks.{has}
use Rattle.meaning.specs.Formula.{Formula, Series}
use Rattle.meaning.specs.Meaning.{Clauses, holds_by}

-- the first date has flag k
unfoldable pub AtFirst : ℕ → Series → Type 0
AtFirst k s = has (get_or s 0 0) k

-- there is more than one date, and P is true of what follows the first
unfoldable pub NextDate : (Series → Type 0) → Series → Type 0
NextDate P s = (1 < length s) × P (drop 1 s)

-- there is one date only, or P is true of what follows it
unfoldable pub WeakDate : (Series → Type 0) → Series → Type 0
WeakDate P s = (length s ≡ 1) ⊎ P (drop 1 s)

-- Q is true of what begins at some date, and P of what begins at every date before it
unfoldable pub UntilDate : (Series → Type 0) → (Series → Type 0) → Series → Type 0
UntilDate P Q s = (i : ℕ) × (i < length s) × Q (drop i s) × ((j : ℕ) → j < i → P (drop j s))

-- Q is true of what begins at every date; or P is true of what begins at some date, and Q of what begins at every date up to it, that one too
unfoldable pub ReleaseDate : (Series → Type 0) → (Series → Type 0) → Series → Type 0
ReleaseDate P Q s =
    ((i : ℕ) → i < length s → Q (drop i s)) ⊎ ((i : ℕ) × (i < length s) × P (drop i s) × ((j : ℕ) → j ≤ i → Q (drop j s)))

-- document 02, Q-6: yes wants a date, whatever the rule
abbrev pub AskDate : (Series → Type 0) → Series → Type 0
AskDate P s = (1 ≤ length s) × P s

abbrev pub last : Clauses
last = record { first = AtFirst; next = NextDate; weak = WeakDate; until = UntilDate; release = ReleaseDate; ask = AskDate }

abbrev pub lists : Formula → Series → Type 0
lists = holds_by last
