-- What a formula says of a series: document 000, Definition 9. `drop j s` is the suffix of s that begins at place j; the places run from 0 to the
-- length, so the last suffix is empty. The recursion over the formula serves every dialect; Listed has the clauses of the other.
-- Definitions, to be believed. Assumes nothing.
use Rattle.std.specs.Prelude.{ℕ, ◌≤◌, ◌<◌, ◌≡◌, ◌⊎◌, length, drop, get_or}
use Rattle.laws.specs.Masks.{has}
use Rattle.meaning.specs.Formula.{Formula, flag, not_flag, one, zero, and, or, next, weak, until, release, Series}

-- ---- the clauses, each over what its parts say of a series

-- what holds of every series, and what of none
abbrev pub Always : Series → Type 0
Always s = Unit {0}

abbrev pub Never : Series → Type 0
Never s = ⊥

-- a date is left, and the first of them has flag k
unfoldable pub First : ℕ → Series → Type 0
First k s = (1 ≤ length s) × has (get_or s 0 0) k

-- a date is left, and P is true of what follows the first
unfoldable pub Next : (Series → Type 0) → Series → Type 0
Next P s = (1 ≤ length s) × P (drop 1 s)

-- no date is left, or P is true of what follows the first
unfoldable pub Weak : (Series → Type 0) → Series → Type 0
Weak P s = (length s ≡ 0) ⊎ P (drop 1 s)

-- some suffix, perhaps the empty last one, has Q, and every suffix before it has P
unfoldable pub Until : (Series → Type 0) → (Series → Type 0) → Series → Type 0
Until P Q s = (j : ℕ) × (j ≤ length s) × Q (drop j s) × ((k : ℕ) → k < j → P (drop k s))

-- every suffix, also the empty last one, has Q unless a suffix before it has P
unfoldable pub Release : (Series → Type 0) → (Series → Type 0) → Series → Type 0
Release P Q s = (j : ℕ) → j ≤ length s → Q (drop j s) ⊎ ((k : ℕ) × (k < j) × P (drop k s))

-- ---- the definition, once over the clauses

-- what a dialect says of its signs, each over what the parts say; and `ask`: when a whole rule answers yes
pub record Clauses : Type 1 where
  pub first : ℕ → Series → Type 0
  pub next : (Series → Type 0) → Series → Type 0
  pub weak : (Series → Type 0) → Series → Type 0
  pub until : (Series → Type 0) → (Series → Type 0) → Series → Type 0
  pub release : (Series → Type 0) → (Series → Type 0) → Series → Type 0
  pub ask : (Series → Type 0) → Series → Type 0

-- `×` is and, `⊎` or, `¬` not; Unit always holds and ⊥ never.
abbrev pub holds_by : Clauses → Formula → Series → Type 0
holds_by C (flag k) s = C.first k s
holds_by C (not_flag k) s = ¬ C.first k s
holds_by C one s = Unit {0}
holds_by C zero s = ⊥
holds_by C (and p q) s = holds_by C p s × holds_by C q s
holds_by C (or p q) s = holds_by C p s ⊎ holds_by C q s
holds_by C (next p) s = C.next (holds_by C p) s
holds_by C (weak p) s = C.weak (holds_by C p) s
holds_by C (until p q) s = C.until (holds_by C p) (holds_by C q) s
holds_by C (release p q) s = C.release (holds_by C p) (holds_by C q) s

-- Definition 9
abbrev pub finite : Clauses
finite = record { first = First; next = Next; weak = Weak; until = Until; release = Release; ask = λ P. P }

abbrev pub holds : Formula → Series → Type 0
holds = holds_by finite
