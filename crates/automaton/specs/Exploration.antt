-- Exploration by first meeting: the elements that a row function leads to from a start, listed as they are first met, rows in the list's order and
-- targets in row order (document 01, "Tables"), and the limit on their number (refusal 9). Definitions, to be believed. Assumes nothing.
use Rattle.std.specs.Prelude.{◌⊎◌, Bool, cond, List, [], ◌∷◌, ◌++◌, ℕ, zero, suc, ◌<◌, T, ltb, length, get_or}
use Rattle.laws.specs.Lists.{In, Once}
use Rattle.laws.specs.Places.{is_in}

-- ---- what is reached

module _ {A : Type 0} where
  pub data Reached (row : A → List A) (start : A) : A → Type 0 where
    at_start : Reached row start start
    onward : {a b : A} → Reached row start a → In b (row a) → Reached row start b

  module _ (row : A → List A) (start : A) where
    -- without repeats, and all reached
    pub record Sound (found : List A) : Type 0 where
      pub no_repeat : Once found
      pub reached : (a : A) → In a found → Reached row start a

    -- more than `limit` different elements are reached
    abbrev pub Over : ℕ → Type 0
    Over limit = (l : List A) × (limit < length l) × Sound l

    -- too many elements are reached, or a bad one
    abbrev pub Refused : ℕ → (A → Bool) → Type 0
    Refused limit bad = Over limit ⊎ ((a : A) × Reached row start a × T (bad a))

-- ---- the order of first meeting; `same` tests whether two elements are one

module _ {A : Type 0} (same : A → A → Bool) where
  -- one target, and a row of targets, met after `found`
  abbrev pub meet : List A → A → List A
  meet found a = cond (is_in same a found) found (found ++ a ∷ [])

  abbrev pub meet_all : List A → List A → List A
  meet_all found [] = found
  meet_all found (a ∷ row) = meet_all (meet found a) row

  module _ (row : A → List A) (start : A) where
    -- row k, if there is a row k
    abbrev pub visit : ℕ → List A → List A
    visit k found = cond (ltb k (length found)) (meet_all found (row (get_or found k start))) found

    -- the list after k rows
    abbrev pub explored : ℕ → List A
    explored zero = start ∷ []
    explored (suc k) = visit k (explored k)
