-- The choices of a formula and of a state at a date, with their count and order: document 01, "Tables", and for the mark document 02, Q-6. Definitions,
-- to be believed. Assumes nothing.
use Rattle.std.specs.Prelude.{ℕ, suc, ◌^◌, Bool, true, false, List, [], ◌∷◌, ◌++◌, map, get_or}
use Rattle.std.specs.Int.Bits.{bit_or}
use Rattle.laws.specs.Lists.{front_if}
use Rattle.laws.specs.Masks.{bit}
use Rattle.meaning.specs.Formula.{Formula as Tree, flag, not_flag, one, zero, and, or, next, weak, until, release}
use Rattle.meaning.specs.Dialect.{dialect}
use Rattle.meaning.specs.declared.Profile.{Profile}
use Rattle.rule.specs.Numbering.{formulas, number}
use Rattle.tables.specs.declared.Choice.{Choice}

-- the flags that must be present, those that must be absent, and the formulas that must hold of the rest, perhaps with the mark: sets, a bit each
abbrev pub choice : ℕ → ℕ → ℕ → Choice
choice p a t = record { present = p; absent = a; target = t }

-- nothing wanted
abbrev pub free : Choice
free = choice 0 0 0

-- all that the one wants and all that the other wants
abbrev pub join : Choice → Choice → Choice
join c e = choice (bit_or c.present e.present) (bit_or c.absent e.absent) (bit_or c.target e.target)

-- each of the first joined with each of the second, the second running fastest
abbrev pub both : List Choice → List Choice → List Choice
both [] es = []
both (c ∷ cs) es = map (join c) es ++ both cs es

abbrev pub only : Choice → List Choice
only c = c ∷ []

-- `put must φ` is the set that puts φ off to the next date; must is true for `X` and `U`, false for `N` and `R`
module _ (put : Bool → Tree → ℕ) where
  unfoldable pub choices : Tree → List Choice
  choices (flag k) = only (choice (2 ^ k) 0 0)
  choices (not_flag k) = only (choice 0 (2 ^ k) 0)
  choices one = only free
  choices zero = []
  choices (and p q) = both (choices p) (choices q)
  choices (or p q) = choices p ++ choices q
  choices (next p) = only (choice 0 0 (put true p))
  choices (weak p) = only (choice 0 0 (put false p))
  choices (until p q) = choices q ++ both (choices p) (only (choice 0 0 (put true (until p q))))
  choices (release p q) = both (choices q) (choices p ++ only (choice 0 0 (put false (release p q))))

  -- those of several formulas, the last running fastest; none have one empty choice
  unfoldable pub choices_of : List Tree → List Choice
  choices_of [] = only free
  choices_of (φ ∷ φs) = both (choices φ) (choices_of φs)

-- the formulas of the set m in rising number, of a list whose first has number k
unfoldable pub members_from : ℕ → ℕ → List Tree → List Tree
members_from m k [] = []
members_from m k (φ ∷ φs) = front_if (bit m k) φ (members_from m (suc k) φs)

abbrev pub members : List Tree → ℕ → List Tree
members φs m = members_from m 0 φs

-- ---- in the rule of the profile π that is the numbering of φ

-- a formula put off is the set of its number k alone, with the profile's mark where `X` or `U` puts it off
abbrev pub put_at : Profile → Bool → ℕ → ℕ
put_at π true k = bit_or (2 ^ k) (dialect π).mark
put_at π false k = 2 ^ k

abbrev pub put_off : Profile → (Tree → ℕ) → Bool → Tree → ℕ
put_off π no· must φ = put_at π must (no· φ)

-- the choices of the formula with number k
abbrev pub choices_at : Profile → Tree → ℕ → List Choice
choices_at π φ k = choices (put_off π (number φ)) (get_or (formulas φ) k one)

-- the choices of the state m
abbrev pub state_choices : Profile → Tree → ℕ → List Choice
state_choices π φ m = choices_of (put_off π (number φ)) (members (formulas φ) m)
