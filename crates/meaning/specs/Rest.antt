-- What a formula that is put off to the next date says of what is left of the series, by either profile. Assumes nothing.
use Rattle.std.specs.Prelude.{Bool, true, false, [], ◌∷◌}
use Rattle.meaning.specs.Formula.{Formula, Series}
use Rattle.meaning.specs.Meaning.{holds_by}
use Rattle.meaning.specs.Dialect.{dialect}
use Rattle.meaning.specs.declared.Profile.{Profile}
use Rattle.meaning.specs.declared.Profile.TheVariants.{Finite, Last}

-- P of what is left after a date: where nothing is left, no if a date must be there and yes if not
abbrev pub Left : Bool → (Series → Type 0) → Series → Type 0
Left true P [] = ⊥
Left false P [] = Unit {0}
Left must P (d ∷ s) = P (d ∷ s)

-- what P, put off to the next date, says of the rest s; must is true for `X` and `U`, false for `N` and `R`: by the list the first two want a next date, by
-- Definition 9 all are alike
abbrev pub later : Profile → Bool → (Series → Type 0) → Series → Type 0
later Finite must P = P
later Last must P = Left must P

-- what φ, put off to the next date, says of the rest s
abbrev pub Rest : Profile → Bool → Formula → Series → Type 0
Rest π must φ s = later π must (holds_by (dialect π).clauses φ) s
