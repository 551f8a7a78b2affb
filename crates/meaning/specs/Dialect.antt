-- What a profile stands for, as one record: document 01 for the finite profile, document 02, Q-6, for the other. Definitions, to be believed. Assumes
-- nothing.
use Rattle.std.specs.Prelude.{ℕ, ◌^◌, Bool, not, List, ◌≡◌, Result, Ok, Err}
use Rattle.laws.specs.Lists.{every}
use Rattle.laws.specs.Masks.{bit}
use Rattle.meaning.specs.Formula.{Formula, Series}
use Rattle.meaning.specs.Meaning.{Clauses, holds_by, finite}
use Rattle.meaning.specs.Listed.{last}
use Rattle.meaning.specs.Ending.{end_yes}
use Rattle.meaning.specs.Syntax.{Syntax, means_by}
use Rattle.meaning.specs.declared.Profile.{Profile}
use Rattle.meaning.specs.declared.Profile.TheVariants.{Finite, Last}
use Rattle.meaning.specs.declared.UnknownProfile.{UnknownProfile}

pub record Dialect : Type 1 where
  -- by which callers name it
  pub number : ℕ
  -- what its signs say, and when a rule answers yes
  pub clauses : Clauses
  -- the most formulas of a rule
  pub most : ℕ
  -- what the start has beside the whole formula, and a target beside a formula that `X`, or `U` as "this formula next", puts into it: nothing, or the mark
  pub mark : ℕ
  -- whether a state, a set m with these formulas as members, accepts
  pub accepts : ℕ → List Formula → Bool

abbrev pub dialect : Profile → Dialect
dialect Finite = record { number = 0; clauses = finite; most = 64; mark = 0; accepts = λ m φs. every end_yes φs }
dialect Last = record { number = 1; clauses = last; most = 63; mark = 2 ^ 63; accepts = λ m φs. not (bit m 63) }

-- no profile has this number
abbrev pub NoProfile : ℕ → Type 0
NoProfile n = (π : Profile) → ¬ ((dialect π).number ≡ n)

-- what a number chooses: the profile that has it, or none
abbrev pub ChosenBy : ℕ → Result Profile UnknownProfile → Type 0
ChosenBy n (Ok π) = (dialect π).number ≡ n
ChosenBy n (Err unknown) = NoProfile n

pub record Chooses (n : ℕ) (r : Result Profile UnknownProfile) : Type 0 where
  pub chosen : ChosenBy n r

-- the rule with this formula answers yes to a series; and the rule of a text with this tree
abbrev pub AnswersYes : Profile → Formula → Series → Type 0
AnswersYes π φ s = (dialect π).clauses.ask (holds_by (dialect π).clauses φ) s

abbrev pub TextAnswersYes : Profile → Syntax → Series → Type 0
TextAnswersYes π p s = (dialect π).clauses.ask (means_by (dialect π).clauses p) s
