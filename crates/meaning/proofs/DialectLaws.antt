-- Both profiles' clauses are lawful, so their answers are decided, and negation pushed to the flags keeps them. Assumes nothing.
use Rattle.std.specs.Prelude.{ℕ, ◌≤◌, ◌∷◌, Bool, true, ◌↔◌}
use Rattle.std.proofs.Common.{arith}
use Rattle.meaning.specs.Formula.{Formula, Series}
use Rattle.meaning.specs.Syntax.{Syntax, nnf}
use Rattle.meaning.specs.Meaning.{holds_by}
use Rattle.meaning.proofs.Lawful.{Lawful, finite_lawful, last_lawful}
use Rattle.meaning.proofs.Holding.{asked?}
use Rattle.meaning.proofs.Unrolling.{Unrolls, unrolls}
use Rattle.meaning.proofs.Pushed.{nnf_asks}
use Rattle.meaning.specs.Rest.{Rest}
use Rattle.meaning.specs.Dialect.{dialect, AnswersYes, TextAnswersYes}
use Rattle.meaning.specs.declared.Profile.{Profile}
use Rattle.meaning.specs.declared.Profile.TheVariants.{Finite, Last}

abbrev pub lawful : (π : Profile) → Lawful (dialect π).clauses
lawful Finite = finite_lawful
lawful Last = last_lawful

pub rests : (π : Profile) → Unrolls (holds_by (dialect π).clauses) (Rest π)
rests Finite = unrolls (dialect Finite).clauses finite_lawful
rests Last = unrolls (dialect Last).clauses last_lawful

-- where a date is left, it is what φ says of the rest
pub rest_date : (π : Profile) (must : Bool) (φ : Formula) (d : ℕ) (s : Series) → Rest π must φ (d ∷ s) ↔ holds_by (dialect π).clauses φ (d ∷ s)
rest_date Finite must φ d s = finite_lawful.at_rest must (holds_by (dialect Finite).clauses φ) d s
rest_date Last must φ d s = last_lawful.at_rest must (holds_by (dialect Last).clauses φ) d s

-- a rule answers yes where its formula does, put off as by `X`
pub answers_rest : (π : Profile) (φ : Formula) (s : Series) → AnswersYes π φ s ↔ Rest π true φ s
answers_rest Finite φ s = finite_lawful.asks (holds_by (dialect Finite).clauses φ) s
answers_rest Last φ s = last_lawful.asks (holds_by (dialect Last).clauses φ) s

abbrev pub answers? : (π : Profile) (φ : Formula) (s : Series) → Dec (AnswersYes π φ s)
answers? π φ s = asked? (dialect π).clauses (lawful π) φ s

pub nnf_answers : (π : Profile) (p : Syntax) (s : Series) → TextAnswersYes π p s ↔ AnswersYes π (nnf p) s
nnf_answers π p s = nnf_asks (dialect π).clauses (lawful π) p s

pub most_few : (π : Profile) → (dialect π).most ≤ 64
most_few Finite = omega arith
most_few Last = omega arith
