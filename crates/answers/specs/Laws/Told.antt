-- What a call answers is told by its outcome: no two refusals have one number. Assumes nothing.
use Rattle.std.specs.Prelude.{◌≡◌, refl, ℕ, ◌≤◌, Ok, Err, cond, eqb}
use Rattle.std.proofs.Common.{sym, ap, ◌∙◌, arith}
use Rattle.answers.specs.declared.Refusal.{Refusal}
use Rattle.answers.specs.declared.Refusal.TheVariants.{NotARule, TooLong, ShortSlice, TooLarge, BadTables}
use Rattle.answers.specs.Answers.{Outcome, gives, refuses, number_in, value_or}
use Rattle.answers.specs.Laws.Outcomes.{told_back}
use Rattle.answers.specs.Refusals.{number_of, Answer, outcome}

refusal_of : ℕ → Refusal
refusal_of n = cond (eqb n 6) NotARule (cond (eqb n 7) TooLong (cond (eqb n 8) ShortSlice (cond (eqb n 9) TooLarge BadTables)))

refusal_back : (f : Refusal) → refusal_of (number_of f) ≡ f
unfolding refusal_of
refusal_back NotARule = refl
refusal_back TooLong = refl
refusal_back ShortSlice = refl
refusal_back TooLarge = refl
refusal_back BadTables = refl

pub number_from : (f : Refusal) → 6 ≤ number_of f
number_from NotARule = omega arith
number_from TooLong = omega arith
number_from ShortSlice = omega arith
number_from TooLarge = omega arith
number_from BadTables = omega arith

module _ {A : Type 0} where
  result_of : Outcome A (Unit {0}) → Answer A
  result_of (gives a) = Ok a
  result_of (refuses n l) = Err (refusal_of n)

  result_back : (r : Answer A) → result_of (outcome r) ≡ r
  unfolding result_of
  result_back (Ok a) = refl
  result_back (Err f) = ap Err (refusal_back f)

  pub outcome_told : (q r : Answer A) → outcome q ≡ outcome r → q ≡ r
  outcome_told = told_back outcome result_of result_back

  -- a number is that of one refusal, and of no value
  pub refused_by : (f : Refusal) (r : Answer A) → number_in (outcome r) ≡ number_of f → r ≡ Err f
  refused_by f (Ok a) e = absurd (let from = number_from f in omega arith)
  refused_by f (Err g) e = ap Err (sym (refusal_back g) ∙ ap refusal_of e ∙ refusal_back f)

  -- 0 is the number of a value
  pub given_back : (r : Answer A) (a old : A) → 0 ≡ number_in (outcome r) → a ≡ value_or (outcome r) old → r ≡ Ok a
  given_back (Ok b) a old e f = ap Ok (sym f)
  given_back (Err g) a old e f = absurd (let from = number_from g in omega arith)
