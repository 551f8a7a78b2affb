-- Each call from C has an outcome for every input, from that of the library. Assumes nothing.
use Rattle.std.specs.Prelude.{refl, ◌↔◌, List, ℕ, length, Bool}
use Rattle.std.proofs.Common.{sym, ◌∙◌, inl, inr}
use Rattle.std.proofs.Math.Logic.{by_cases}
use Rattle.std.proofs.Math.Decide.{dec_lt}
use Rattle.laws.specs.Decided.{both?}
use Rattle.answers.specs.Answers.{number_in, value_or}
use Rattle.answers.specs.Refusals.{Answer, outcome}
use Rattle.meaning.specs.Formula.{Series}
use Rattle.meaning.specs.Choosing.{known?}
use Rattle.rule.specs.Numbering.{IsRule}
use Rattle.rule.proofs.Deciding.{is_rule?}
use Rattle.rule.specs.declared.Rule.{Rule}
use Rattle.tables.specs.Building.{Slices}
use Rattle.automaton.specs.Tables.{Tables}
use Rattle.automaton.specs.Walk.{begun}
use Rattle.walking.specs.Walks.{walk_of}
use Rattle.walking.specs.Answers.{Answered, Closed, Judged}
use Rattle.calls.specs.ByteForm.{RuleIs, HasRule}
use Rattle.calls.specs.FormLaws.{has_rule}
use Rattle.calls.specs.Deciding.{rule_from}
use Rattle.calls.specs.Answers.{Says, Saying, said_number}
use Rattle.calls.specs.Promises.{JudgedPlainly, walk_at, Begins, StepsTo, ReadSlots, read_number, read_left, ReadCall, fit_number, dates_left, FitCall, BuildCall, PrintCall}
use Rattle.calls.specs.Outcomes.{says_one, saying_one, plainly_one, steps_one, read_call_one, fit_call_one, build_call_one, print_call_one}
use Rattle.demands.specs.EveryCall.{OneOutcome, EveryCallFromC}
use Rattle.demands.proofs.Existence as ends

is_rule_ends : (profile count : ℕ) (bytes : List ℕ) → OneOutcome (λ r. Says r (HasRule profile count bytes))
is_rule_ends profile count bytes = by_cases (is_rule? from.0)
    (λ h. let x : Says 1 (HasRule profile count bytes) = inl (refl, same.0 h) in ends.the_one (λ a b. says_one a b) 1 x)
    (λ n. let x : Says 0 (HasRule profile count bytes) = inr (refl, λ h. n (same.1 h)) in ends.the_one (λ a b. says_one a b) 0 x)
  where
    from : (rule : Rule) × RuleIs profile count bytes rule
    from = rule_from profile count bytes

    same : IsRule from.0 ↔ HasRule profile count bytes
    same = has_rule profile count bytes from.0 from.1

reading_ends : (profile : ℕ) (text : List ℕ) (lent : ReadSlots) → OneOutcome (λ (x : ℕ × ReadSlots). ReadCall profile text lent x.0 x.1)
reading_ends profile text lent = by_cases (both? (dec_lt (length lent.bytes) 192) (known? profile))
    (λ h. of_call 8 lent (record { gives = inl (h, refl, refl) }))
    (λ n. let x = ends.reading_ends profile text in
    of_call (read_number x.outcome) (read_left x.outcome lent)
    (record { gives = inr (n, record { reading = x.outcome; promised = x.promised; number = refl; leaves = refl }) }))
  where
    of_call : (r : ℕ) (left : ReadSlots) → ReadCall profile text lent r left → OneOutcome (λ (x : ℕ × ReadSlots). ReadCall profile text lent x.0 x.1)
    of_call = ends.one_with (λ a b s t p q. read_call_one profile text lent a s b t p q)

module _ (profile count : ℕ) (bytes : List ℕ) where
  from : (rule : Rule) × RuleIs profile count bytes rule
  from = rule_from profile count bytes

  printing_ends : (out : List ℕ) (size : ℕ) → OneOutcome (λ (x : ℕ × List ℕ × ℕ). PrintCall profile count bytes out size x.0 x.1 x.2)
  printing_ends out size =
      let z = ends.printing_ends from.0 out in
      let a = outcome z.outcome.0 in
      let x : PrintCall profile count bytes out size (number_in a) z.outcome.1 (value_or a size) =
      record { rule = from.0; from = from.1; printed = z.outcome.0; promised = z.promised; number = refl; left = refl } in
      record {
        outcome = (number_in a, z.outcome.1, value_or a size);
        promised = x;
        only = λ (r, l, m) y. let (e, f, g) = print_call_one profile count bytes out size r l m (number_in a) z.outcome.1 (value_or a size) y x in λ i. (e i, f i, g i);
      }

  judging_plainly_ends : (s : Series) → OneOutcome (JudgedPlainly profile count bytes s)
  judging_plainly_ends s =
      let z = ends.judging_plainly_ends from.0 s in
      let r = said_number (outcome z.outcome) in
      let x : JudgedPlainly profile count bytes s r = record { rule = from.0; from = from.1; judged = z.outcome; promised = z.promised; number = refl } in
      ends.the_one (plainly_one profile count bytes s) r x

  building_ends : (lent : Slices) (states edges : ℕ)
      → OneOutcome (λ (x : ℕ × Slices × ℕ × ℕ). BuildCall profile count bytes lent states edges x.0 x.1 x.2 x.3)
  building_ends lent states edges =
      let z = ends.building_ends from.0 lent in
      let a = outcome z.outcome.0 in
      let c = value_or a (record { states = states; edges = edges }) in
      let x : BuildCall profile count bytes lent states edges (number_in a) z.outcome.1 c.states c.edges =
      record { rule = from.0; from = from.1; built = z.outcome.0; promised = z.promised; number = refl; counts = refl } in
      record {
        outcome = (number_in a, z.outcome.1, c.states, c.edges);
        promised = x;
        only = λ (r, l, m, n) y.
            let (e, f, g, h) = build_call_one profile count bytes lent states edges r l m n (number_in a) z.outcome.1 c.states c.edges y x in
            λ i. (e i, f i, g i, h i);
      }

-- a verdict as a number
saying_ends : (P : Answer Bool → Type 0) → OneOutcome P → OneOutcome (Saying P)
saying_ends P z =
    let x : Saying P (said_number (outcome z.outcome)) = record { verdict = z.outcome; promised = z.promised; number = refl } in
    ends.the_one (saying_one P (λ v w p q. z.only v p ∙ sym (z.only w q))) (said_number (outcome z.outcome)) x

stepping_ends : (t : Tables) (low high date : ℕ) → OneOutcome (λ (x : ℕ × ℕ × ℕ). StepsTo t low high date x.0 x.1 x.2)
stepping_ends t low high date =
    let z = ends.stepping_ends t (walk_at low high) date in
    let r = number_in (outcome z.outcome.0) in
    let m = z.outcome.1 in
    let x : StepsTo t low high date r m.low m.high = record { stepped = z.outcome.0; promised = z.promised; number = refl } in
    record {
      outcome = (r, m.low, m.high);
      promised = x;
      only = λ (s, l, h) y.
          let (e, f) = steps_one t low high date s l h r m.low m.high y x in
          λ i. (e i, (f i).low, (f i).high);
    }

beginning_ends : OneOutcome (λ (x : ℕ × ℕ). Begins x.0 x.1)
beginning_ends =
    let w = walk_of begun in
    let x : Begins w.low w.high = record { begins = refl } in
    record { outcome = (w.low, w.high); promised = x; only = λ (l, h) y. let e = y.begins in λ i. ((e i).low, (e i).high) }

searching_ends : (t : Tables) (out : List ℕ) (dates : ℕ) → OneOutcome (λ (x : ℕ × List ℕ × ℕ). FitCall t out dates x.0 x.1 x.2)
searching_ends t out dates =
    let z = ends.searching_ends t out in
    let a = outcome z.outcome.0 in
    let x : FitCall t out dates (fit_number a) z.outcome.1 (dates_left a dates) =
    record { fitted = z.outcome.0; promised = z.promised; number = refl; left = refl } in
    record {
      outcome = (fit_number a, z.outcome.1, dates_left a dates);
      promised = x;
      only = λ (r, l, m) y. let (e, f, g) = fit_call_one t out dates r l m (fit_number a) z.outcome.1 (dates_left a dates) y x in λ i. (e i, f i, g i);
    }

pub every_call_from_c : EveryCallFromC
every_call_from_c = record {
  is_rule = is_rule_ends;
  reading = reading_ends;
  printing = printing_ends;
  judging_plainly = judging_plainly_ends;
  building = building_ends;
  beginning = beginning_ends;
  stepping = stepping_ends;
  answering = λ t m. saying_ends (Answered t m) (ends.answering_ends t m);
  closing = λ t m. saying_ends (Closed t m) (ends.closing_ends t m);
  judging = λ t s. saying_ends (Judged t s) (ends.judging_ends t s);
  searching = searching_ends;
}
