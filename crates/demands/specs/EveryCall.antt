-- Each call has one outcome for every input: the library's calls, those from C, the public ones that these are made of, and what the program prints.
-- Definitions, to be believed. Assumes nothing.
use Rattle.std.specs.Prelude.{◌≡◌, List, ℕ, ◌+◌, ◌*◌, ◌^◌, ◌<◌, length, Option}
use Rattle.laws.specs.Decided.{Decides}
use Rattle.answers.specs.Refusals.{Answer, outcome}
use Rattle.meaning.specs.Flags.{flags}
use Rattle.meaning.specs.Formula.{Series}
use Rattle.meaning.specs.Dialect.{Chooses}
use Rattle.rule.specs.Numbering.{IsRule}
use Rattle.rule.specs.Coding.{Decodes, FoundIs}
use Rattle.rule.specs.Testing.{Tested, rule_in}
use Rattle.rule.specs.declared.Formula.{Formula}
use Rattle.rule.specs.declared.Code.{Code}
use Rattle.rule.specs.declared.Rule.{Rule}
use Rattle.rule.specs.declared.numbering.Numbering.{Numbering}
use Rattle.reading.specs.Promise.{Reads}
use Rattle.printing.specs.Printing.{Printing}
use Rattle.plain.specs.Judging.{Judging}
use Rattle.plain.specs.Ends.{EndsOf}
use Rattle.tables.specs.Building.{Slices, Builds}
use Rattle.tables.specs.declared.Counts.{Counts}
use Rattle.automaton.specs.Tables.{Tables, Good}
use Rattle.automaton.specs.Column.{Filled}
use Rattle.automaton.specs.Checking.{Checked, tables_in}
use Rattle.automaton.specs.declared.Tables.{Tables as Handed}
use Rattle.automaton.specs.declared.good.GoodTables.{GoodTables}
use Rattle.walking.specs.Answers.{Stepped, Answered, Closed, Judged}
use Rattle.walking.specs.declared.Walk.{Walk}
use Rattle.walking.specs.Text.{counts_text, refused_text, fit_text, no_fit_text}
use Rattle.walking.specs.Promises.{EndsAt, Answering, Carries, Puts}
use Rattle.walking.specs.declared.lines.Progress.{Progress}
use Rattle.walking.specs.FitAnswers.{Searched}
use Rattle.calls.specs.ByteForm.{HasRule}
use Rattle.calls.specs.Answers.{Says, Saying}
use Rattle.calls.specs.Promises.{JudgedPlainly, Begins, StepsTo, ReadSlots, ReadCall, FitCall, BuildCall, PrintCall}
use Rattle.demands.specs.Program.{JudgePrints}

-- there is an outcome that is promised, and no other
pub record OneOutcome {A : Type 0} (Promised : A → Type 0) : Type 0 where
  pub outcome : A
  pub promised : Promised outcome
  pub only : (other : A) → Promised other → other ≡ outcome

-- for every input: the answer, with what is left in the slices that were lent
pub record EveryCall : Type 0 where
  pub reading : (profile : ℕ) (text : List ℕ) → OneOutcome (Reads profile text)
  pub printing : (rule : Rule) (before : List ℕ) → OneOutcome (λ (x : Answer ℕ × List ℕ). Printing rule before x.1 x.0)
  pub judging_plainly : (rule : Rule) (s : Series) → OneOutcome (Judging rule s)
  pub building : (rule : Rule) (before : Slices) → OneOutcome (λ (x : Answer Counts × Slices). Builds rule before (outcome x.0) x.1)
  -- by tables, whoever made them
  pub stepping : (t : Tables) (m : Walk) (date : ℕ) → OneOutcome (λ (x : Answer (Unit {0}) × Walk). Stepped t m date x.1 x.0)
  pub answering : (t : Tables) (m : Walk) → OneOutcome (Answered t m)
  pub closing : (t : Tables) (m : Walk) → OneOutcome (Closed t m)
  pub judging : (t : Tables) (s : Series) → OneOutcome (Judged t s)
  pub searching : (t : Tables) (before : List ℕ) → OneOutcome (λ (x : Answer (Option ℕ) × List ℕ). Searched t before x.1 x.0)
  -- and what the program prints
  pub output : (input : List ℕ) → OneOutcome (JudgePrints input)

-- the same from C: the number first, and then what is left in all that was lent, in the order of the call
pub record EveryCallFromC : Type 0 where
  pub is_rule : (profile count : ℕ) (bytes : List ℕ) → OneOutcome (λ r. Says r (HasRule profile count bytes))
  pub reading : (profile : ℕ) (text : List ℕ) (lent : ReadSlots) → OneOutcome (λ (x : ℕ × ReadSlots). ReadCall profile text lent x.0 x.1)
  pub printing : (profile count : ℕ) (bytes out : List ℕ) (size : ℕ)
      → OneOutcome (λ (x : ℕ × List ℕ × ℕ). PrintCall profile count bytes out size x.0 x.1 x.2)
  pub judging_plainly : (profile count : ℕ) (bytes : List ℕ) (s : Series) → OneOutcome (JudgedPlainly profile count bytes s)
  pub building : (profile count : ℕ) (bytes : List ℕ) (lent : Slices) (states edges : ℕ)
      → OneOutcome (λ (x : ℕ × Slices × ℕ × ℕ). BuildCall profile count bytes lent states edges x.0 x.1 x.2 x.3)
  pub beginning : OneOutcome (λ (x : ℕ × ℕ). Begins x.0 x.1)
  pub stepping : (t : Tables) (low high date : ℕ) → OneOutcome (λ (x : ℕ × ℕ × ℕ). StepsTo t low high date x.0 x.1 x.2)
  pub answering : (t : Tables) (m : Walk) → OneOutcome (Saying (Answered t m))
  pub closing : (t : Tables) (m : Walk) → OneOutcome (Saying (Closed t m))
  pub judging : (t : Tables) (s : Series) → OneOutcome (Saying (Judged t s))
  pub searching : (t : Tables) (out : List ℕ) (dates : ℕ) → OneOutcome (λ (x : ℕ × List ℕ × ℕ). FitCall t out dates x.0 x.1 x.2)

-- the same for the public calls that these are made of, but for those whose promise names the value they answer, `begin` of a walk among them: there
-- is nothing to show
pub record EveryInnerCall : Type 0 where
  pub choosing : (number : ℕ) → OneOutcome (Chooses number)
  -- on formulas and rules, the first two by `==`; finding also among more entries than the 64 of a rule; of the test what is answered, without the
  -- proof that goes with a rule
  pub same : (a b : Formula) → OneOutcome (λ r. Decides r (a ≡ b))
  pub same_code : (x y : Code) → OneOutcome (λ r. Decides r (x ≡ y))
  pub decoding : (c : Code) → OneOutcome (Decodes c)
  pub finding : (entries : List Formula) (count : ℕ) (formula : Formula) → OneOutcome (FoundIs entries count formula)
  pub is_numbering : (rule : Rule) → OneOutcome (λ r. Decides r (IsRule rule))
  pub testing : (rule : Rule) → OneOutcome (λ a. (r : Option Numbering) × Tested rule r × (rule_in r ≡ a))
  pub ends : (rule : Rule) → OneOutcome (EndsOf rule)
  -- on tables, whoever made them; of the test what is answered, without the proof that goes with good tables
  pub tables_good : (t : Tables) → OneOutcome (λ r. Decides r (Good flags t))
  pub checking : (t : Handed) → OneOutcome (λ a. (r : Answer GoodTables) × Checked t r × (tables_in r ≡ a))
  pub fewest : (t : Tables) (old : List ℕ) → OneOutcome (λ (x : Answer (Unit {0}) × List ℕ). Filled t old x.1 x.0)
  -- on lines
  pub line_end : (bytes : List ℕ) (from : ℕ) → OneOutcome (EndsAt bytes from)
  pub answering_lines : (t : Tables) (bytes : List ℕ) (from : Progress) (before : List ℕ)
      → OneOutcome (λ (x : Answer Progress × List ℕ). Answering t bytes from before x.0 x.1)
  pub carrying : (before : List ℕ) (at end : ℕ) → OneOutcome (λ (x : ℕ × List ℕ). Carries before at end x.0 x.1)
  -- the numbers put into a line have 64 bits
  pub putting_counts : (states edges : ℕ) (before : List ℕ) → states < 2 ^ 64 → edges < 2 ^ 64
      → OneOutcome (λ (x : ℕ × List ℕ). Puts (counts_text states edges) 64 before x.0 x.1)
  pub putting_refused : (number place wanted : ℕ) (before : List ℕ) → number < 2 ^ 64 → place < 2 ^ 64
      → OneOutcome (λ (x : ℕ × List ℕ). Puts (refused_text number place wanted) 64 before x.0 x.1)
  pub putting_fit : (s : Series) (before : List ℕ) → OneOutcome (λ (x : ℕ × List ℕ). Puts (fit_text s) (10 + 2 * length s) before x.0 x.1)
  pub putting_no_fit : (before : List ℕ) → OneOutcome (λ (x : ℕ × List ℕ). Puts no_fit_text 9 before x.0 x.1)
