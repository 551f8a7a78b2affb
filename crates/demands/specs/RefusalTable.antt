-- The table of refusals, a field a row: document 01, "Refusal numbers", and 12 of document 02, Q-6. The number is given exactly when the row says so, and
-- then what was lent is left as it says. Of the library's calls, and of those from C. Definitions, to be believed. Assumes nothing.
use Rattle.std.specs.Prelude.{◌≡◌, ◌↔◌, List, ℕ, ◌≤◌, ◌<◌, length, Result, Err, Bool, Option}
use Rattle.answers.specs.Answers.{number_in}
use Rattle.answers.specs.Refusals.{Answer, outcome}
use Rattle.meaning.specs.Flags.{flags}
use Rattle.meaning.specs.Formula.{Formula as Tree, Series}
use Rattle.meaning.specs.Syntax.{Syntax, nnf}
use Rattle.meaning.specs.Dialect.{dialect, NoProfile}
use Rattle.meaning.specs.declared.Profile.{Profile}
use Rattle.rule.specs.Numbering.{formulas, Numbers, IsRule}
use Rattle.rule.specs.declared.Rule.{Rule}
use Rattle.reading.specs.declared.Refusal.{Refusal}
use Rattle.reading.specs.Grammar.{FirstDue, Sound}
use Rattle.reading.specs.Promise.{number_of, place_of, Reads}
use Rattle.printing.specs.Printing.{Excessive, Printing}
use Rattle.plain.specs.Judging.{Judging}
use Rattle.plain.specs.Ends.{EndsOf}
use Rattle.tables.specs.Tables.{TooMuch}
use Rattle.tables.specs.Building.{Slices, Long, zeroed, Builds}
use Rattle.tables.specs.declared.Counts.{Counts}
use Rattle.automaton.specs.Tables.{Tables, Good}
use Rattle.walking.specs.Answers.{Taken, Stepped, Answered, Closed, Judged}
use Rattle.walking.specs.declared.Walk.{Walk}
use Rattle.walking.specs.FitAnswers.{Searched, room}
use Rattle.walking.specs.Promises.{Ready, Answering}
use Rattle.walking.specs.declared.lines.Progress.{Progress}
use Rattle.calls.specs.ByteForm.{Encodes, HasRule}
use Rattle.calls.specs.Answers.{Saying}
use Rattle.calls.specs.Promises.{JudgedPlainly, walk_at, StepsTo, ReadSlots, read_slots, NoRoom, ReadCall, FitCall, BuildCall, PrintCall}

-- a call's number is n exactly when the row says so, and then what was lent is as the row says; `Unit` where nothing is lent
pub record Row (number n : ℕ) (When Leaves : Type 0) : Type 0 where
  pub exactly : (number ≡ n) ↔ When
  pub leaves : number ≡ n → Leaves

-- the same of a call that says a place: by n at the place k, exactly where that is due
pub record RowAt (By : ℕ → ℕ → Type 0) (n : ℕ) (DueAt : ℕ → Type 0) (Leaves : Type 0) : Type 0 where
  pub exactly : (k : ℕ) → By n k ↔ DueAt k
  pub leaves : (k : ℕ) → By n k → Leaves

-- a text is refused by this number at this place
abbrev pub RefusedAt : Result Rule Refusal → ℕ → ℕ → Type 0
RefusedAt r n k = (f : Refusal) × (r ≡ Err f) × (number_of f ≡ n) × (place_of f ≡ k)

-- where each refusal of a text is due: 1; then of 2, 3 and 4 the one with the smallest place; then 5
abbrev pub LongAt : List ℕ → ℕ → Type 0
LongAt text k = (1024 < length text) × (k ≡ 1024)

abbrev pub FirstAt : ℕ → List ℕ → ℕ → Type 0
FirstAt n text k = (length text ≤ 1024) × FirstDue 32 text n k

abbrev pub ManyAt : Profile → List ℕ → ℕ → Type 0
ManyAt π text k = (p : Syntax) × Sound text p × ((dialect π).most < length (formulas (nnf p))) × (k ≡ length text)

-- a row of reading, whose refusal has no rule beside it; nothing is lent. π is the profile, `(dialect π).number` its number, `(dialect π).most` how many
-- formulas it admits
abbrev pub ReadRow : ℕ → (Profile → List ℕ → ℕ → Type 0) → Type 0
ReadRow n DueAt = (π : Profile) (text : List ℕ) (r : Result Rule Refusal) → Reads (dialect π).number text r → RowAt (RefusedAt r) n (DueAt π text) Unit

pub record RefusalTable : Type 0 where
  -- text over 1,024 bytes: place 1,024
  pub row_1 : ReadRow 1 (λ π. LongAt)
  -- a byte with which no text goes on from those before it: its place
  pub row_2 : ReadRow 2 (λ π. FirstAt 2)
  -- the text ends where no rule can end: the length
  pub row_3 : ReadRow 3 (λ π. FirstAt 3)
  -- a token raises the depth above 32: the place of its first byte
  pub row_4 : ReadRow 4 (λ π. FirstAt 4)
  -- more distinct formulas than the profile admits: the length
  pub row_5 : ReadRow 5 ManyAt
  -- the rule given numbers no formula: printing, the plain judge, building and `ends_of`; all untouched
  pub row_6 : (rule : Rule)
      → ((before after : List ℕ) (r : Answer ℕ) → Printing rule before after r → Row (number_in (outcome r)) 6 (¬ IsRule rule) (after ≡ before))
      × ((s : Series) (r : Answer Bool) → Judging rule s r → Row (number_in (outcome r)) 6 (¬ IsRule rule) Unit)
      × ((before after : Slices) (r : Answer Counts) → Builds rule before (outcome r) after → Row (number_in (outcome r)) 6 (¬ IsRule rule) (after ≡ before))
      × ((r : Answer ℕ) → EndsOf rule r → Row (number_in (outcome r)) 6 (¬ IsRule rule) Unit)
  -- the printed text is over 1,024 bytes or deeper than 32: the slice untouched
  pub row_7 : (rule : Rule) (before after : List ℕ) (r : Answer ℕ) → Printing rule before after r
      → Row (number_in (outcome r)) 7 ((1024 ≤ length before) × ((φ : Tree) × Numbers rule φ × Excessive φ)) (after ≡ before)
  -- a lent slice is below its size: printing and building a rule, and the search, which looks at nothing else before; all untouched
  pub row_8 : ((rule : Rule) (before after : List ℕ) (r : Answer ℕ) → Printing rule before after r
      → Row (number_in (outcome r)) 8 (IsRule rule × (length before < 1024)) (after ≡ before))
      × ((rule : Rule) (before after : Slices) (r : Answer Counts) → Builds rule before (outcome r) after
      → Row (number_in (outcome r)) 8 (IsRule rule × (¬ Long before)) (after ≡ before))
      × ((t : Tables) (before after : List ℕ) (r : Answer (Option ℕ)) → Searched t before after r
      → Row (number_in (outcome r)) 8 (length before < room) (after ≡ before))
  -- the tables would be too large: all zero up to their sizes
  pub row_9 : (rule : Rule) (before after : Slices) (r : Answer Counts) → Builds rule before (outcome r) after
      → Row (number_in (outcome r)) 9 (Long before × ((φ : Tree) × Numbers rule φ × TooMuch rule.profile φ)) (after ≡ zeroed before)
  -- bad tables or walk: the walk as given, the slices untouched. Judging, the search and the answers to lines take no walk; the answers to lines take a
  -- place, an end and a number, which may be bad too
  pub row_10 : (t : Tables)
      → ((m after : Walk) (date : ℕ) (r : Answer (Unit {0})) → Stepped t m date after r → Row (number_in (outcome r)) 10 (¬ Taken t m) (after ≡ m))
      × ((m : Walk) (r : Answer Bool) → Answered t m r → Row (number_in (outcome r)) 10 (¬ Taken t m) Unit)
      × ((m : Walk) (r : Answer Bool) → Closed t m r → Row (number_in (outcome r)) 10 (¬ Taken t m) Unit)
      × ((s : Series) (r : Answer Bool) → Judged t s r → Row (number_in (outcome r)) 10 (¬ Good flags t) Unit)
      × ((before after : List ℕ) (r : Answer (Option ℕ)) → Searched t before after r
      → Row (number_in (outcome r)) 10 ((room ≤ length before) × (¬ Good flags t)) (after ≡ before))
      × ((bytes : List ℕ) (from : Progress) (before after : List ℕ) (r : Answer Progress) → Answering t bytes from before r after
      → Row (number_in (outcome r)) 10 (¬ Ready t bytes from before) (after ≡ before))
  -- a number that no profile has, before all else: place 0
  pub row_12 : (profile : ℕ) (text : List ℕ) (r : Result Rule Refusal) → Reads profile text r
      → RowAt (RefusedAt r) 12 (λ k. NoProfile profile × (k ≡ 0)) Unit

-- ---- from C

-- the number, and the place that is left
abbrev pub RefusedFromC : ℕ → ReadSlots → ℕ → ℕ → Type 0
RefusedFromC number left n k = (number ≡ n) × (left.place ≡ k)

-- a call of `read` under a profile, with room for a rule's bytes
pub record ReadWithRoom (π : Profile) (text : List ℕ) (lent : ReadSlots) (r : ℕ) (left : ReadSlots) : Type 0 where
  pub room : 192 ≤ length lent.bytes
  pub call : ReadCall (dialect π).number text lent r left

-- a row of it, after which the rule's count and bytes are as they were
abbrev pub ReadRowFromC : ℕ → (Profile → List ℕ → ℕ → Type 0) → Type 0
ReadRowFromC n DueAt =
    (π : Profile) (text : List ℕ) (lent : ReadSlots) (r : ℕ) (left : ReadSlots) → ReadWithRoom π text lent r left
    → RowAt (RefusedFromC r left) n (DueAt π text) ((left.count ≡ lent.count) × (left.bytes ≡ lent.bytes))

-- the bytes are those of a rule that numbers φ, with Q of both
abbrev pub InBytes : ℕ → ℕ → List ℕ → (Rule → Tree → Type 0) → Type 0
InBytes profile count bytes Q = (rule : Rule) × (φ : Tree) × Encodes profile count bytes rule × Numbers rule φ × Q rule φ

pub record RefusalTableFromC : Type 0 where
  pub row_1 : ReadRowFromC 1 (λ π. LongAt)
  pub row_2 : ReadRowFromC 2 (λ π. FirstAt 2)
  pub row_3 : ReadRowFromC 3 (λ π. FirstAt 3)
  pub row_4 : ReadRowFromC 4 (λ π. FirstAt 4)
  pub row_5 : ReadRowFromC 5 ManyAt
  pub row_6 : (profile count : ℕ) (bytes : List ℕ)
      → ((out : List ℕ) (size r : ℕ) (out' : List ℕ) (size' : ℕ) → PrintCall profile count bytes out size r out' size'
      → Row r 6 (¬ HasRule profile count bytes) ((out' ≡ out) × (size' ≡ size)))
      × ((s : Series) (r : ℕ) → JudgedPlainly profile count bytes s r → Row r 6 (¬ HasRule profile count bytes) Unit)
      × ((lent : Slices) (states edges r : ℕ) (left : Slices) (states' edges' : ℕ) → BuildCall profile count bytes lent states edges r left states' edges'
      → Row r 6 (¬ HasRule profile count bytes) ((left ≡ lent) × (states' ≡ states) × (edges' ≡ edges)))
  pub row_7 : (profile count : ℕ) (bytes out : List ℕ) (size r : ℕ) (out' : List ℕ) (size' : ℕ) → PrintCall profile count bytes out size r out' size'
      → Row r 7 ((1024 ≤ length out) × InBytes profile count bytes (λ rule φ. Excessive φ)) ((out' ≡ out) × (size' ≡ size))
  -- reading too has a slice that may be too short, for the rule's bytes; 12 comes before
  pub row_8 : ((profile : ℕ) (text : List ℕ) (lent : ReadSlots) (r : ℕ) (left : ReadSlots) → ReadCall profile text lent r left
      → Row r 8 (NoRoom profile (length lent.bytes)) (left ≡ lent))
      × ((profile count : ℕ) (bytes out : List ℕ) (size r : ℕ) (out' : List ℕ) (size' : ℕ) → PrintCall profile count bytes out size r out' size'
      → Row r 8 (HasRule profile count bytes × (length out < 1024)) ((out' ≡ out) × (size' ≡ size)))
      × ((profile count : ℕ) (bytes : List ℕ) (lent : Slices) (states edges r : ℕ) (left : Slices) (states' edges' : ℕ)
      → BuildCall profile count bytes lent states edges r left states' edges'
      → Row r 8 (HasRule profile count bytes × (¬ Long lent)) ((left ≡ lent) × (states' ≡ states) × (edges' ≡ edges)))
      × ((t : Tables) (out : List ℕ) (dates r : ℕ) (out' : List ℕ) (dates' : ℕ) → FitCall t out dates r out' dates'
      → Row r 8 (length out < room) ((out' ≡ out) × (dates' ≡ dates)))
  pub row_9 : (profile count : ℕ) (bytes : List ℕ) (lent : Slices) (states edges r : ℕ) (left : Slices) (states' edges' : ℕ)
      → BuildCall profile count bytes lent states edges r left states' edges'
      → Row r 9 (Long lent × InBytes profile count bytes (λ rule φ. TooMuch rule.profile φ)) ((left ≡ zeroed lent) × (states' ≡ states) × (edges' ≡ edges))
  pub row_10 : (t : Tables)
      → ((low high date r low' high' : ℕ) → StepsTo t low high date r low' high' → Row r 10 (¬ Taken t (walk_at low high)) (walk_at low' high' ≡ walk_at low high))
      × ((m : Walk) (r : ℕ) → Saying (Answered t m) r → Row r 10 (¬ Taken t m) Unit)
      × ((m : Walk) (r : ℕ) → Saying (Closed t m) r → Row r 10 (¬ Taken t m) Unit)
      × ((s : Series) (r : ℕ) → Saying (Judged t s) r → Row r 10 (¬ Good flags t) Unit)
      × ((out : List ℕ) (dates r : ℕ) (out' : List ℕ) (dates' : ℕ) → FitCall t out dates r out' dates'
      → Row r 10 ((room ≤ length out) × (¬ Good flags t)) ((out' ≡ out) × (dates' ≡ dates)))
  pub row_12 : (profile : ℕ) (text : List ℕ) (lent : ReadSlots) (r : ℕ) (left : ReadSlots) → ReadCall profile text lent r left
      → Row r 12 (NoProfile profile) (left ≡ read_slots lent.count lent.bytes 0 0)
