-- How the code tests that entries are a numbering: it visits the highest number, each formula's parts before the formula, and each new one has to
-- have the next number. Contracts of inner functions. Assumes nothing.
use Rattle.std.specs.Prelude.{Bool, true, false, ◌≡◌, List, ℕ, ◌+◌, ◌≤◌, ◌<◌, nat_lt, Option, Some, None}
use Rattle.meaning.specs.Flags.{flags}
use Rattle.rule.specs.Numbering.{formula_at}
use Rattle.rule.specs.declared.FormulaNo.{FormulaNo}
use Rattle.rule.specs.declared.Formula.{Formula}
use Rattle.rule.specs.declared.Formula.TheVariants.{Flag, NotFlag, True, False, And, Or, Next, WeakNext, Until, Release}
use Rattle.rule.specs.declared.Parts.{Parts}
use Rattle.rule.specs.declared.Parts.TheVariants as parts

-- no parts, where the flag is one that a date has
abbrev pub flag_parts : Bool → Option Parts
flag_parts true = Some parts.Nothing
flag_parts false = None

-- the parts of an entry, left before right
abbrev pub parts_of : Formula → Option Parts
parts_of (Flag f) = flag_parts (nat_lt f flags)
parts_of (NotFlag f) = flag_parts (nat_lt f flags)
parts_of True = Some parts.Nothing
parts_of False = Some parts.Nothing
parts_of (And p q) = Some (parts.Two p q)
parts_of (Or p q) = Some (parts.Two p q)
parts_of (Next p) = Some (parts.One p)
parts_of (WeakNext p) = Some (parts.One p)
parts_of (Until p q) = Some (parts.Two p q)
parts_of (Release p q) = Some (parts.Two p q)

-- visiting number k where the numbers below `next` are taken, those below m are taken after it
pub data Visits (entries : List Formula) : ℕ → ℕ → ℕ → Type 0 where
  taken : {k next : ℕ} → k < next → Visits entries k next next
  alone : {k : ℕ} → parts_of (formula_at entries k) ≡ Some parts.Nothing → Visits entries k k (k + 1)
  over : {k next : ℕ} (i : FormulaNo) → parts_of (formula_at entries k) ≡ Some (parts.One i) → next ≤ k → i.0 < k
      → Visits entries i.0 next k → Visits entries k next (k + 1)
  both : {k next m : ℕ} (i j : FormulaNo) → parts_of (formula_at entries k) ≡ Some (parts.Two i j) → next ≤ k → i.0 < k → j.0 < k
      → Visits entries i.0 next m → Visits entries j.0 m k → Visits entries k next (k + 1)

-- the answer of a visit
abbrev pub VisitAnswer : List Formula → ℕ → ℕ → Option ℕ → Type 0
VisitAnswer entries k next (Some m) = Visits entries k next m
VisitAnswer entries k next None = (m : ℕ) → Visits entries k next m → ⊥

pub record VisitIs (entries : List Formula) (k next : ℕ) (v : Option ℕ) : Type 0 where
  pub visits : VisitAnswer entries k next v

-- a formula whose parts are numbered has to be the next
abbrev pub OwnAnswer : ℕ → ℕ → Option ℕ → Type 0
OwnAnswer k next (Some m) = (k ≡ next) × (m ≡ k + 1)
OwnAnswer k next None = k ≡ next → ⊥

pub record OwnIs (k next : ℕ) (v : Option ℕ) : Type 0 where
  pub owns : OwnAnswer k next v
