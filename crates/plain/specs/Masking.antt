-- What the passes over a rule's formulas keep: the mask of those that hold. Contracts of inner functions. Assumes nothing.
use Rattle.std.specs.Prelude.{ℕ, ◌≤◌, ◌<◌, ◌≡◌, Bool, true, false, not, ◌&&◌, ◌||◌, ◌↔◌, List, ◌∷◌, T}
use Rattle.laws.specs.Masks.{bit}
use Rattle.meaning.specs.Flags.{flags}
use Rattle.meaning.specs.Formula.{Formula as Tree, Series}
use Rattle.meaning.specs.Meaning.{holds_by}
use Rattle.meaning.specs.Dialect.{dialect}
use Rattle.meaning.specs.Rest.{Rest}
use Rattle.meaning.specs.declared.Profile.{Profile}
use Rattle.meaning.specs.declared.Profile.TheVariants.{Finite, Last}
use Rattle.rule.specs.Standing.{Stands}
use Rattle.rule.specs.declared.Formula.{Formula}
use Rattle.rule.specs.declared.Formula.TheVariants.{Flag, NotFlag, True, False, And, Or, Next, WeakNext, Until, Release}
use Rattle.rule.specs.declared.Rule.{Rule}

-- of the numbers below n, the mask m has exactly those that stand for a formula of which P is true; and it has no other
pub record MaskOf (entries : List Formula) (P : Tree → Type 0) (n m : ℕ) : Type 0 where
  pub each : (k : ℕ) (φ : Tree) → k < n → Stands entries φ k → T (bit m k) ↔ P φ
  pub none : (k : ℕ) → n ≤ k → bit m k ≡ false

-- whatever is after the date, here are those formulas below k that hold at it, where must and may are those that do when put off to what is after it
abbrev pub PassOver : Rule → ℕ → ℕ → ℕ → ℕ → ℕ → Type 0
PassOver rule date must may k here =
    (s : Series) → MaskOf rule.entries (λ φ. Rest rule.profile true φ s) rule.count must
    → MaskOf rule.entries (λ φ. Rest rule.profile false φ s) rule.count may
    → MaskOf rule.entries (λ φ. holds_by (dialect rule.profile).clauses φ (date ∷ s)) k here

-- the parts' numbers are below k, and a flag is one that a date has
abbrev pub Inner : ℕ → Formula → Type 0
Inner k (Flag f) = f < flags
Inner k (NotFlag f) = f < flags
Inner k True = Unit
Inner k False = Unit
Inner k (And p q) = (p.0 < k) × (q.0 < k)
Inner k (Or p q) = (p.0 < k) × (q.0 < k)
Inner k (Next p) = p.0 < k
Inner k (WeakNext p) = p.0 < k
Inner k (Until p q) = (p.0 < k) × (q.0 < k)
Inner k (Release p q) = (p.0 < k) × (q.0 < k)

-- what an entry says at the end, where the formulas of `here` say yes there
abbrev pub at_end : Formula → ℕ → Bool
at_end (Flag f) here = false
at_end (NotFlag f) here = true
at_end True here = true
at_end False here = false
at_end (And p q) here = bit here p.0 && bit here q.0
at_end (Or p q) here = bit here p.0 || bit here q.0
at_end (Next p) here = false
at_end (WeakNext p) here = true
at_end (Until p q) here = bit here q.0
at_end (Release p q) here = bit here q.0

-- the same in a profile, of a formula that is put off to a date which need not be there
abbrev pub may_end : Profile → Formula → ℕ → Bool
may_end Finite f here = at_end f here
may_end Last f here = true

-- the formulas that say yes at the end where a date has to be there, by those that say yes where it need not
abbrev pub must_end : Profile → ℕ → ℕ
must_end Finite may = may
must_end Last may = 0

-- what entry k says at the date d, where the formulas of `here` hold there, and those of `must` and `may` hold when put off to the next date, which has to be
-- there for the first
abbrev pub at_date : Formula → ℕ → ℕ → ℕ → ℕ → ℕ → Bool
at_date (Flag f) k d here must may = bit d f
at_date (NotFlag f) k d here must may = not (bit d f)
at_date True k d here must may = true
at_date False k d here must may = false
at_date (And p q) k d here must may = bit here p.0 && bit here q.0
at_date (Or p q) k d here must may = bit here p.0 || bit here q.0
at_date (Next p) k d here must may = bit must p.0
at_date (WeakNext p) k d here must may = bit may p.0
at_date (Until p q) k d here must may = bit here q.0 || (bit here p.0 && bit must k)
at_date (Release p q) k d here must may = bit here q.0 && (bit here p.0 || bit may k)
