-- The tree of a rule's text, what it means by the clauses of a dialect, and negation pushed to the flags. Definitions, to be believed. Assumes nothing.
use Rattle.std.specs.Prelude.{ℕ, Bool, true, false, not as other, ◌⊎◌}
use Rattle.meaning.specs.Formula.{Formula, Series}
use Rattle.meaning.specs.Meaning.{Always, Never, Clauses}

pub data Syntax : Type 0 where
  flag : ℕ → Syntax
  one zero : Syntax
  not next weak finally globally : Syntax → Syntax
  until release and or implies : Syntax → Syntax → Syntax

-- once over the clauses: `F p` is `1 U p` and `G p` is `0 R p`
abbrev pub means_by : Clauses → Syntax → Series → Type 0
means_by C (flag k) s = C.first k s
means_by C one s = Unit {0}
means_by C zero s = ⊥
means_by C (not p) s = ¬ means_by C p s
means_by C (next p) s = C.next (means_by C p) s
means_by C (weak p) s = C.weak (means_by C p) s
means_by C (finally p) s = C.until Always (means_by C p) s
means_by C (globally p) s = C.release Never (means_by C p) s
means_by C (until p q) s = C.until (means_by C p) (means_by C q) s
means_by C (release p q) s = C.release (means_by C p) (means_by C q) s
means_by C (and p q) s = means_by C p s × means_by C q s
means_by C (or p q) s = means_by C p s ⊎ means_by C q s
means_by C (implies p q) s = (¬ means_by C p s) ⊎ means_by C q s

-- the formula of p (b true) or of its negation (b false)
unfoldable pub signed : Bool → Syntax → Formula
signed true (flag k) = Formula.flag k
signed false (flag k) = Formula.not_flag k
signed true one = Formula.one
signed false one = Formula.zero
signed true zero = Formula.zero
signed false zero = Formula.one
signed b (not p) = signed (other b) p
signed true (next p) = Formula.next (signed true p)
signed false (next p) = Formula.weak (signed false p)
signed true (weak p) = Formula.weak (signed true p)
signed false (weak p) = Formula.next (signed false p)
signed true (finally p) = Formula.until Formula.one (signed true p)
signed false (finally p) = Formula.release Formula.zero (signed false p)
signed true (globally p) = Formula.release Formula.zero (signed true p)
signed false (globally p) = Formula.until Formula.one (signed false p)
signed true (until p q) = Formula.until (signed true p) (signed true q)
signed false (until p q) = Formula.release (signed false p) (signed false q)
signed true (release p q) = Formula.release (signed true p) (signed true q)
signed false (release p q) = Formula.until (signed false p) (signed false q)
signed true (and p q) = Formula.and (signed true p) (signed true q)
signed false (and p q) = Formula.or (signed false p) (signed false q)
signed true (or p q) = Formula.or (signed true p) (signed true q)
signed false (or p q) = Formula.and (signed false p) (signed false q)
signed true (implies p q) = Formula.or (signed false p) (signed true q)
signed false (implies p q) = Formula.and (signed true p) (signed false q)

unfoldable pub nnf : Syntax → Formula
nnf p = signed true p
