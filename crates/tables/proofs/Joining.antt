-- The parts of a choice are choices of formulas with lower numbers; and one count more. Assumes nothing.
use Prim.Native.Nat.{ℕ, ◌+◌, ◌<◌}
use native.Mathlib.Nat.{le_of_suc-le-suc, eq-or-lt_of_le}
use native.Mathlib.Numerals.{add-one}
use native.Mathlib.Omega.{arith}
use mathlib.Core.Path.{subst⁻¹}
use mathlib.Core.Logic.{⊎_elim}
use mathlib.Core.List.{List}
use lib.ListN.{length, get_or, set}
use lib.Seq.{get_or-set_same, get_or-set_other}
use Rattle.meaning.specs.Formula.{Formula as Tree}
use Rattle.rule.specs.Numbering.{Numbers}
use Rattle.rule.specs.declared.FormulaNo.{FormulaNo}
use Rattle.rule.specs.declared.Rule.{Rule}
use Rattle.tables.specs.declared.Choice.{Choice}
use Rattle.tables.specs.declared.Parts.TheVariants.{One, Two}
use Rattle.tables.specs.InnerContracts.{CountOf, Counted, Within, Lower, SplitsTo}

module _ (rule : Rule) (k : ℕ) where
  -- the parts' numbers are lower
  module _ (num : (φ : Tree) × Numbers rule φ) where
    pub part_below : (n : ℕ) (i : FormulaNo) (m : ℕ) (c : Choice) → SplitsTo rule k n (One i m c) → i.0 < k
    part_below n i m c s = (s.by num.0 num.1).0.below

    pub left_below : (n : ℕ) (i : FormulaNo) (m : ℕ) (j : FormulaNo) (l : ℕ) → SplitsTo rule k n (Two i m j l) → i.0 < k
    left_below n i m j l s = (s.by num.0 num.1).0.below

    pub right_below : (n : ℕ) (i : FormulaNo) (m : ℕ) (j : FormulaNo) (l : ℕ) → SplitsTo rule k n (Two i m j l) → j.0 < k
    right_below n i m j l s = (s.by num.0 num.1).1.below

-- ---- one formula more

pub counted_more : (rule : Rule) (k : ℕ) (counts : List ℕ) (n : ℕ) → Counted rule k counts → CountOf rule k n → k < length counts → Counted rule (k + 1) (set counts k n)
counted_more rule k counts n h count s = record {
  at = λ j b. ⊎_elim
      (λ e. subst⁻¹ (λ (i : ℕ). CountOf rule i (get_or (set counts k n) i 0)) e (subst⁻¹ (CountOf rule k) (get_or-set_same counts k n 0 s) count))
      (λ b'. subst⁻¹ (CountOf rule j) (get_or-set_other counts k j n 0 (λ e. omega arith)) (h.at j b'))
      (eq-or-lt_of_le (le_of_suc-le-suc (rw add-one at b)));
}

-- ---- any choice

module _ (rule : Rule) (k n : ℕ) (w : Within rule k n) where
  lower_within : (i m : ℕ) → ((φ : Tree) → Numbers rule φ → Lower rule.profile φ k i m) → Within rule i m
  lower_within i m f = record { some = λ φ num. (f φ num).some; few = λ φ num. omega (arith, (f φ num).fewer, w.few φ num) }

  pub part_within : (i : FormulaNo) (m : ℕ) (c : Choice) → SplitsTo rule k n (One i m c) → Within rule i.0 m
  part_within i m c s = lower_within i.0 m (λ φ num. (s.by φ num).0)

  pub left_within : (i : FormulaNo) (m : ℕ) (j : FormulaNo) (o : ℕ) → SplitsTo rule k n (Two i m j o) → Within rule i.0 m
  left_within i m j o s = lower_within i.0 m (λ φ num. (s.by φ num).0)

  pub right_within : (i : FormulaNo) (m : ℕ) (j : FormulaNo) (o : ℕ) → SplitsTo rule k n (Two i m j o) → Within rule j.0 o
  right_within i m j o s = lower_within j.0 o (λ φ num. (s.by φ num).1)
