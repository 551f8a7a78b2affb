-- What a rule's entry says of the formulas of the rule, by their numbers. Assumes nothing.
use Rattle.std.specs.Prelude.{ℕ, ◌<◌, ◌≡◌, length, get_or}
use Rattle.std.proofs.Common.{arith, sym, ap₂, ap, ◌∙◌, subst}
use Rattle.meaning.specs.Flags.{flags}
use Rattle.meaning.specs.Formula.{Formula as Tree, flag, not_flag, one, zero, and, or, next, weak, until, release}
use Rattle.rule.specs.Numbering.{formulas, number, Numbers, formula_at}
use Rattle.rule.proofs.Ordering.{number_at}
use Rattle.rule.specs.Standing.{Stands, One, Two, Reads, stands_reads}
use Rattle.rule.proofs.ListingLaws.{listed_at, rule_listed, rule_count}
use Rattle.rule.specs.declared.FormulaNo.{FormulaNo}
use Rattle.rule.specs.declared.Formula.{Formula}
use Rattle.rule.specs.declared.Formula.TheVariants.{Flag, NotFlag, True, False, And, Or, Next, WeakNext, Until, Release}
use Rattle.rule.specs.declared.Rule.{Rule}

-- the formula with number k
abbrev pub formula_no : Tree → ℕ → Tree
formula_no φ k = get_or (formulas φ) k one

pub record Unary (φ : Tree) (k : ℕ) (i : FormulaNo) (f : Tree → Tree) : Type 0 where
  pub below : i.0 < k
  pub whole : formula_no φ k ≡ f (formula_no φ i.0)

pub record Binary (φ : Tree) (k : ℕ) (i j : FormulaNo) (f : Tree → Tree → Tree) : Type 0 where
  pub left_below : i.0 < k
  pub right_below : j.0 < k
  pub whole : formula_no φ k ≡ f (formula_no φ i.0) (formula_no φ j.0)

-- the formula with number k is what its entry says of formulas with lower numbers
abbrev pub Says : Tree → ℕ → Formula → Type 0
Says φ k (Flag f) = (f < flags) × (formula_no φ k ≡ flag f)
Says φ k (NotFlag f) = (f < flags) × (formula_no φ k ≡ not_flag f)
Says φ k True = formula_no φ k ≡ one
Says φ k False = formula_no φ k ≡ zero
Says φ k (And i j) = Binary φ k i j and
Says φ k (Or i j) = Binary φ k i j or
Says φ k (Next i) = Unary φ k i next
Says φ k (WeakNext i) = Unary φ k i weak
Says φ k (Until i j) = Binary φ k i j until
Says φ k (Release i j) = Binary φ k i j release

module _ (rule : Rule) (φ : Tree) (n : Numbers rule φ) (k : ℕ) (h : k < rule.count) where
  inside : k < length (formulas φ)
  inside = omega (arith, rule_count rule φ n)

  part : (ψ : Tree) (i : FormulaNo) → i.0 < k → Stands rule.entries ψ i.0 → ψ ≡ formula_no φ i.0
  part ψ i l s = sym (listed_at rule.entries (formulas φ) (rule_listed rule φ n) ψ i.0 (omega (arith, inside)) s)

  unary : (i : FormulaNo) (f : Tree → Tree) → One rule.entries k (formula_no φ k) i f → Unary φ k i f
  unary i f x = record { below = x.below; whole = x.whole ∙ ap f (part x.part i x.below x.stands) }

  binary : (i j : FormulaNo) (f : Tree → Tree → Tree) → Two rule.entries k (formula_no φ k) i j f → Binary φ k i j f
  binary i j f x = record {
    left_below = x.left_below;
    right_below = x.right_below;
    whole = x.whole ∙ ap₂ f (part x.left i x.left_below x.left_stands) (part x.right j x.right_below x.right_stands);
  }

  says_by : (f : Formula) → Reads rule.entries k (formula_no φ k) f → Says φ k f
  says_by (Flag f) x = x
  says_by (NotFlag f) x = x
  says_by True x = x
  says_by False x = x
  says_by (And i j) x = binary i j and x
  says_by (Or i j) x = binary i j or x
  says_by (Next i) x = unary i next x
  says_by (WeakNext i) x = unary i weak x
  says_by (Until i j) x = binary i j until x
  says_by (Release i j) x = binary i j release x

  pub entry_says : (f : Formula) → formula_at rule.entries k ≡ f → Says φ k f
  entry_says f e = subst (Says φ k) e (says_by (formula_at rule.entries k) (stands_reads rule.entries k (formula_no φ k) ((rule_listed rule φ n).stand k inside)))

  -- a formula's number among the rule's formulas is its number
  pub number_no : number φ (formula_no φ k) ≡ k
  number_no = number_at φ k inside
