-- How many choices a formula has, by the counts of the formulas with lower numbers. Assumes nothing.
use Prim.Native.Nat.{ℕ, ◌+◌, ◌*◌, ◌<◌}
use native.Mathlib.Omega.{arith}
use mathlib.Core.Path.{◌≡◌, sym, ap, ap₂, ◌∙◌}
use mathlib.Core.List.{List}
use lib.ListN.{length, get_or}
use Rattle.meaning.specs.Formula.{Formula as Tree, and, or, until, release}
use Rattle.rule.specs.Numbering.{number, Numbers, formula_at}
use Rattle.rule.specs.declared.FormulaNo.{FormulaNo}
use Rattle.rule.specs.declared.Formula.{Formula}
use Rattle.rule.specs.declared.Formula.TheVariants.{Flag, NotFlag, True, False, And, Or, Next, WeakNext, Until, Release}
use Rattle.rule.specs.declared.Rule.{Rule}
use Rattle.tables.specs.Choices.{choices, choices_at, put_off}
use Rattle.tables.specs.Indexing.{capped, capped_product, capped_sum}
use Rattle.tables.specs.ByKind.{len_and, len_or, len_until, len_release}
use Rattle.tables.specs.Entries.{formula_no, Unary, Binary, Says, entry_says}
use Rattle.tables.specs.InnerContracts.{CountOf}
use Rattle.tables.proofs.Known.{Before}

-- the count of a formula with this entry
abbrev pub count_by : List ℕ → Formula → ℕ
count_by counts (Flag g) = 1
count_by counts (NotFlag g) = 1
count_by counts True = 1
count_by counts False = 0
count_by counts (And i j) = capped (get_or counts i.0 0 * get_or counts j.0 0)
count_by counts (Or i j) = capped (get_or counts i.0 0 + get_or counts j.0 0)
count_by counts (Next i) = 1
count_by counts (WeakNext i) = 1
count_by counts (Until i j) = capped (get_or counts j.0 0 + get_or counts i.0 0)
count_by counts (Release i j) = capped (get_or counts j.0 0 * capped (get_or counts i.0 0 + 1))

module _ {rule : Rule} {counts : List ℕ} {k : ℕ} (b : Before rule counts k) where
  -- what the entry says, and so where its parts stand
  pub says : {f : Formula} → formula_at rule.entries k ≡ f → Says b.is_rule.0 k f
  says {f} e = entry_says rule b.is_rule.0 b.is_rule.1 k b.below f e

  -- so its parts have places among the counts
  pub left_small : {φ : Tree} {i j : FormulaNo} {f : Tree → Tree → Tree} → Binary φ k i j f → i.0 < 64
  left_small x = omega (arith, x.left_below, b.below, b.small)

  pub right_small : {φ : Tree} {i j : FormulaNo} {f : Tree → Tree → Tree} → Binary φ k i j f → j.0 < 64
  right_small x = omega (arith, x.right_below, b.below, b.small)

  pub part_small : {φ : Tree} {i : FormulaNo} {f : Tree → Tree} → Unary φ k i f → i.0 < 64
  part_small x = omega (arith, x.below, b.below, b.small)

  abbrev at : FormulaNo → ℕ
  at i = get_or counts i.0 0

  module _ (φ : Tree) (n : Numbers rule φ) where
    abbrev many : ℕ → ℕ
    many i = length (choices_at rule.profile φ i)

    pub whole : (f : Formula) → formula_at rule.entries k ≡ f → Says φ k f
    whole f e = entry_says rule φ n k b.below f e

    pub counted : (i : FormulaNo) → i.0 < k → at i ≡ capped (many i.0)
    counted i l = (b.counted.at i.0 l).is φ n

    -- the formula with number k, once its kind is known
    length_of : (ψ : Tree) → formula_no φ k ≡ ψ → many k ≡ length (choices (put_off rule.profile (number φ)) ψ)
    length_of ψ e = ap (λ (x : Tree). length (choices (put_off rule.profile (number φ)) x)) e

    pub many_and : (i j : FormulaNo) → Binary φ k i j and → many k ≡ many i.0 * many j.0
    many_and i j x = length_of _ x.whole ∙ len_and (put_off rule.profile (number φ)) (formula_no φ i.0) (formula_no φ j.0)

    pub many_or : (i j : FormulaNo) → Binary φ k i j or → many k ≡ many i.0 + many j.0
    many_or i j x = length_of _ x.whole ∙ len_or (put_off rule.profile (number φ)) (formula_no φ i.0) (formula_no φ j.0)

    pub many_until : (i j : FormulaNo) → Binary φ k i j until → many k ≡ many j.0 + many i.0
    many_until i j x = length_of _ x.whole ∙ len_until (put_off rule.profile (number φ)) (formula_no φ i.0) (formula_no φ j.0)

    pub many_release : (i j : FormulaNo) → Binary φ k i j release → many k ≡ many j.0 * (many i.0 + 1)
    many_release i j x = length_of _ x.whole ∙ len_release (put_off rule.profile (number φ)) (formula_no φ i.0) (formula_no φ j.0)

    count_is : (f : Formula) → Says φ k f → count_by counts f ≡ capped (many k)
    unfolding choices
    count_is (Flag g) x = sym (ap capped (length_of _ x.1))
    count_is (NotFlag g) x = sym (ap capped (length_of _ x.1))
    count_is True x = sym (ap capped (length_of _ x))
    count_is False x = sym (ap capped (length_of _ x))
    count_is (And i j) x =
        ap₂ (λ (a b : ℕ). capped (a * b)) (counted i x.left_below) (counted j x.right_below) ∙ capped_product (many i.0) (many j.0)
        ∙ sym (ap capped (many_and i j x))
    count_is (Or i j) x =
        ap₂ (λ (a b : ℕ). capped (a + b)) (counted i x.left_below) (counted j x.right_below) ∙ capped_sum (many i.0) (many j.0)
        ∙ sym (ap capped (many_or i j x))
    count_is (Next i) x = sym (ap capped (length_of _ x.whole))
    count_is (WeakNext i) x = sym (ap capped (length_of _ x.whole))
    count_is (Until i j) x =
        ap₂ (λ (a b : ℕ). capped (a + b)) (counted j x.right_below) (counted i x.left_below) ∙ capped_sum (many j.0) (many i.0)
        ∙ sym (ap capped (many_until i j x))
    count_is (Release i j) x =
        ap₂ (λ (a b : ℕ). capped (a * capped (b + 1))) (counted j x.right_below) (counted i x.left_below)
        ∙ ap (λ (a : ℕ). capped (capped (many j.0) * a)) (capped_sum (many i.0) 1)
        ∙ capped_product (many j.0) (many i.0 + 1) ∙ sym (ap capped (many_release i j x))

  pub count_right : {f : Formula} → formula_at rule.entries k ≡ f → CountOf rule k (count_by counts f)
  count_right {f} e = record { is = λ φ n. count_is φ n f (whole φ n f e) }
