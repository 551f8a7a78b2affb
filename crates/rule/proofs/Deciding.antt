-- Whether a rule is the numbering of some formula is decided for every rule: the formula that its highest number stands for is found, if there is one,
-- and its numbering compared with the rule. Assumes nothing.
use Rattle.std.specs.Prelude.{ℕ, zero, suc, ◌-◌, ◌<◌, ◌≡◌, refl, length}
use Rattle.std.proofs.Common.{le_refl, not-suc-le-zero, arith, ap, subst}
use Rattle.std.proofs.lemmas.Grind.{not_there}
use Rattle.std.proofs.Math.Decide.{ℕ_discrete, dec_le, dec_lt}
use mathlib.Core.List.{List, List-discrete}
use Rattle.laws.specs.Decided.{both?, same?}
use Rattle.meaning.specs.Flags.{flags}
use Rattle.meaning.specs.Formula.{Formula as Tree, flag, not_flag, one, zero as never, and, or, next, weak, until, release}
use Rattle.meaning.specs.Dialect.{dialect}
use Rattle.rule.specs.Numbering.{formulas, numbering, Numbers, IsRule, formula_at}
use Rattle.rule.specs.Standing.{headed, Over, Both, Stands, stands_one, One, Two, Reads, stands_reads}
use Rattle.rule.proofs.ListingLaws.{stands_known, rule_whole}
use Rattle.rule.specs.Coding.{code_of, code_same}
use Rattle.rule.specs.declared.FormulaNo.{FormulaNo}
use Rattle.rule.specs.declared.Formula.{Formula}
use Rattle.rule.specs.declared.Formula.TheVariants.{Flag, NotFlag, True, False, And, Or, Next, WeakNext, Until, Release}
use Rattle.rule.specs.declared.Code.{Code}
use Rattle.rule.specs.declared.Rule.{Rule}

-- ---- equal codes, equal formulas

pub same_code? : Discrete Code
same_code? a b = same? (
  λ e. (ap (λ (c : Code). c.kind) e, (ap (λ (c : Code). c.first) e, ap (λ (c : Code). c.second) e)),
  λ (k, (f, s)) i. record { kind = k i; first = f i; second = s i },
) (both? (ℕ_discrete a.kind b.kind) (both? (ℕ_discrete a.first b.first) (ℕ_discrete a.second b.second)))

pub same_formula? : Discrete Formula
same_formula? a b = same? (ap code_of, code_same a b) (same_code? (code_of a) (code_of b))

-- ---- the formula that a number stands for

abbrev none : FormulaNo
none = record { 0 = 0 }

module _ (entries : List Formula) where
  -- some formula stands at k
  abbrev SomeStands : ℕ → Type 0
  SomeStands k = (φ : Tree) × Stands entries φ k

  -- the entry at k decides, where those below k are decided
  module _ (k : ℕ) (below? : (i : ℕ) → i < k → Dec (SomeStands i)) where
    part? : (i : FormulaNo) → Dec ((i.0 < k) × SomeStands i.0)
    part? i = go (dec_lt i.0 k)
      where
        go : Dec (i.0 < k) → Dec ((i.0 < k) × SomeStands i.0)
        go (yes h) = both? (yes h) (below? i.0 h)
        go (no n) = no (λ x. n x.0)

    -- an entry with one part, and one with two: f makes the formula of the entry from those of its parts
    one? : (i : FormulaNo) (f : Tree → Tree) → ((p : Tree) → Over entries k (f p) (Stands entries p) → Stands entries (f p) k)
        → ((p : Tree) → formula_at entries k ≡ headed (f p) i none) → ((φ : Tree) → Stands entries φ k → One entries k φ i f) → Dec (SomeStands k)
    one? i f built here read = same? (
      λ (φ, s). let x = read φ s in (x.below, (x.part, x.stands)),
      λ (h, (p, s)). (f p, built p (record { first = i; second = none; here = here p; below = h; part = s })),
    ) (part? i)

    two? : (i j : FormulaNo) (f : Tree → Tree → Tree)
        → ((p q : Tree) → Both entries k (f p q) (Stands entries p) (Stands entries q) → Stands entries (f p q) k)
        → ((p q : Tree) → formula_at entries k ≡ headed (f p q) i j) → ((φ : Tree) → Stands entries φ k → Two entries k φ i j f) → Dec (SomeStands k)
    two? i j f built here read = same? (
      λ (φ, s). let x = read φ s in ((x.left_below, (x.left, x.left_stands)), (x.right_below, (x.right, x.right_stands))),
      λ ((h, (p, s)), (l, (q, t))).
          (f p q, built p q (record { first = i; second = j; here = here p q; left_below = h; right_below = l; left = s; right = t })),
    ) (both? (part? i) (part? j))

    reads_as : (c : Formula) → formula_at entries k ≡ c → (φ : Tree) → Stands entries φ k → Reads entries k φ c
    reads_as c e φ s = subst (Reads entries k φ) e (stands_reads entries k φ s)

    stands_by? : (c : Formula) → formula_at entries k ≡ c → Dec (SomeStands k)
    stands_by? (Flag f) e = same? (
      λ (φ, s). (reads_as (Flag f) e φ s).0,
      λ h. (flag f, record { first = none; second = none; here = e; known = h }),
    ) (dec_lt f flags)
    stands_by? (NotFlag f) e = same? (
      λ (φ, s). (reads_as (NotFlag f) e φ s).0,
      λ h. (not_flag f, record { first = none; second = none; here = e; known = h }),
    ) (dec_lt f flags)
    stands_by? True e = yes (one, record { first = none; second = none; here = e; known = tt })
    stands_by? False e = yes (never, record { first = none; second = none; here = e; known = tt })
    stands_by? (And i j) e = two? i j and (λ p q x. x) (λ p q. e) (reads_as (And i j) e)
    stands_by? (Or i j) e = two? i j or (λ p q x. x) (λ p q. e) (reads_as (Or i j) e)
    stands_by? (Next i) e = one? i next (λ p x. x) (λ p. e) (reads_as (Next i) e)
    stands_by? (WeakNext i) e = one? i weak (λ p x. x) (λ p. e) (reads_as (WeakNext i) e)
    stands_by? (Until i j) e = two? i j until (λ p q x. x) (λ p q. e) (reads_as (Until i j) e)
    stands_by? (Release i j) e = two? i j release (λ p q x. x) (λ p q. e) (reads_as (Release i j) e)

  stands_below? : (n k : ℕ) → k < n → Dec (SomeStands k)
  stands_below? zero k h = absurd (not-suc-le-zero h)
  stands_below? (suc n) k h = stands_by? k (λ i l. stands_below? n i (omega arith)) (formula_at entries k) refl

  stands? : (k : ℕ) → Dec (SomeStands k)
  stands? k = stands_below? (suc k) k (le_refl (suc k))

-- ---- whether the rule is its numbering

numbers? : (rule : Rule) (φ : Tree) → Stands rule.entries φ (rule.count - 1) → Dec (Numbers rule φ)
unfolding numbering
numbers? rule φ s = same? (
  λ n. (n.fits.few, (ap (λ (r : Rule). r.count) n.same, ap (λ (r : Rule). r.entries) n.same)),
  λ (few, (count, entries)). record {
    fits = record { known = stands_known rule.entries φ (rule.count - 1) s; few = few };
    same = λ i. record { profile = rule.profile; count = count i; entries = entries i };
  },
) (both? (dec_le (length (formulas φ)) (dialect rule.profile).most) (both? (ℕ_discrete rule.count (length (formulas φ)))
    (List-discrete same_formula? rule.entries (numbering rule.profile φ).entries)))

pub is_rule? : (rule : Rule) → Dec (IsRule rule)
is_rule? rule = go (stands? rule.entries (rule.count - 1))
  where
    go : Dec (SomeStands rule.entries (rule.count - 1)) → Dec (IsRule rule)
    go (yes (φ, s)) = same? (
      λ (ψ, n). subst (Numbers rule) (stands_one rule.entries ψ φ (rule.count - 1) (rule_whole rule ψ n) s) n,
      λ n. (φ, n),
    ) (numbers? rule φ s)
    go (no n) = no (λ (ψ, x). n (ψ, rule_whole rule ψ x))

-- what the field of a `Numbering` says
pub known_rule : (rule : Rule) → ∥ IsRule rule ∥₁ → IsRule rule
known_rule rule t = go (is_rule? rule)
  where
    go : Dec (IsRule rule) → IsRule rule
    go (yes r) = r
    go (no n) = absurd (not_there t n)
