-- A formula's size from those of its parts, though they are cut off. Assumes nothing.
use mathlib.Core.Path.{◌≡◌, refl, sym, ap, ◌∙◌, subst}
use mathlib.Core.Logic.{◌⊎◌, inl, inr, by_cases}
use mathlib.Core.List.{List, [], ◌∷◌, ◌++◌}
use Prim.Native.Nat.{ℕ, suc, ◌+◌, ◌≤◌, ◌<◌, min, max}
use native.Mathlib.Omega.{arith}
use native.Mathlib.Decide.{dec_le, ℕ_discrete}
use native.Mathlib.Nat.{min-le_right}
use borrow.Author.Tests.{le-leb, lt-leb}
use lib.ListN.{length, length-append, set, get_or, replicate}
use lib.Seq.{get_or-set_same, get_or-set_other}
use Rattle.meaning.specs.Formula.{Formula as Tree, one}
use Rattle.rule.specs.Numbering.{IsRule, formulas}
use Rattle.rule.proofs.ListingLaws.{rule_listed, rule_count, rule_few}
use Rattle.rule.specs.Standing.{Stands}
use Rattle.rule.specs.declared.FormulaNo.{FormulaNo}
use Rattle.rule.specs.declared.Formula.{Formula}
use Rattle.rule.specs.declared.Rule.{Rule}
use Rattle.reading.specs.Grammar.{deeper, left, right, level}
use Rattle.printing.specs.Text.{Written, binary, written_as, binary_bytes, level_of, placed, bare, printed}
use Rattle.printing.specs.Spelling.{raised, deep, deep_in}
use Rattle.printing.specs.Shapes.{Standing, Shaped, ShapeIs, sized, size_of, Small, longer, InSlot, size_at, Sizes, SizeIs}
use Rattle.printing.specs.declared.Joint.{Joint}
use Rattle.printing.specs.declared.Shape.{Shape}
use Rattle.printing.specs.declared.Shape.TheVariants.{Binary}
use Rattle.printing.specs.declared.Size.{Size}

-- ---- cut off, and then enlarged or compared, and cut off again

cut_longer : (slot l n : ℕ) → min (longer slot l (min n 1025)) 1025 ≡ min (longer slot l n) 1025
cut_longer slot l n = by_cases (dec_le l slot) (λ h. rw (le-leb l slot h) (omega arith)) (λ h. rw (lt-leb l slot (omega arith)) (omega arith))

cut_raised : (slot l n : ℕ) → min (raised slot l (min n 33)) 33 ≡ min (raised slot l n) 33
cut_raised slot l n = by_cases (dec_le l slot) (λ h. rw (le-leb l slot h) (omega arith)) (λ h. rw (lt-leb l slot (omega arith)) (omega arith))

cut_cases : (c x y : ℕ) → min x c ≡ min y c → (x ≡ y) ⊎ ((c ≤ x) × (c ≤ y))
cut_cases c x y e = by_cases (dec_le c x) (λ h. inr (h, omega arith)) (λ h. inl (omega arith))

-- Equal, or both cut off.
abbrev Alike : ℕ → ℕ → ℕ → Type 0
Alike c x y = (x ≡ y) ⊎ ((c ≤ x) × (c ≤ y))

max_alike : (c x x' y y' e : ℕ) → Alike c x x' → Alike c y y' → min (max x (y + e)) c ≡ min (max x' (y' + e)) c
max_alike c x x' y y' e (inl a) (inl b) = cc
max_alike c x x' y y' e (inl a) (inr b) = omega arith
max_alike c x x' y y' e (inr a) (inl b) = omega arith
max_alike c x x' y y' e (inr a) (inr b) = omega arith

cut_max : (c x x' y y' e : ℕ) → min x c ≡ min x' c → min y c ≡ min y' c → min (max x (y + e)) c ≡ min (max x' (y' + e)) c
cut_max c x x' y y' e p q = max_alike c x x' y y' e (cut_cases c x x' p) (cut_cases c y y' q)

cut_sum : (c a x x' y y' : ℕ) → min x c ≡ min x' c → min y c ≡ min y' c → min (x + a + y) c ≡ min (x' + (a + y')) c
cut_sum c a x x' y y' p q = omega arith

length_placed : (slot l : ℕ) (t : List ℕ) → length (placed slot l t) ≡ longer slot l (length t)
length_placed slot l t = by_cases (dec_le l slot)
    (λ h. rw (le-leb l slot h))
    (λ h. rw (lt-leb l slot (omega arith)) (omega (arith, length-append t (41 ∷ []))))

sized_same : (l n d l' n' d' : ℕ) → l ≡ l' → min n 1025 ≡ min n' 1025 → min d 33 ≡ min d' 33 → sized l n d ≡ sized l' n' d'
sized_same l n d l' n' d' p q r = cc

-- ---- a part's size

module _ (entries : List Formula) (k : ℕ) where
  shaped_as : (r s : Shape) → ShapeIs entries k r → r ≡ s → (φ : Tree) → Stands entries φ k → Shaped entries k φ s
  shaped_as r s h e φ x = subst (Shaped entries k φ) e (h.shaped φ x)

-- Of a part that is written w.
record CutIn (slot : ℕ) (p : Size) (w : Written) : Type 0 where
  bytes : min p.bytes 1025 ≡ min (length (printed slot w)) 1025
  depth : min p.depth 33 ≡ min (deep_in slot w) 33

cut_in : (p : Size) (slot : ℕ) (s : Size) (w : Written) → p ≡ size_of w → InSlot p slot s → CutIn slot s w
cut_in p slot s w e h = record {
  bytes = rw (h.bytes_are, e, length_placed) (cut_longer slot (level_of w) (length (bare w)));
  depth = rw (h.depth_is, e) (cut_raised slot (level_of w) (deep w));
}

-- ---- the whole's

module _ (entries : List Formula) (k : ℕ) (sizes : List Size) (z : Sizes entries k sizes) (r : Shape) (h : ShapeIs entries k r) (s : Size) where
  pub binary_size : (j : Joint) (i l : FormulaNo) (n m : ℕ) (p q : Size) (d : ℕ) → r ≡ Binary j i l → n ≡ i.0 → m ≡ l.0
      → InSlot (size_at sizes n) j.left p → InSlot (size_at sizes m) j.right q → d ≡ max p.depth (q.depth + j.deeper)
      → s ≡ sized j.level (p.bytes + 3 + q.bytes) d → SizeIs entries k s
  binary_size j i l n m p q d e f f' p' q' c g = record {
    size = λ φ x.
        let y = shaped_as entries k r (Binary j i l) h e φ x in
        let t = y.joint in
        let o = y.sign in
        let u = written_as y.first in
        let v = written_as y.second in
        let a = cut_in (size_at sizes n) (left o) p u (ap (size_at sizes) f ∙ z.each i.0 y.first y.first_below y.first_stands) (rw t.left_is at p') in
        let b = cut_in (size_at sizes m) (right o) q v (ap (size_at sizes) f' ∙ z.each l.0 y.second y.second_below y.second_stands) (rw t.right_is at q') in
        let w : length (bare (binary o u v)) ≡ length (printed (left o) u) + (3 + length (printed (right o) v)) =
        omega (arith, ap length t.bytes, length-append (printed (left o) u) (binary_bytes o ++ printed (right o) v), length-append (binary_bytes o) (printed (right o) v)) in
        g ∙ sized_same j.level (p.bytes + 3 + q.bytes) d (level o) (length (bare (binary o u v))) (deep (binary o u v)) t.level_is
        (rw w (cut_sum 1025 3 p.bytes (length (printed (left o) u)) q.bytes (length (printed (right o) v)) a.bytes b.bytes))
        (ap (λ (n : ℕ). min n 33) c ∙ ap (λ (n : ℕ). min (max p.depth (q.depth + n)) 33) t.deeper_is
        ∙ cut_max 33 p.depth (deep_in (left o) u) q.depth (deep_in (right o) v) (deeper o) a.depth b.depth)
        ∙ sym (ap size_of y.written);
  }

-- ---- one after the other

pub rule_standing : (rule : Rule) → IsRule rule → (k : ℕ) → k < rule.count → Standing rule.entries k
rule_standing rule (φ, n) k h = record {
  formula = get_or (formulas φ) k one;
  stands = (rule_listed rule φ n).stand k (omega (arith, rule_count rule φ n));
  few = omega (arith, rule_few rule φ n);
}

abbrev none : Size
none = record { level = 0; bytes = 0; depth = 0 }

none_at : (n i : ℕ) → size_at (replicate n none) i ≡ none
none_at ℕ.zero i = refl
none_at (suc n) ℕ.zero = refl
none_at (suc n) (suc i) = none_at n i

pub sizes_none : (entries : List Formula) (n : ℕ) → Sizes entries 0 (replicate n none)
sizes_none entries n = record {
  small = λ i. rw (none_at n i) (record { bytes_most = omega arith; depth_most = omega arith });
  each = λ i φ h. absurd (omega arith);
}

size_small : (entries : List Formula) (k : ℕ) (s : Size) → Standing entries k → SizeIs entries k s → Small s
size_small entries k s x h = rw (h.size x.formula x.stands) (record { bytes_most = min-le_right _ 1025; depth_most = min-le_right _ 33 })

pub sizes_more : (entries : List Formula) (k : ℕ) (sizes : List Size) (s : Size) → k < length sizes → Sizes entries k sizes → Standing entries k → SizeIs entries k s
    → Sizes entries (k + 1) (set sizes k s)
sizes_more entries k sizes s l z x h = record {
  small = λ i. by_cases (ℕ_discrete i k)
      (λ (e : i ≡ k). rw (e, get_or-set_same sizes k s none l) (size_small entries k s x h))
      (λ e. rw (get_or-set_other sizes k i s none e) (z.small i));
  each = λ i φ b y. by_cases (ℕ_discrete i k)
      (λ (e : i ≡ k). rw e (get_or-set_same sizes k s none l ∙ h.size φ (rw e at y)))
      (λ e. get_or-set_other sizes k i s none e ∙ z.each i φ (omega arith) y);
}
