-- The formula that a number stands for in a rule's entries. Assumes nothing.
use Rattle.std.specs.Prelude.{ℕ, ◌<◌, ◌≡◌, refl, ◌↔◌, List}
use Rattle.std.proofs.Common.{arith, sym, ap, ap₂, ◌∙◌, subst}
use Rattle.std.proofs.Math.Logic.Iff
use Rattle.meaning.specs.Flags.{flags}
use Rattle.meaning.specs.Formula.{Formula as Tree, flag, not_flag, one, zero, and, or, next, weak, until, release}
use Rattle.rule.specs.Numbering.{KnownFlag, formula_at}
use Rattle.rule.specs.Trees.{Shape, alone, over, both, shape, Under, tree_ind}
use Rattle.rule.specs.declared.FormulaNo.{FormulaNo}
use Rattle.rule.specs.declared.Formula.{Formula}
use Rattle.rule.specs.declared.Formula.TheVariants.{Flag, NotFlag, True, False, And, Or, Next, WeakNext, Until, Release}

-- the entry of a formula whose parts have the numbers i and j
abbrev pub headed : Tree → FormulaNo → FormulaNo → Formula
headed (flag k) i j = Flag k
headed (not_flag k) i j = NotFlag k
headed one i j = True
headed zero i j = False
headed (and p q) i j = And i j
headed (or p q) i j = Or i j
headed (next p) i j = Next i
headed (weak p) i j = WeakNext i
headed (until p q) i j = Until i j
headed (release p q) i j = Release i j

-- the formula of an entry whose parts stand for p and q
abbrev pub rebuilt : Formula → Tree → Tree → Tree
rebuilt (Flag k) p q = flag k
rebuilt (NotFlag k) p q = not_flag k
rebuilt True p q = one
rebuilt False p q = zero
rebuilt (And i j) p q = and p q
rebuilt (Or i j) p q = or p q
rebuilt (Next i) p q = next p
rebuilt (WeakNext i) p q = weak p
rebuilt (Until i j) p q = until p q
rebuilt (Release i j) p q = release p q

-- ---- number k stands for the formula φ: its entry is φ's, and its parts' numbers, which are lower, stand for φ's parts

pub record Alone (entries : List Formula) (k : ℕ) (φ : Tree) : Type 0 where
  pub first : FormulaNo
  pub second : FormulaNo
  pub here : formula_at entries k ≡ headed φ first second
  pub known : KnownFlag flags φ

pub record Over (entries : List Formula) (k : ℕ) (φ : Tree) (Part : ℕ → Type 0) : Type 0 where
  pub first : FormulaNo
  pub second : FormulaNo
  pub here : formula_at entries k ≡ headed φ first second
  pub below : first.0 < k
  pub part : Part first.0

pub record Both (entries : List Formula) (k : ℕ) (φ : Tree) (Left Right : ℕ → Type 0) : Type 0 where
  pub first : FormulaNo
  pub second : FormulaNo
  pub here : formula_at entries k ≡ headed φ first second
  pub left_below : first.0 < k
  pub right_below : second.0 < k
  pub left : Left first.0
  pub right : Right second.0

abbrev pub Stands : List Formula → Tree → ℕ → Type 0
Stands entries (flag f) k = Alone entries k (flag f)
Stands entries (not_flag f) k = Alone entries k (not_flag f)
Stands entries one k = Alone entries k one
Stands entries zero k = Alone entries k zero
Stands entries (and p q) k = Both entries k (and p q) (Stands entries p) (Stands entries q)
Stands entries (or p q) k = Both entries k (or p q) (Stands entries p) (Stands entries q)
Stands entries (next p) k = Over entries k (next p) (Stands entries p)
Stands entries (weak p) k = Over entries k (weak p) (Stands entries p)
Stands entries (until p q) k = Both entries k (until p q) (Stands entries p) (Stands entries q)
Stands entries (release p q) k = Both entries k (release p q) (Stands entries p) (Stands entries q)

module _ (entries : List Formula) where
  -- by the shape alone
  abbrev pub StandsBy : Tree → ℕ → Shape → Type 0
  StandsBy φ k alone = Alone entries k φ
  StandsBy φ k (over p) = Over entries k φ (Stands entries p)
  StandsBy φ k (both p q) = Both entries k φ (Stands entries p) (Stands entries q)

  pub stands_shape : (φ : Tree) (k : ℕ) → Stands entries φ k ↔ StandsBy φ k (shape φ)
  stands_shape (flag f) k = Iff.rfl
  stands_shape (not_flag f) k = Iff.rfl
  stands_shape one k = Iff.rfl
  stands_shape zero k = Iff.rfl
  stands_shape (and p q) k = Iff.rfl
  stands_shape (or p q) k = Iff.rfl
  stands_shape (next p) k = Iff.rfl
  stands_shape (weak p) k = Iff.rfl
  stands_shape (until p q) k = Iff.rfl
  stands_shape (release p q) k = Iff.rfl

-- ---- one number stands for one formula

abbrev arity : Formula → ℕ
arity (Flag k) = 0
arity (NotFlag k) = 0
arity True = 0
arity False = 0
arity (And i j) = 2
arity (Or i j) = 2
arity (Next i) = 1
arity (WeakNext i) = 1
arity (Until i j) = 2
arity (Release i j) = 2

abbrev part_count : Shape → ℕ
part_count alone = 0
part_count (over p) = 1
part_count (both p q) = 2

-- the first part and the second, d where there is none; and so for numbers
abbrev left_of : Shape → Tree
left_of alone = one
left_of (over p) = p
left_of (both p q) = p

abbrev right_of : Shape → Tree
right_of alone = one
right_of (over p) = one
right_of (both p q) = q

abbrev first_of : Shape → FormulaNo → FormulaNo
first_of alone i = record { 0 = 0 }
first_of (over p) i = i
first_of (both p q) i = i

abbrev second_of : Shape → FormulaNo → FormulaNo
second_of alone j = record { 0 = 0 }
second_of (over p) j = record { 0 = 0 }
second_of (both p q) j = j

abbrev first_no : Formula → FormulaNo
first_no (Flag k) = record { 0 = 0 }
first_no (NotFlag k) = record { 0 = 0 }
first_no True = record { 0 = 0 }
first_no False = record { 0 = 0 }
first_no (And i j) = i
first_no (Or i j) = i
first_no (Next i) = i
first_no (WeakNext i) = i
first_no (Until i j) = i
first_no (Release i j) = i

abbrev second_no : Formula → FormulaNo
second_no (Flag k) = record { 0 = 0 }
second_no (NotFlag k) = record { 0 = 0 }
second_no True = record { 0 = 0 }
second_no False = record { 0 = 0 }
second_no (And i j) = j
second_no (Or i j) = j
second_no (Next i) = record { 0 = 0 }
second_no (WeakNext i) = record { 0 = 0 }
second_no (Until i j) = j
second_no (Release i j) = j

-- what an entry tells of its formula
record Told (φ : Tree) (i j : FormulaNo) : Type 0 where
  arity_is : arity (headed φ i j) ≡ part_count (shape φ)
  first_is : first_no (headed φ i j) ≡ first_of (shape φ) i
  second_is : second_no (headed φ i j) ≡ second_of (shape φ) j
  made : rebuilt (headed φ i j) (left_of (shape φ)) (right_of (shape φ)) ≡ φ
  by_parts : headed φ i j ≡ headed φ (first_of (shape φ) i) (second_of (shape φ) j)

told : (φ : Tree) (i j : FormulaNo) → Told φ i j
told (flag f) i j = record { arity_is = refl; first_is = refl; second_is = refl; made = refl; by_parts = refl }
told (not_flag f) i j = record { arity_is = refl; first_is = refl; second_is = refl; made = refl; by_parts = refl }
told one i j = record { arity_is = refl; first_is = refl; second_is = refl; made = refl; by_parts = refl }
told zero i j = record { arity_is = refl; first_is = refl; second_is = refl; made = refl; by_parts = refl }
told (and p q) i j = record { arity_is = refl; first_is = refl; second_is = refl; made = refl; by_parts = refl }
told (or p q) i j = record { arity_is = refl; first_is = refl; second_is = refl; made = refl; by_parts = refl }
told (next p) i j = record { arity_is = refl; first_is = refl; second_is = refl; made = refl; by_parts = refl }
told (weak p) i j = record { arity_is = refl; first_is = refl; second_is = refl; made = refl; by_parts = refl }
told (until p q) i j = record { arity_is = refl; first_is = refl; second_is = refl; made = refl; by_parts = refl }
told (release p q) i j = record { arity_is = refl; first_is = refl; second_is = refl; made = refl; by_parts = refl }

pub headed_alone : (φ : Tree) (i j k l : FormulaNo) → shape φ ≡ alone → headed φ i j ≡ headed φ k l
headed_alone φ i j k l e = let u = told φ i j in let v = told φ k l in cc (u.by_parts, v.by_parts)

pub headed_over : (φ p : Tree) (i j l : FormulaNo) → shape φ ≡ over p → headed φ i j ≡ headed φ i l
headed_over φ p i j l e = let u = told φ i j in let v = told φ i l in cc (u.by_parts, v.by_parts)

module _ (entries : List Formula) where
  -- equal entries stand for equal formulas
  abbrev Same : Tree → Type 0
  Same φ = (ψ : Tree) (a b : ℕ) → formula_at entries a ≡ formula_at entries b → Stands entries φ a → Stands entries ψ b → φ ≡ ψ

  entry_of : (φ : Tree) (k : ℕ) (s : Shape) → StandsBy entries φ k s → (i j : FormulaNo) × (formula_at entries k ≡ headed φ i j)
  entry_of φ k alone x = (x.first, x.second, x.here)
  entry_of φ k (over p) x = (x.first, x.second, x.here)
  entry_of φ k (both p q) x = (x.first, x.second, x.here)

  same_count : (φ ψ : Tree) (a b : ℕ) → formula_at entries a ≡ formula_at entries b → StandsBy entries φ a (shape φ) → StandsBy entries ψ b (shape ψ)
      → part_count (shape φ) ≡ part_count (shape ψ)
  same_count φ ψ a b e x y =
      let (i, j, f) = entry_of φ a (shape φ) x in
      let (k, l, g) = entry_of ψ b (shape ψ) y in
      sym (told φ i j).arity_is ∙ ap arity (sym f ∙ e ∙ g) ∙ (told ψ k l).arity_is

  same_by : (φ ψ : Tree) (a b : ℕ) → formula_at entries a ≡ formula_at entries b → (s t : Shape) → shape φ ≡ s → shape ψ ≡ t → part_count s ≡ part_count t
      → Under Same s → StandsBy entries φ a s → StandsBy entries ψ b t → φ ≡ ψ
  same_by φ ψ a b e alone alone es et n h x y =
      let u = told φ x.first x.second in
      let v = told ψ y.first y.second in
      let c : headed φ x.first x.second ≡ headed ψ y.first y.second = sym x.here ∙ e ∙ y.here in
      cc (u.made, v.made)
  same_by φ ψ a b e (over p) (over r) es et n h x y =
      let u = told φ x.first x.second in
      let v = told ψ y.first y.second in
      let c : headed φ x.first x.second ≡ headed ψ y.first y.second = sym x.here ∙ e ∙ y.here in
      let f : x.first ≡ y.first = cc (u.first_is, v.first_is) in
      let d : p ≡ r = h r x.first.0 y.first.0 (ap (λ (i : FormulaNo). formula_at entries i.0) f) x.part y.part in
      cc (u.made, v.made)
  same_by φ ψ a b e (both p q) (both r s) es et n h x y =
      let u = told φ x.first x.second in
      let v = told ψ y.first y.second in
      let c : headed φ x.first x.second ≡ headed ψ y.first y.second = sym x.here ∙ e ∙ y.here in
      let f : x.first ≡ y.first = cc (u.first_is, v.first_is) in
      let g : x.second ≡ y.second = cc (u.second_is, v.second_is) in
      let d : p ≡ r = h.0 r x.first.0 y.first.0 (ap (λ (i : FormulaNo). formula_at entries i.0) f) x.left y.left in
      let d' : q ≡ s = h.1 s x.second.0 y.second.0 (ap (λ (i : FormulaNo). formula_at entries i.0) g) x.right y.right in
      cc (u.made, v.made)
  same_by φ ψ a b e alone (over r) es et n h x y = absurd (omega arith)
  same_by φ ψ a b e alone (both r s) es et n h x y = absurd (omega arith)
  same_by φ ψ a b e (over p) alone es et n h x y = absurd (omega arith)
  same_by φ ψ a b e (over p) (both r s) es et n h x y = absurd (omega arith)
  same_by φ ψ a b e (both p q) alone es et n h x y = absurd (omega arith)
  same_by φ ψ a b e (both p q) (over r) es et n h x y = absurd (omega arith)

  pub stands_same : (φ : Tree) → Same φ
  stands_same = tree_ind Same (λ φ h ψ a b e x y.
      let u = (stands_shape entries φ a).0 x in
      let v = (stands_shape entries ψ b).0 y in
      same_by φ ψ a b e (shape φ) (shape ψ) refl refl (same_count φ ψ a b e u v) h u v)

  -- a number stands for one formula only
  pub stands_one : (φ ψ : Tree) (k : ℕ) → Stands entries φ k → Stands entries ψ k → φ ≡ ψ
  stands_one φ ψ k = stands_same φ ψ k k refl

  -- ---- where no entry stands twice, a formula has one number

  abbrev pub Apart : ℕ → Type 0
  Apart n = (a b : ℕ) → a < n → b < n → formula_at entries a ≡ formula_at entries b → a ≡ b

  module _ (n : ℕ) (apart : Apart n) where
    abbrev OneNumber : Tree → Type 0
    OneNumber φ = (a b : ℕ) → a < n → b < n → Stands entries φ a → Stands entries φ b → a ≡ b

    one_number : (φ : Tree) (a b : ℕ) → a < n → b < n → (s : Shape) → shape φ ≡ s → Under OneNumber s
        → StandsBy entries φ a s → StandsBy entries φ b s → a ≡ b
    one_number φ a b la lb alone e h x y =
        apart a b la lb (x.here ∙ headed_alone φ x.first x.second y.first y.second e ∙ sym y.here)
    one_number φ a b la lb (over p) e h x y =
        let f : x.first.0 ≡ y.first.0 = h x.first.0 y.first.0 (omega arith) (omega arith) x.part y.part in
        apart a b la lb (x.here ∙ headed_over φ p x.first x.second y.second e ∙ ap (λ (i : ℕ). headed φ (record { 0 = i }) y.second) f ∙ sym y.here)
    one_number φ a b la lb (both p q) e h x y =
        let f : x.first.0 ≡ y.first.0 = h.0 x.first.0 y.first.0 (omega arith) (omega arith) x.left y.left in
        let f' : x.second.0 ≡ y.second.0 = h.1 x.second.0 y.second.0 (omega arith) (omega arith) x.right y.right in
        apart a b la lb (x.here ∙ ap₂ (λ (i j : ℕ). headed φ (record { 0 = i }) (record { 0 = j })) f f' ∙ sym y.here)

    pub stands_once : (φ : Tree) → OneNumber φ
    stands_once = tree_ind OneNumber (λ φ h a b la lb x y.
        one_number φ a b la lb (shape φ) refl h ((stands_shape entries φ a).0 x) ((stands_shape entries φ b).0 y))

-- ---- what stands below n stands there as long as the entries below n are kept

module _ (before after : List Formula) (n : ℕ) (kept : (k : ℕ) → k < n → formula_at after k ≡ formula_at before k) where
  abbrev Keeps : Tree → Type 0
  Keeps φ = (k : ℕ) → k < n → Stands before φ k → Stands after φ k

  keeps_by : (φ : Tree) (k : ℕ) → k < n → (s : Shape) → Under Keeps s → StandsBy before φ k s → StandsBy after φ k s
  keeps_by φ k h alone f x = record { first = x.first; second = x.second; here = kept k h ∙ x.here; known = x.known }
  keeps_by φ k h (over p) f x =
      record { first = x.first; second = x.second; here = kept k h ∙ x.here; below = x.below; part = f x.first.0 (omega arith) x.part }
  keeps_by φ k h (both p q) f x = record {
    first = x.first;
    second = x.second;
    here = kept k h ∙ x.here;
    left_below = x.left_below;
    right_below = x.right_below;
    left = f.0 x.first.0 (omega arith) x.left;
    right = f.1 x.second.0 (omega arith) x.right;
  }

  pub stands_kept : (φ : Tree) → Keeps φ
  stands_kept = tree_ind Keeps (λ φ f k h s. (stands_shape after φ k).1 (keeps_by φ k h (shape φ) f ((stands_shape before φ k).0 s)))

-- ---- read off the entry: what a formula's code finds there

-- φ is f of what the number i below k stands for
pub record One (entries : List Formula) (k : ℕ) (φ : Tree) (i : FormulaNo) (f : Tree → Tree) : Type 0 where
  pub part : Tree
  pub whole : φ ≡ f part
  pub below : i.0 < k
  pub stands : Stands entries part i.0

pub record Two (entries : List Formula) (k : ℕ) (φ : Tree) (i j : FormulaNo) (f : Tree → Tree → Tree) : Type 0 where
  pub left : Tree
  pub right : Tree
  pub whole : φ ≡ f left right
  pub left_below : i.0 < k
  pub right_below : j.0 < k
  pub left_stands : Stands entries left i.0
  pub right_stands : Stands entries right j.0

abbrev pub Reads : List Formula → ℕ → Tree → Formula → Type 0
Reads entries k φ (Flag f) = (f < flags) × (φ ≡ flag f)
Reads entries k φ (NotFlag f) = (f < flags) × (φ ≡ not_flag f)
Reads entries k φ True = φ ≡ one
Reads entries k φ False = φ ≡ zero
Reads entries k φ (And i j) = Two entries k φ i j and
Reads entries k φ (Or i j) = Two entries k φ i j or
Reads entries k φ (Next i) = One entries k φ i next
Reads entries k φ (WeakNext i) = One entries k φ i weak
Reads entries k φ (Until i j) = Two entries k φ i j until
Reads entries k φ (Release i j) = Two entries k φ i j release

module _ (entries : List Formula) (k : ℕ) where
  reads_one : (φ p : Tree) (f : Tree → Tree) → φ ≡ f p → (x : Over entries k φ (Stands entries p)) → One entries k φ x.first f
  reads_one φ p f e x = record { part = p; whole = e; below = x.below; stands = x.part }

  reads_two : (φ p q : Tree) (f : Tree → Tree → Tree) → φ ≡ f p q → (x : Both entries k φ (Stands entries p) (Stands entries q))
      → Two entries k φ x.first x.second f
  reads_two φ p q f e x = record {
    left = p;
    right = q;
    whole = e;
    left_below = x.left_below;
    right_below = x.right_below;
    left_stands = x.left;
    right_stands = x.right;
  }

  pub stands_reads : (φ : Tree) → Stands entries φ k → Reads entries k φ (formula_at entries k)
  stands_reads (flag f) x = subst (Reads entries k (flag f)) (sym x.here) (x.known, refl)
  stands_reads (not_flag f) x = subst (Reads entries k (not_flag f)) (sym x.here) (x.known, refl)
  stands_reads one x = subst (Reads entries k one) (sym x.here) refl
  stands_reads zero x = subst (Reads entries k zero) (sym x.here) refl
  stands_reads (and p q) x = subst (Reads entries k (and p q)) (sym x.here) (reads_two (and p q) p q and refl x)
  stands_reads (or p q) x = subst (Reads entries k (or p q)) (sym x.here) (reads_two (or p q) p q or refl x)
  stands_reads (next p) x = subst (Reads entries k (next p)) (sym x.here) (reads_one (next p) p next refl x)
  stands_reads (weak p) x = subst (Reads entries k (weak p)) (sym x.here) (reads_one (weak p) p weak refl x)
  stands_reads (until p q) x = subst (Reads entries k (until p q)) (sym x.here) (reads_two (until p q) p q until refl x)
  stands_reads (release p q) x = subst (Reads entries k (release p q)) (sym x.here) (reads_two (release p q) p q release refl x)
