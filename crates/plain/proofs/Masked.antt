-- A pass over the formulas in rising number makes the mask of what holds: an entry looks at bits of lower numbers, which later ones leave. Assumes nothing.
use Prim.Native.Nat.{ℕ, ◌+◌, ◌*◌, ◌%◌, ◌^◌, ◌<◌, ◌≤◌, zero-le}
use native.Mathlib.Nat.{eq-or-lt_of_le, lt_of_lt_of_le, zero-mul}
use native.Mathlib.Omega.{arith}
use mathlib.Core.Path.{◌≡◌, sym, ap, subst, subst⁻¹, ◌∙◌}
use mathlib.Core.Bool.{Bool, true, false, not, ◌&&◌, ◌||◌, and-false, and-true, or-false}
use mathlib.Core.Logic.Iff
use mathlib.Core.Logic.{◌↔◌, ⊎_elim}
use mathlib.Core.List.{List, [], ◌∷◌}
use borrow.Author.Tests.{eq-eqb, ne_eqb}
use lib.Dec.{T, eqb, T_not, not_T}
use lib.ListN.{length, take, get_or}
use Rattle.std.proofs.lemmas.List.{get_or-take, length-take-le}
use lib.Bits.{bit_or}
use mir.Val.{bool_byte}
use Rattle.laws.specs.Decided.{and_means, or_means, T_and, T-or}
use Rattle.laws.specs.Masks.{bit, bit_or_lem, bit_power, bit_beyond, bit_means, shl_one}
use Rattle.meaning.specs.Formula.{Formula as Tree, one, and, or, until, release, Series}
use Rattle.meaning.specs.Meaning.{holds_by, holds}
use Rattle.meaning.specs.Dialect.{dialect}
use Rattle.meaning.specs.Rest.{Rest}
use Rattle.meaning.proofs.DialectLaws.{rests}
use Rattle.meaning.specs.declared.Profile.{Profile}
use Rattle.meaning.specs.declared.Profile.TheVariants.{Finite, Last}
use Rattle.meaning.specs.Ending.{end_yes}
use Rattle.meaning.proofs.Holding.{end_iff}
use Rattle.rule.specs.Numbering.{formulas, formula_at, IsRule}
use Rattle.rule.specs.Standing.{Stands, Two, Reads, stands_reads}
use Rattle.rule.proofs.Deciding.{known_rule}
use Rattle.rule.proofs.ListingLaws.{rule_listed, rule_count, rule_some, rule_few, rule_long}
use Rattle.rule.specs.declared.FormulaNo.{FormulaNo}
use Rattle.rule.specs.declared.Rule.{Rule}
use Rattle.rule.specs.declared.Formula.{Formula}
use Rattle.rule.specs.declared.Formula.TheVariants.{Flag, NotFlag, True, False, And, Or, Next, WeakNext, Until, Release}
use Rattle.plain.specs.EndsLaws.{mask_iff}
use Rattle.plain.specs.Masking.{MaskOf, PassOver, Inner, at_end, may_end, must_end, at_date}

not_means : (b : Bool) → T (not b) ↔ (¬ T b)
not_means b = (T_not b, not_T b)

-- ---- one bit

pub bit_set : (m n : ℕ) (b : Bool) → n < 64 → (k : ℕ) → bit (bit_or m ((bool_byte b * 2 ^ n) % 2 ^ 64)) k ≡ (bit m k || (b && eqb k n))
bit_set m n true l k = bit_or_lem m ((1 * 2 ^ n) % 2 ^ 64) k ∙ ap (λ x. bit m k || x) (ap (λ x. bit x k) (shl_one 64 n l) ∙ bit_power n k)
bit_set m n false l k = bit_or_lem m ((0 * 2 ^ n) % 2 ^ 64) k ∙ ap (λ x. bit m k || x) (ap (λ x. bit (x % 2 ^ 64) k) (zero-mul (2 ^ n)) ∙ bit_beyond 0 0 k (omega arith) zero-le)

-- ---- one formula more

module _ (entries : List Formula) (P : Tree → Type 0) where
  pub mask_none : MaskOf entries P 0 0
  mask_none = record { each = λ k φ l s. absurd (omega arith); none = λ k l. bit_beyond 0 0 k (omega arith) l }

  pub mask_more : (n m m' : ℕ) (b : Bool) → ((φ : Tree) → Stands entries φ n → T b ↔ P φ) → MaskOf entries P n m
      → ((k : ℕ) → bit m' k ≡ (bit m k || (b && eqb k n))) → MaskOf entries P (n + 1) m'
  mask_more n m m' b says is_mask more = record {
    each = λ k φ l s. ⊎_elim
        (λ (e : k ≡ n). subst (λ (x : Bool). T x ↔ P φ) (sym (here k e)) (says φ (subst (Stands entries φ) e s)))
        (λ (h : k < n). subst (λ (x : Bool). T x ↔ P φ) (sym (other k (λ e. omega arith))) (is_mask.each k φ h s))
        (eq-or-lt_of_le (omega arith));
    none = λ k l. other k (λ e. omega arith) ∙ is_mask.none k (omega arith);
  }
    where
      other : (k : ℕ) → (k ≡ n → ⊥) → bit m' k ≡ bit m k
      other k ne = more k ∙ rw (ne_eqb k n ne) (ap (λ y. bit m k || y) (and-false b) ∙ or-false (bit m k))

      here : (k : ℕ) → k ≡ n → bit m' k ≡ b
      here k e = more k ∙ rw (eq-eqb k n e, is_mask.none k (omega arith)) (and-true b)

-- ---- what an entry says is what its formula does

reads_inner : (entries : List Formula) (k : ℕ) (φ : Tree) (f : Formula) → k ≤ 64 → Reads entries k φ f → Inner 64 f
reads_inner entries k φ (Flag f) l x = x.0
reads_inner entries k φ (NotFlag f) l x = x.0
reads_inner entries k φ True l x = tt
reads_inner entries k φ False l x = tt
reads_inner entries k φ (And p q) l x = (lt_of_lt_of_le x.left_below l, lt_of_lt_of_le x.right_below l)
reads_inner entries k φ (Or p q) l x = (lt_of_lt_of_le x.left_below l, lt_of_lt_of_le x.right_below l)
reads_inner entries k φ (Next p) l x = lt_of_lt_of_le x.below l
reads_inner entries k φ (WeakNext p) l x = lt_of_lt_of_le x.below l
reads_inner entries k φ (Until p q) l x = (lt_of_lt_of_le x.left_below l, lt_of_lt_of_le x.right_below l)
reads_inner entries k φ (Release p q) l x = (lt_of_lt_of_le x.left_below l, lt_of_lt_of_le x.right_below l)

-- the entries that a pass goes over
abbrev entries_of : Rule → List Formula
entries_of rule = take rule.count rule.entries

pub few : (rule : Rule) → ∥ IsRule rule ∥₁ → rule.count ≤ 64
few rule t = let (φ, n) = known_rule rule t in rule_few rule φ n

pub all_of : (rule : Rule) → ∥ IsRule rule ∥₁ → length (entries_of rule) ≡ rule.count
all_of rule t =
    let (φ, n) = known_rule rule t in
    length-take-le rule.count rule.entries (omega (arith, rule_few rule φ n, rule_long rule φ n))

pub below : (rule : Rule) → ∥ IsRule rule ∥₁ → (k : ℕ) → k < length (entries_of rule) → (k < rule.count) × (k < 64)
below rule t k l = (omega (arith, all_of rule t), omega (arith, all_of rule t, few rule t))

entry_is : (rule : Rule) → ∥ IsRule rule ∥₁ → (k : ℕ) → k < length (entries_of rule) → get_or (entries_of rule) k (Flag 0) ≡ formula_at rule.entries k
entry_is rule t k l = get_or-take rule.count rule.entries k (Flag 0) (below rule t k l).0

pub entry_inner : (rule : Rule) → ∥ IsRule rule ∥₁ → (k : ℕ) → k < length (entries_of rule) → Inner 64 (get_or (entries_of rule) k (Flag 0))
entry_inner rule t k l =
    let (φ, n) = known_rule rule t in
    let ψ = get_or (formulas φ) k one in
    rw (entry_is rule t k l) (reads_inner rule.entries k ψ (formula_at rule.entries k) (omega (arith, below rule t k l))
    (stands_reads rule.entries k ψ ((rule_listed rule φ n).stand k (omega (arith, rule_count rule φ n, below rule t k l)))))

pub some : (rule : Rule) → ∥ IsRule rule ∥₁ → 0 < rule.count
some rule t = let (φ, n) = known_rule rule t in rule_some rule φ n

-- the bits of an entry's parts
module _ (entries : List Formula) (P : Tree → Type 0) (k here : ℕ) (is_mask : MaskOf entries P k here) (φ : Tree) (i : FormulaNo) where
  first_bit : (j : FormulaNo) (f : Tree → Tree → Tree) → (x : Two entries k φ i j f) → T (bit here i.0) ↔ P x.left
  first_bit j f x = is_mask.each i.0 x.left x.left_below x.left_stands

  second_bit : (j : FormulaNo) (f : Tree → Tree → Tree) → (x : Two entries k φ j i f) → T (bit here i.0) ↔ P x.right
  second_bit j f x = is_mask.each i.0 x.right x.right_below x.right_stands

module _ (entries : List Formula) (k here : ℕ) (is_mask : MaskOf entries (λ φ. T (end_yes φ)) k here) (φ : Tree) where
  abbrev first_end : (i j : FormulaNo) (f : Tree → Tree → Tree) → (x : Two entries k φ i j f) → T (bit here i.0) ↔ T (end_yes x.left)
  first_end i j = first_bit entries (λ φ. T (end_yes φ)) k here is_mask φ i j

  abbrev second_end : (i j : FormulaNo) (f : Tree → Tree → Tree) → (x : Two entries k φ i j f) → T (bit here j.0) ↔ T (end_yes x.right)
  second_end i j = second_bit entries (λ φ. T (end_yes φ)) k here is_mask φ j i

  end_reads : (f : Formula) → Reads entries k φ f → T (at_end f here) ↔ T (end_yes φ)
  unfolding end_yes
  end_reads (Flag f) x = rw x.1 Iff.rfl
  end_reads (NotFlag f) x = rw x.1 Iff.rfl
  end_reads True x = rw x Iff.rfl
  end_reads False x = rw x Iff.rfl
  end_reads (And i j) x =
      rw x.whole (Iff.trans (and_means (bit here i.0) (bit here j.0) (first_end i j and x) (second_end i j and x))
      (Iff.symm (T_and (end_yes x.left) (end_yes x.right))))
  end_reads (Or i j) x =
      rw x.whole (Iff.trans (or_means (bit here i.0) (bit here j.0) (first_end i j or x) (second_end i j or x))
      (Iff.symm (T-or (end_yes x.left) (end_yes x.right))))
  end_reads (Next i) x = rw x.whole Iff.rfl
  end_reads (WeakNext i) x = rw x.whole Iff.rfl
  end_reads (Until i j) x = rw x.whole (second_end i j until x)
  end_reads (Release i j) x = rw x.whole (second_end i j release x)

  pub end_says : (b : Bool) → b ≡ at_end (formula_at entries k) here → Stands entries φ k → T b ↔ T (end_yes φ)
  end_says b e s = rw e (end_reads (formula_at entries k) (stands_reads entries k φ s))

-- in a profile, put off to a date that need not be there
pub may_says : (entries : List Formula) (k here : ℕ) (π : Profile) → MaskOf entries (λ φ. Rest π false φ []) k here → (φ : Tree) (b : Bool)
    → b ≡ may_end π (formula_at entries k) here → Stands entries φ k → T b ↔ Rest π false φ []
may_says entries k here Finite is_mask φ b e s =
    Iff.trans (end_says entries k here (mask_iff entries (λ φ. holds φ []) (λ φ. T (end_yes φ)) (λ φ. Iff.symm (end_iff φ)) k here is_mask) φ b e s) (end_iff φ)
may_says entries k here Last is_mask φ b e s = (λ t. tt, λ t. subst⁻¹ T e tt)

-- and to one that has to be there
pub must_mask : (entries : List Formula) (n may : ℕ) (π : Profile) → MaskOf entries (λ φ. Rest π false φ []) n may
    → MaskOf entries (λ φ. Rest π true φ []) n (must_end π may)
must_mask entries n may Finite is_mask = is_mask
must_mask entries n may Last is_mask = record {
  each = λ k φ l s. (λ t. subst T (bit_beyond 0 0 k (omega arith) zero-le) t, λ t. absurd t);
  none = λ k l. bit_beyond 0 0 k (omega arith) zero-le;
}

module _ (entries : List Formula) (π : Profile) (n k d here must may : ℕ) (s : Series)
    (is_mask : MaskOf entries (λ φ. holds_by (dialect π).clauses φ (d ∷ s)) k here)
    (strong : MaskOf entries (λ φ. Rest π true φ s) n must) (lenient : MaskOf entries (λ φ. Rest π false φ s) n may) (l : k < n) (φ : Tree) where
  abbrev Says : Tree → Type 0
  Says φ = holds_by (dialect π).clauses φ (d ∷ s)

  abbrev first_here : (i j : FormulaNo) (f : Tree → Tree → Tree) → (x : Two entries k φ i j f) → T (bit here i.0) ↔ Says x.left
  first_here i j = first_bit entries Says k here is_mask φ i j

  abbrev second_here : (i j : FormulaNo) (f : Tree → Tree → Tree) → (x : Two entries k φ i j f) → T (bit here j.0) ↔ Says x.right
  second_here i j = second_bit entries Says k here is_mask φ j i

  date_reads : (f : Formula) → Reads entries k φ f → Stands entries φ k → T (at_date f k d here must may) ↔ Says φ
  date_reads (Flag f) x t = rw x.1 (Iff.trans (bit_means d f) (Iff.symm ((rests π).at_flag f d s)))
  date_reads (NotFlag f) x t = rw x.1 (Iff.trans (not_means (bit d f)) (Iff.trans (Iff.not (bit_means d f)) (Iff.symm ((rests π).at_not_flag f d s))))
  date_reads True x t = rw x Iff.rfl
  date_reads False x t = rw x Iff.rfl
  date_reads (And i j) x t = rw x.whole (and_means (bit here i.0) (bit here j.0) (first_here i j and x) (second_here i j and x))
  date_reads (Or i j) x t = rw x.whole (or_means (bit here i.0) (bit here j.0) (first_here i j or x) (second_here i j or x))
  date_reads (Next i) x t =
      rw x.whole (Iff.trans (strong.each i.0 x.part (omega arith) x.stands) (Iff.symm ((rests π).at_next x.part d s)))
  date_reads (WeakNext i) x t =
      rw x.whole (Iff.trans (lenient.each i.0 x.part (omega arith) x.stands) (Iff.symm ((rests π).at_weak x.part d s)))
  date_reads (Until i j) x t =
      let again : T (bit must k) ↔ Rest π true (until x.left x.right) s = rw x.whole at (strong.each k φ l t) in
      rw x.whole (Iff.trans (or_means (bit here j.0) (bit here i.0 && bit must k) (second_here i j until x)
      (and_means (bit here i.0) (bit must k) (first_here i j until x) again)) (Iff.symm ((rests π).at_until x.left x.right d s)))
  date_reads (Release i j) x t =
      let again : T (bit may k) ↔ Rest π false (release x.left x.right) s = rw x.whole at (lenient.each k φ l t) in
      rw x.whole (Iff.trans (and_means (bit here j.0) (bit here i.0 || bit may k) (second_here i j release x)
      (or_means (bit here i.0) (bit may k) (first_here i j release x) again)) (Iff.symm ((rests π).at_release x.left x.right d s)))

  pub date_says : (b : Bool) → b ≡ at_date (formula_at entries k) k d here must may → Stands entries φ k → T b ↔ Says φ
  date_says b e t = rw e (date_reads (formula_at entries k) (stands_reads entries k φ t) t)

-- ---- a pass at the end

pub ends_more : (rule : Rule) → ∥ IsRule rule ∥₁ → (k here here' : ℕ) (b : Bool) → k < length (entries_of rule)
    → MaskOf rule.entries (λ φ. Rest rule.profile false φ []) k here → b ≡ may_end rule.profile (get_or (entries_of rule) k (Flag 0)) here
    → ((i : ℕ) → bit here' i ≡ (bit here i || (b && eqb i k))) → MaskOf rule.entries (λ φ. Rest rule.profile false φ []) (k + 1) here'
ends_more rule t k here here' b l is_mask e set =
    mask_more rule.entries (λ φ. Rest rule.profile false φ []) k here here' b
    (λ φ. may_says rule.entries k here rule.profile is_mask φ b (rw (entry_is rule t k l) at e)) is_mask set

-- ---- a pass at a date, whatever is after it

module _ (rule : Rule) (t : ∥ IsRule rule ∥₁) (date must may : ℕ) where
  pub pass_none : PassOver rule date must may 0 0
  pass_none s x y = mask_none rule.entries (λ φ. holds_by (dialect rule.profile).clauses φ (date ∷ s))

  pub pass_more : (k here here' : ℕ) (b : Bool) → k < length (entries_of rule) → PassOver rule date must may k here
      → b ≡ at_date (get_or (entries_of rule) k (Flag 0)) k date here must may
      → ((i : ℕ) → bit here' i ≡ (bit here i || (b && eqb i k))) → PassOver rule date must may (k + 1) here'
  pass_more k here here' b l pass e set s x y =
      mask_more rule.entries (λ φ. holds_by (dialect rule.profile).clauses φ (date ∷ s)) k here here' b
      (λ φ. date_says rule.entries rule.profile rule.count k date here must may s (pass s x y) x y (below rule t k l).0 φ b (rw (entry_is rule t k l) at e))
      (pass s x y) set
