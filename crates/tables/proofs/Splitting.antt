-- Choice n of a formula is made of choices of the formulas with lower numbers: for each kind of entry. Assumes nothing.
use Prim.Native.Nat.{ℕ, ◌+◌, ◌-◌, ◌*◌, ◌/◌, ◌%◌, ◌^◌, ◌≤◌, ◌<◌}
use native.Mathlib.Nat.{div-lt_iff_lt-mul, mod-lt}
use native.Mathlib.Omega.{arith}
use mathlib.Core.Path.{◌≡◌, refl, sym, ap, ◌∙◌, subst⁻¹}
use mathlib.Core.Bool.{Bool, true, false}
use mathlib.Core.List.{List}
use lib.Bits.{bit_or}
use lib.ListN.{length, get_or}
use Rattle.meaning.specs.Formula.{Formula as Tree, and, or, until, release}
use Rattle.meaning.specs.Dialect.{dialect}
use Rattle.rule.specs.Numbering.{number, Numbers, formula_at}
use Rattle.rule.specs.declared.FormulaNo.{FormulaNo}
use Rattle.rule.specs.declared.Formula.{Formula}
use Rattle.rule.specs.declared.Formula.TheVariants.{Flag, NotFlag, True, False, And, Or, Next, WeakNext, Until, Release}
use Rattle.rule.specs.declared.Rule.{Rule}
use Rattle.tables.specs.declared.Choice.{Choice}
use Rattle.tables.specs.declared.Parts.TheVariants.{Whole, One, Two}
use Rattle.tables.specs.Choices.{choice, free, join, choices, choices_at, put_off}
use Rattle.tables.specs.Indexing.{factors, join_free}
use Rattle.tables.specs.ByKind.{at_and, at_or_left, at_or_right, at_until_now, at_until_later, at_release_now, at_release_later}
use Rattle.tables.specs.Entries.{formula_no, Binary, number_no}
use Rattle.tables.specs.InnerContracts.{Within, Lower, Splits, SplitsTo}
use Rattle.tables.proofs.Known.{Before}
use Rattle.tables.proofs.Counting.{whole, counted, many_and, many_or, many_until, many_release}

module _ {rule : Rule} {counts : List ℕ} {k : ℕ} (b : Before rule counts k) {n : ℕ} (w : Within rule k n) where
  abbrev at : FormulaNo → ℕ
  at i = get_or counts i.0 0

  -- the number k put off
  abbrev pub put_here : Bool → ℕ → ℕ
  put_here true i = bit_or (2 ^ i) (dialect rule.profile).mark
  put_here false i = 2 ^ i

  module _ (φ : Tree) (num : Numbers rule φ) where
    abbrev put : Bool → Tree → ℕ
    put = put_off rule.profile (number φ)

    abbrev many : ℕ → ℕ
    many i = length (choices_at rule.profile φ i)

    abbrev pick : ℕ → ℕ → Choice
    pick i m = get_or (choices_at rule.profile φ i) m free

    -- a count that is no more than this formula's is exact
    exact : (i : FormulaNo) → i.0 < k → many i.0 ≤ many k → at i ≡ many i.0
    exact i l h = omega (arith, counted b φ num i l, w.few φ num)

    -- this formula put off
    this : (must : Bool) (ψ : Tree) → formula_no φ k ≡ ψ → choice 0 0 (put must ψ) ≡ choice 0 0 (put_here must k)
    this true ψ e = ap (λ (x : ℕ). choice 0 0 (put_here true x)) (ap (number φ) (sym e) ∙ number_no rule φ num k b.below)
    this false ψ e = ap (λ (x : ℕ). choice 0 0 (put_here false x)) (ap (number φ) (sym e) ∙ number_no rule φ num k b.below)

    other : (must : Bool) (i : FormulaNo) → i.0 < k → choice 0 0 (put must (formula_no φ i.0)) ≡ choice 0 0 (put_here must i.0)
    other true i l =
        let h : i.0 < rule.count = omega (arith, b.below) in ap (λ (x : ℕ). choice 0 0 (put_here true x)) (number_no rule φ num i.0 h)
    other false i l =
        let h : i.0 < rule.count = omega (arith, b.below) in ap (λ (x : ℕ). choice 0 0 (put_here false x)) (number_no rule φ num i.0 h)

    -- choice n of this formula, once its kind is known
    pick_of : (ψ : Tree) → formula_no φ k ≡ ψ → pick k n ≡ get_or (choices (put_off rule.profile (number φ)) ψ) n free
    pick_of ψ e = ap (λ (x : Tree). get_or (choices (put_off rule.profile (number φ)) x) n free) e

    -- a formula with one choice
    single : (ψ : Tree) (c : Choice) → formula_no φ k ≡ ψ → length (choices (put_off rule.profile (number φ)) ψ) ≡ 1 → get_or (choices (put_off rule.profile (number φ)) ψ) 0 free ≡ c
        → pick k n ≡ c
    single ψ c e l f =
        let first : n ≡ 0 = omega (arith, w.some φ num, ap (λ (x : Tree). length (choices (put_off rule.profile (number φ)) x)) e) in
        pick_of ψ e ∙ ap (λ (x : ℕ). get_or (choices (put_off rule.profile (number φ)) ψ) x free) first ∙ f

    by_and : (i j : FormulaNo) → Binary φ k i j and → Splits rule.profile φ k n (Two i (n / at j) j (n % at j))
    by_and i j x =
        let m = many_and b φ num i j x in
        let (pa, pb, la, lb) = factors (many i.0) (many j.0) (omega (arith, m, w.some φ num)) in
        let inside : n < many i.0 * many j.0 = omega (arith, m, w.some φ num) in
        subst⁻¹ (λ (y : ℕ). Splits rule.profile φ k n (Two i (n / y) j (n % y))) (exact j x.right_below (omega arith)) (
          record { below = x.left_below; some = (div-lt_iff_lt-mul pb).1 inside; fewer = omega arith },
          record { below = x.right_below; some = mod-lt n pb; fewer = omega arith },
          pick_of _ x.whole ∙ at_and (put_off rule.profile (number φ)) (formula_no φ i.0) (formula_no φ j.0) n inside,
        )

    by_or_left : (i j : FormulaNo) → Binary φ k i j or → n < at i → Splits rule.profile φ k n (One i n free)
    by_or_left i j x l =
        let m = many_or b φ num i j x in
        let e = exact i x.left_below (omega arith) in
        let l' : n < many i.0 = omega arith in (
          record { below = x.left_below; some = l'; fewer = omega arith },
          pick_of _ x.whole ∙ at_or_left (put_off rule.profile (number φ)) (formula_no φ i.0) (formula_no φ j.0) n l' ∙ sym (join_free (pick i.0 n)),
        )

    by_or_right : (i j : FormulaNo) → Binary φ k i j or → at i ≤ n → Splits rule.profile φ k n (One j (n - at i) free)
    by_or_right i j x l =
        let m = many_or b φ num i j x in
        let e = exact i x.left_below (omega arith) in
        subst⁻¹ (λ (y : ℕ). Splits rule.profile φ k n (One j (n - y) free)) e (
          record { below = x.right_below; some = omega (arith, w.some φ num); fewer = omega arith },
          pick_of _ x.whole ∙ at_or_right (put_off rule.profile (number φ)) (formula_no φ i.0) (formula_no φ j.0) n (omega arith)
              ∙ sym (join_free (pick j.0 (n - many i.0))),
        )

    by_until_now : (i j : FormulaNo) → Binary φ k i j until → n < at j → Splits rule.profile φ k n (One j n free)
    by_until_now i j x l =
        let m = many_until b φ num i j x in
        let e = exact j x.right_below (omega arith) in
        let l' : n < many j.0 = omega arith in (
          record { below = x.right_below; some = l'; fewer = omega arith },
          pick_of _ x.whole ∙ at_until_now (put_off rule.profile (number φ)) (formula_no φ i.0) (formula_no φ j.0) n l' ∙ sym (join_free (pick j.0 n)),
        )

    by_until_later : (i j : FormulaNo) → Binary φ k i j until → at j ≤ n → Splits rule.profile φ k n (One i (n - at j) (choice 0 0 (put_here true k)))
    by_until_later i j x l =
        let m = many_until b φ num i j x in
        let e = exact j x.right_below (omega arith) in
        let l' : n - many j.0 < many i.0 = omega (arith, w.some φ num) in
        subst⁻¹ (λ (y : ℕ). Splits rule.profile φ k n (One i (n - y) (choice 0 0 (put_here true k)))) e (
          record { below = x.left_below; some = l'; fewer = omega arith },
          pick_of _ x.whole ∙ at_until_later (put_off rule.profile (number φ)) (formula_no φ i.0) (formula_no φ j.0) n (omega arith) l'
              ∙ ap (join (pick i.0 (n - many j.0))) (this true _ x.whole),
        )

    module _ (i j : FormulaNo) (x : Binary φ k i j release) where
      m : many k ≡ many j.0 * (many i.0 + 1)
      m = many_release b φ num i j x

      sides : (0 < many j.0) × (0 < many i.0 + 1) × (many j.0 ≤ many j.0 * (many i.0 + 1)) × (many i.0 + 1 ≤ many j.0 * (many i.0 + 1))
      sides = factors (many j.0) (many i.0 + 1) (omega (arith, m, w.some φ num))

      each : at i ≡ many i.0
      each = exact i x.left_below (omega (arith, m, sides.3))

      inside : n < many j.0 * (many i.0 + 1)
      inside = omega (arith, m, w.some φ num)

      lower : Lower rule.profile φ k j.0 (n / (many i.0 + 1))
      lower = record { below = x.right_below; some = (div-lt_iff_lt-mul sides.1).1 inside; fewer = omega (arith, m, sides.2) }

      by_release_now : n % (at i + 1) < at i → Splits rule.profile φ k n (Two j (n / (at i + 1)) i (n % (at i + 1)))
      by_release_now l = subst⁻¹ (λ (y : ℕ). n % (y + 1) < y → Splits rule.profile φ k n (Two j (n / (y + 1)) i (n % (y + 1)))) each
          (λ l'. (
            lower,
            record { below = x.left_below; some = l'; fewer = omega (arith, m, sides.3) },
            pick_of _ x.whole ∙ at_release_now (put_off rule.profile (number φ)) (formula_no φ i.0) (formula_no φ j.0) n inside l',
          )) l

      by_release_later : at i ≤ n % (at i + 1) → Splits rule.profile φ k n (One j (n / (at i + 1)) (choice 0 0 (2 ^ k)))
      by_release_later l = subst⁻¹ (λ (y : ℕ). y ≤ n % (y + 1) → Splits rule.profile φ k n (One j (n / (y + 1)) (choice 0 0 (2 ^ k)))) each
          (λ l'. (
            lower,
            pick_of _ x.whole
                ∙ at_release_later (put_off rule.profile (number φ)) (formula_no φ i.0) (formula_no φ j.0) n inside (omega (arith, l', mod-lt n sides.1))
                ∙ ap (join (pick j.0 (n / (many i.0 + 1)))) (this false _ x.whole),
          )) l

  -- ---- what the code finds at an entry

  abbrev Here : Formula → Type 0
  Here f = formula_at rule.entries k ≡ f

  pub split_flag : {f : ℕ} → Here (Flag f) → SplitsTo rule k n (Whole (choice (2 ^ f) 0 0))
  unfolding choices
  split_flag {f} e = record { by = λ φ num. single φ num _ _ (whole b φ num (Flag f) e).1 refl refl }

  pub split_not_flag : {f : ℕ} → Here (NotFlag f) → SplitsTo rule k n (Whole (choice 0 (2 ^ f) 0))
  unfolding choices
  split_not_flag {f} e = record { by = λ φ num. single φ num _ _ (whole b φ num (NotFlag f) e).1 refl refl }

  pub split_true : Here True → SplitsTo rule k n (Whole free)
  unfolding choices
  split_true e = record { by = λ φ num. single φ num _ _ (whole b φ num True e) refl refl }

  pub split_false : Here False → SplitsTo rule k n (Whole free)
  unfolding choices
  split_false e = record {
    by = λ φ num. absurd (omega (arith, w.some φ num, ap (λ (x : Tree). length (choices (put_off rule.profile (number φ)) x)) (whole b φ num False e)));
  }

  pub split_next : {i : FormulaNo} → Here (Next i) → SplitsTo rule k n (Whole (choice 0 0 (put_here true i.0)))
  unfolding choices
  split_next {i} e = record {
    by = λ φ num. let x = whole b φ num (Next i) e in single φ num _ _ x.whole refl (other φ num true i x.below);
  }

  pub split_weak : {i : FormulaNo} → Here (WeakNext i) → SplitsTo rule k n (Whole (choice 0 0 (2 ^ i.0)))
  unfolding choices
  split_weak {i} e = record {
    by = λ φ num. let x = whole b φ num (WeakNext i) e in single φ num _ _ x.whole refl (other φ num false i x.below);
  }

  pub split_and : {i j : FormulaNo} → Here (And i j) → SplitsTo rule k n (Two i (n / at j) j (n % at j))
  split_and {i} {j} e = record { by = λ φ num. by_and φ num i j (whole b φ num (And i j) e) }

  pub split_or_left : {i j : FormulaNo} → Here (Or i j) → n < at i → SplitsTo rule k n (One i n free)
  split_or_left {i} {j} e l = record { by = λ φ num. by_or_left φ num i j (whole b φ num (Or i j) e) l }

  pub split_or_right : {i j : FormulaNo} → Here (Or i j) → at i ≤ n → SplitsTo rule k n (One j (n - at i) free)
  split_or_right {i} {j} e l = record { by = λ φ num. by_or_right φ num i j (whole b φ num (Or i j) e) l }

  pub split_until_now : {i j : FormulaNo} → Here (Until i j) → n < at j → SplitsTo rule k n (One j n free)
  split_until_now {i} {j} e l = record { by = λ φ num. by_until_now φ num i j (whole b φ num (Until i j) e) l }

  pub split_until_later : {i j : FormulaNo} → Here (Until i j) → at j ≤ n → SplitsTo rule k n (One i (n - at j) (choice 0 0 (put_here true k)))
  split_until_later {i} {j} e l = record { by = λ φ num. by_until_later φ num i j (whole b φ num (Until i j) e) l }

  pub split_release_now : {i j : FormulaNo} → Here (Release i j) → n % (at i + 1) < at i → SplitsTo rule k n (Two j (n / (at i + 1)) i (n % (at i + 1)))
  split_release_now {i} {j} e l = record { by = λ φ num. by_release_now φ num i j (whole b φ num (Release i j) e) l }

  pub split_release_later : {i j : FormulaNo} → Here (Release i j) → at i ≤ n % (at i + 1)
      → SplitsTo rule k n (One j (n / (at i + 1)) (choice 0 0 (2 ^ k)))
  split_release_later {i} {j} e l = record { by = λ φ num. by_release_later φ num i j (whole b φ num (Release i j) e) l }

  -- no division by 0, no count that wraps
  pub and_some : {i j : FormulaNo} → Here (And i j) → 0 < at j
  and_some {i} {j} e =
      let (φ, num) = b.is_rule in
      let x = whole b φ num (And i j) e in
      let m = many_and b φ num i j x in
      let (pa, pb, la, lb) = factors (many φ num i.0) (many φ num j.0) (omega (arith, m, w.some φ num)) in
      omega (arith, counted b φ num j x.right_below)

  pub count_small : (i : FormulaNo) → i.0 < k → at i ≤ 1025
  count_small i l = let (φ, num) = b.is_rule in omega (arith, counted b φ num i l)
