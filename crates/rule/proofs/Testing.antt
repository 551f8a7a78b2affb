-- One visit, put together from those of its parts and from the formula's own turn. Assumes nothing.
use Rattle.std.specs.Prelude.{ℕ, ◌+◌, ◌≤◌, ◌<◌, ◌≡◌, refl, ◌⊎◌, List, Option, Some, None}
use Rattle.std.proofs.Common.{sym, subst, inl, inr, arith}
use Rattle.rule.specs.Numbering.{formula_at}
use Rattle.rule.specs.Visiting.{parts_of, Visits, VisitIs, OwnIs, taken, alone, over, both}
use Rattle.rule.proofs.VisitedLaws.{visits_end}
use Rattle.rule.specs.declared.FormulaNo.{FormulaNo}
use Rattle.rule.specs.declared.Formula.{Formula}
use Rattle.rule.specs.declared.Parts.TheVariants as parts

-- a visit has one end
visits_one : {entries : List Formula} {k next m n : ℕ} → Visits entries k next m → Visits entries k next n → m ≡ n
visits_one {k = k} {next = next} {m = m} {n = n} v w = go (visits_end v) (visits_end w)
  where
    go : ((k < next) × (m ≡ next)) ⊎ ((next ≤ k) × (m ≡ k + 1)) → ((k < next) × (n ≡ next)) ⊎ ((next ≤ k) × (n ≡ k + 1)) → m ≡ n
    go (inl h) (inl g) = omega arith
    go (inl h) (inr g) = omega arith
    go (inr h) (inl g) = omega arith
    go (inr h) (inr g) = omega arith

-- ---- how a visit of a new number went, by the parts of its entry

clash : {A : Type 0} → ◌≡◌ {A = ℕ} 0 1 → A
clash e = absurd (omega arith)

inner_alone : {entries : List Formula} {k next m : ℕ} → next ≤ k → parts_of (formula_at entries k) ≡ Some parts.Nothing → Visits entries k next m → k ≡ next
inner_alone new e (taken h) = absurd (omega arith)
inner_alone new e (alone p) = refl
inner_alone new e (over i p h l v) = clash (cc)
inner_alone new e (both i j p h l n v w) = clash (cc)

inner_over : {entries : List Formula} {k next m : ℕ} → next ≤ k → (i : FormulaNo) → parts_of (formula_at entries k) ≡ Some (parts.One i)
    → Visits entries k next m → Visits entries i.0 next k
inner_over new i e (taken h) = absurd (omega arith)
inner_over new i e (alone p) = clash (cc)
inner_over {entries = entries} {k = k} {next = next} new i e (over j p h l v) =
    let g : j ≡ i = cc in subst (λ (x : FormulaNo). Visits entries x.0 next k) g v
inner_over new i e (both x y p h l n v w) = clash (cc)

inner_both : {entries : List Formula} {k next m : ℕ} → next ≤ k → (i j : FormulaNo) → parts_of (formula_at entries k) ≡ Some (parts.Two i j)
    → Visits entries k next m → (j.0 < k) × ((n : ℕ) × Visits entries i.0 next n × Visits entries j.0 n k)
inner_both new i j e (taken h) = absurd (omega arith)
inner_both new i j e (alone p) = clash (cc)
inner_both new i j e (over x p h l v) = clash (cc)
inner_both {entries = entries} {k = k} {next = next} new i j e (both {m = m} x y p h l n v w) =
    let f : x ≡ i = cc in
    let g : y ≡ j = cc in (
      subst (λ (x : FormulaNo). x.0 < k) g n,
      (m, subst (λ (x : FormulaNo). Visits entries x.0 next m) f v, subst (λ (x : FormulaNo). Visits entries x.0 m k) g w),
    )

-- ---- the laws that answer the code

module _ {entries : List Formula} {k next : ℕ} (new : next ≤ k) where
  pub visit_alone : parts_of (formula_at entries k) ≡ Some parts.Nothing → (v : Option ℕ) → OwnIs k next v → VisitIs entries k next v
  visit_alone e (Some m) o = record { visits = subst (Visits entries k next) (sym o.owns.1) (subst (λ (i : ℕ). Visits entries k i (k + 1)) o.owns.0 (alone e)) }
  visit_alone e None o = record { visits = λ m v. o.owns (inner_alone new e v) }

  pub visit_over : (i : FormulaNo) → parts_of (formula_at entries k) ≡ Some (parts.One i) → {at m : ℕ} → (i.0 < k) × (at ≡ i.0)
      → VisitIs entries at next (Some m) → (v : Option ℕ) → OwnIs k m v → VisitIs entries k next v
  visit_over i e {m = m} (l, at) h v o = go v o
    where
      part : Visits entries i.0 next m
      part = subst (λ (x : ℕ). Visits entries x next m) at h.visits

      go : (v : Option ℕ) → OwnIs k m v → VisitIs entries k next v
      go (Some n) o = record { visits = subst (Visits entries k next) (sym o.owns.1) (over i e new l (subst (Visits entries i.0 next) (sym o.owns.0) part)) }
      go None o = record { visits = λ n v. o.owns (visits_one (inner_over new i e v) part) }

  module _ (i j : FormulaNo) (e : parts_of (formula_at entries k) ≡ Some (parts.Two i j)) where
    pub right_high : (j.0 < k → ⊥) → VisitIs entries k next None
    right_high h = record { visits = λ m v. h (inner_both new i j e v).0 }

    pub left_failed : {a : ℕ} → a ≡ i.0 → VisitIs entries a next None → VisitIs entries k next None
    left_failed a h = record { visits = λ m v. let (n, x, y) = (inner_both new i j e v).1 in h.visits n (subst (λ (x : ℕ). Visits entries x next n) (sym a) x) }

    module _ {a b m : ℕ} (a-is : (i.0 < k) × (a ≡ i.0)) (b-is : (j.0 < k) × (b ≡ j.0)) (h : VisitIs entries a next (Some m)) where
      left : Visits entries i.0 next m
      left = subst (λ (x : ℕ). Visits entries x next m) a-is.1 h.visits

      right : {n : ℕ} → Visits entries k next n → Visits entries j.0 m k
      right v = let (n, x, y) = (inner_both new i j e v).1 in subst (λ (x : ℕ). Visits entries j.0 x k) (visits_one x left) y

      pub right_failed : VisitIs entries b m None → VisitIs entries k next None
      right_failed g = record { visits = λ n v. g.visits k (subst (λ (x : ℕ). Visits entries x m k) (sym b-is.1) (right v)) }

      pub visit_both : {n : ℕ} → VisitIs entries b m (Some n) → (v : Option ℕ) → OwnIs k n v → VisitIs entries k next v
      visit_both {n} g v o = go v o
        where
          part : Visits entries j.0 m n
          part = subst (λ (x : ℕ). Visits entries x m n) b-is.1 g.visits

          go : (v : Option ℕ) → OwnIs k n v → VisitIs entries k next v
          go (Some x) o = record { visits = subst (Visits entries k next) (sym o.owns.1) (both i j e new a-is.0 b-is.0 left (subst (Visits entries j.0 m) (sym o.owns.0) part)) }
          go None o = record { visits = λ n v. o.owns (visits_one (right v) part) }
