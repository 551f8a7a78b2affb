-- A formula and its parts: the whole stands behind its parts. Assumes nothing.
use Rattle.std.specs.Prelude.{ℕ, ◌+◌, ◌≤◌, ◌<◌, ◌≡◌, refl, [], ◌∷◌, ◌++◌, length}
use Rattle.std.proofs.Common.{arith, sym, ap, ◌∙◌, subst, inl, inr, length-append}
use Rattle.laws.specs.Lists.{All, In, all_append, all_to, all_at, some_append}
use Rattle.meaning.specs.Formula.{Formula as Tree, flag, not_flag, one, zero, and, or, next, weak, until, release}
use Rattle.rule.specs.Numbering.{parts}
use Rattle.rule.specs.Trees.{Shape, alone, over, both, shape, Under, tree_ind, inner_of, inner}

pub parts_inner : (φ : Tree) → parts φ ≡ inner φ ++ (φ ∷ [])
parts_inner (flag k) = refl
parts_inner (not_flag k) = refl
parts_inner one = refl
parts_inner zero = refl
parts_inner (and p q) = refl
parts_inner (or p q) = refl
parts_inner (next p) = refl
parts_inner (weak p) = refl
parts_inner (until p q) = refl
parts_inner (release p q) = refl

-- ---- what is true of a formula's parts

module _ (A : Tree → Type 0) where
  pub all_parts : (φ : Tree) → All A (parts φ) → All A (inner φ) × A φ
  all_parts φ h = let j = (all_append A (inner φ) (φ ∷ [])).0 (subst (All A) (parts_inner φ) h) in (j.0, j.1.0)

  pub parts_all : (φ : Tree) → All A (inner φ) → A φ → All A (parts φ)
  parts_all φ h a = subst (All A) (sym (parts_inner φ)) ((all_append A (inner φ) (φ ∷ [])).1 (h, (a, tt)))

  -- A of the parts of each part
  under_inner : (s : Shape) → Under (λ ψ. All A (parts ψ)) s → All A (inner_of s)
  under_inner alone h = tt
  under_inner (over p) h = h
  under_inner (both p q) h = (all_append A (parts p) (parts q)).1 h

  inner_under : (s : Shape) → All A (inner_of s) → Under (λ ψ. All A (parts ψ)) s
  inner_under alone h = tt
  inner_under (over p) h = h
  inner_under (both p q) h = (all_append A (parts p) (parts q)).0 h

  pub all_under : (φ : Tree) → All A (parts φ) → Under (λ ψ. All A (parts ψ)) (shape φ)
  all_under φ h = inner_under (shape φ) (all_parts φ h).0

-- ---- a formula is more than its parts

abbrev size : Tree → ℕ
size φ = length (parts φ)

size_suc : (φ : Tree) → size φ ≡ length (inner φ) + 1
size_suc φ = ap length (parts_inner φ) ∙ length-append (inner φ) (φ ∷ [])

Small : Tree → Type 0
Small φ = All (λ ψ. size ψ ≤ size φ) (parts φ)

smaller : (s : Shape) (n : ℕ) → length (inner_of s) < n → Under Small s → All (λ ψ. size ψ < n) (inner_of s)
unfolding Small
smaller alone n l h = tt
smaller (over p) n l h = all_to (λ ψ k. omega arith) (parts p) h
smaller (both p q) n l h =
    let e : length (parts p ++ parts q) ≡ length (parts p) + length (parts q) = length-append (parts p) (parts q) in
    (all_append (λ ψ. size ψ < n) (parts p) (parts q)).1 (all_to (λ ψ k. omega arith) (parts p) h.0, all_to (λ ψ k. omega arith) (parts q) h.1)

small : (φ : Tree) → Small φ
unfolding Small
small = tree_ind Small (λ φ h.
    let l : length (inner φ) < size φ = omega (arith, size_suc φ) in
    parts_all (λ ψ. size ψ ≤ size φ) φ (all_to (λ ψ k. omega arith) (inner φ) (smaller (shape φ) (size φ) l h)) (omega arith))

under_small : (s : Shape) → Under Small s
under_small alone = tt
under_small (over p) = small p
under_small (both p q) = (small p, small q)

pub inner_smaller : (φ : Tree) → All (λ ψ. length (parts ψ) < length (parts φ)) (inner φ)
inner_smaller φ = smaller (shape φ) (size φ) (omega (arith, size_suc φ)) (under_small (shape φ))

-- no formula is a part of its parts
pub not_inner : (φ : Tree) → In φ (inner φ) → ⊥
not_inner φ h = let l : size φ < size φ = all_at (λ ψ. size ψ < size φ) (inner φ) (inner_smaller φ) φ h in omega arith

pub whole_in : (φ : Tree) → In φ (parts φ)
whole_in φ = subst (In φ) (sym (parts_inner φ)) ((some_append (λ ψ. φ ≡ ψ) (inner φ) (φ ∷ [])).1 (inr (inl refl)))

-- the parts of a part are parts
pub parts_closed : (A : Tree → Type 0) (φ : Tree) → All A (parts φ) → All (λ ψ. All A (parts ψ)) (parts φ)
parts_closed A = tree_ind (λ φ. All A (parts φ) → All (λ ψ. All A (parts ψ)) (parts φ)) (λ φ h a.
    parts_all (λ ψ. All A (parts ψ)) φ (under_inner (λ ψ. All A (parts ψ)) (shape φ) (go (shape φ) h (all_under A φ a))) a)
  where
    go : (s : Shape) → Under (λ φ. All A (parts φ) → All (λ ψ. All A (parts ψ)) (parts φ)) s → Under (λ ψ. All A (parts ψ)) s
        → Under (λ φ. All (λ ψ. All A (parts ψ)) (parts φ)) s
    go alone h a = tt
    go (over p) h a = h a
    go (both p q) h a = (h.0 a.0, h.1 a.1)
