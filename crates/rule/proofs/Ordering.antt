-- Inner before outer: the parts of a formula have smaller numbers than the formula. Assumes nothing.
use Prim.Native.Nat.{ℕ, zero, suc, ◌<◌, suc-le-suc, zero-le}
use Rattle.std.proofs.Common.{not-suc-le-zero, le_of_suc-le-suc, arith, ◌∙◌, inl, inr, ⊎_elim, length-append}
use Rattle.std.proofs.Math.Numerals.{add-one}
use Rattle.std.specs.Prelude.{◌≡◌, Bool, true, false, not, ◌⊎◌, ◌↔◌, T, get_or}
use Rattle.std.proofs.Math.Path.{sym, ap, subst}
use mathlib.Core.List.{List, [], ◌∷◌, ◌++◌}
use Rattle.std.proofs.Math.ListN.{length}
use Rattle.laws.specs.Decided.{test_means}
use Rattle.laws.specs.Lists.{All, In, Once, some_to, all_to, all_from, keep, front_if, distinct, distinct_iff}
use Rattle.laws.specs.Places.{place, place_found, place_at, place_new, distinct_once, distinct_new}
use Rattle.meaning.specs.Formula.{Formula as Tree, Formula-discrete, one}
use Rattle.rule.specs.Numbering.{parts, same_tree, formulas, number}
use Rattle.rule.specs.Trees.{Shape, alone, over, both, shape, inner, inner_of, Under, tree_ind}
use Rattle.rule.proofs.TreesLaws.{parts_inner, not_inner}

pub same_tree_means : (φ ψ : Tree) → T (same_tree φ ψ) ↔ (φ ≡ ψ)
same_tree_means φ ψ = test_means (Formula-discrete φ ψ)

-- ---- the numbers of a formula's parts

module _ (φ : Tree) where
  pub formulas_once : Once (formulas φ)
  unfolding formulas
  formulas_once = distinct_once same_tree same_tree_means (parts φ)

  pub formulas_in : (ψ : Tree) → In ψ (formulas φ) ↔ In ψ (parts φ)
  unfolding formulas
  formulas_in ψ = distinct_iff (λ χ. ψ ≡ χ) same_tree same_tree_means (parts φ)

  -- a part stands at its number
  pub number_stands : (ψ : Tree) → In ψ (parts φ) → (number φ ψ < length (formulas φ)) × (get_or (formulas φ) (number φ ψ) one ≡ ψ)
  unfolding number
  number_stands ψ h = place_found same_tree same_tree_means ψ (formulas φ) one ((formulas_in ψ).1 h)

  -- what stands at k has number k
  pub number_at : (k : ℕ) → k < length (formulas φ) → number φ (get_or (formulas φ) k one) ≡ k
  unfolding number
  number_at k h = place_at same_tree same_tree_means one (formulas φ) formulas_once k h

  -- the whole stands last
  pub formulas_whole : formulas φ ≡ distinct same_tree (inner φ) ++ (φ ∷ [])
  unfolding formulas
  formulas_whole = ap (distinct same_tree) (parts_inner φ) ∙ distinct_new same_tree same_tree_means φ (inner φ) (not_inner φ)

  pub number_whole : suc (number φ φ) ≡ length (formulas φ)
  unfolding number
  number_whole =
      subst (λ (l : List Tree). suc (place same_tree φ l) ≡ length l) (sym formulas_whole)
      (ap suc (place_new same_tree same_tree_means φ (distinct same_tree (inner φ))
      (λ h. not_inner φ ((distinct_iff (λ χ. φ ≡ χ) same_tree same_tree_means (inner φ)).0 h)))
      ∙ sym (length-append (distinct same_tree (inner φ)) (φ ∷ []) ∙ add-one (length (distinct same_tree (inner φ)))))

-- ---- inner before outer

-- the parts of each formula of the list stand before it, or are in `seen`
abbrev Built : List Tree → List Tree → Type 0
Built seen [] = Unit {0}
Built seen (φ ∷ l) = All (λ ψ. In ψ seen) (inner φ) × Built (φ ∷ seen) l

built_more : (seen seen' l : List Tree) → ((ψ : Tree) → In ψ seen → In ψ seen') → Built seen l → Built seen' l
built_more seen seen' [] f b = tt
built_more seen seen' (φ ∷ l) f b = (all_to f (inner φ) b.0, built_more (φ ∷ seen) (φ ∷ seen') l (λ ψ. ⊎_elim inl (λ s. inr (f ψ s))) b.1)

built_append : (seen l r : List Tree) → Built seen l
    → ((seen' : List Tree) → ((ψ : Tree) → In ψ seen ⊎ In ψ l → In ψ seen') → Built seen' r) → Built seen (l ++ r)
built_append seen [] r b f = f seen (λ ψ. ⊎_elim (λ s. s) (λ h. absurd h))
built_append seen (φ ∷ l) r b f = (
  b.0,
  built_append (φ ∷ seen) l r b.1
      (λ seen' g. f seen' (λ ψ. ⊎_elim (λ s. g ψ (inl (inr s))) (⊎_elim (λ e. g ψ (inl (inl e))) (λ a. g ψ (inr a))))),
)

inner_built : (s : Shape) (seen : List Tree) → Under (λ φ. (seen : List Tree) → Built seen (parts φ)) s → Built seen (inner_of s)
inner_built alone seen h = tt
inner_built (over p) seen h = h seen
inner_built (both p q) seen h = built_append seen (parts p) (parts q) (h.0 seen) (λ seen' g. h.1 seen')

parts_built : (φ : Tree) (seen : List Tree) → Built seen (parts φ)
parts_built = tree_ind (λ φ. (seen : List Tree) → Built seen (parts φ)) (λ φ h seen.
    subst (Built seen) (sym (parts_inner φ)) (built_append seen (inner φ) (φ ∷ []) (inner_built (shape φ) seen h)
    (λ seen' g. (all_from (λ ψ. In ψ seen') (inner φ) (λ ψ i. g ψ (inr i)), tt))))

keep_built : (t : Tree → Bool) (seen l : List Tree) → ((φ : Tree) → T (not (t φ)) → In φ seen) → Built seen l → Built seen (keep t l)
keep_built t seen [] out b = tt
keep_built t seen (φ ∷ l) out b = go (t φ) (out φ) (λ s o c. keep_built t s l o c)
  where
    go : (k : Bool) → (T (not k) → In φ seen) → ((s : List Tree) → ((ψ : Tree) → T (not (t ψ)) → In ψ s) → Built s l → Built s (keep t l))
        → Built seen (front_if k φ (keep t l))
    go true o f = (b.0, f (φ ∷ seen) (λ ψ h. inr (out ψ h)) b.1)
    go false o f = f seen out (built_more (φ ∷ seen) seen l (λ ψ. ⊎_elim (λ e. some_to (λ χ p. e ∙ p) seen (o tt)) (λ s. s)) b.1)

distinct_built : (l seen : List Tree) → Built seen l → Built seen (distinct same_tree l)
distinct_built [] seen b = tt
distinct_built (φ ∷ l) seen b =
    (b.0, keep_built (λ ψ. not (same_tree φ ψ)) (φ ∷ seen) (distinct same_tree l) (λ ψ t. inl (sym ((same_tree_means φ ψ).0 (back (same_tree φ ψ) t)))) (distinct_built l (φ ∷ seen) b.1))
  where
    back : (b : Bool) → T (not (not b)) → T b
    back true t = tt
    back false t = t

-- the parts of the formula that stands at k stand before k
built_at : (seen l : List Tree) → Built seen l → (k : ℕ) → k < length l
    → All (λ ψ. In ψ seen ⊎ ((i : ℕ) × (i < k) × (get_or l i one ≡ ψ))) (inner (get_or l k one))
built_at seen [] b k h = absurd (not-suc-le-zero h)
built_at seen (φ ∷ l) b zero h = all_to (λ ψ. inl) (inner φ) b.0
built_at seen (φ ∷ l) b (suc k) h =
    all_to (λ ψ. ⊎_elim (⊎_elim (λ e. inr (0, suc-le-suc zero-le, sym e)) inl) (λ (i, m, e). inr (suc i, suc-le-suc m, e))) (inner (get_or l k one))
    (built_at (φ ∷ seen) l b.1 k (le_of_suc-le-suc h))

formulas_built : (φ : Tree) → Built [] (formulas φ)
unfolding formulas
formulas_built φ = distinct_built (parts φ) [] (parts_built φ [])

-- the parts of the formula with number k have lower numbers, and stand there
pub number_inner : (φ : Tree) (k : ℕ) → k < length (formulas φ) → All (λ ψ. (number φ ψ < k) × (get_or (formulas φ) (number φ ψ) one ≡ ψ)) (inner (get_or (formulas φ) k one))
number_inner φ k h =
    all_to (λ ψ. ⊎_elim (λ s. absurd s) (λ (i, m, e). less ψ i m e)) (inner (get_or (formulas φ) k one)) (built_at [] (formulas φ) (formulas_built φ) k h)
  where
    less : (ψ : Tree) (i : ℕ) → i < k → get_or (formulas φ) i one ≡ ψ → (number φ ψ < k) × (get_or (formulas φ) (number φ ψ) one ≡ ψ)
    less ψ i m e =
        let f : number φ ψ ≡ i = ap (number φ) (sym e) ∙ number_at φ i (omega arith) in
        (subst (λ (n : ℕ). n < k) (sym f) m, ap (λ (n : ℕ). get_or (formulas φ) n one) f ∙ e)
