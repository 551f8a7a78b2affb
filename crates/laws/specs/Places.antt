-- Where an element stands first in a list; lists that only grow. `same` tests whether two elements are one. Words to be believed, and laws about
-- them. Assumes nothing.
use Rattle.std.specs.Prelude.{ℕ, zero, suc, ◌≤◌, ◌<◌, ◌≡◌, refl, Bool, true, false, not, cond, ◌||◌, ◌⊎◌, ◌↔◌, List, [], ◌∷◌, ◌++◌, T, length, get_or}
use Rattle.std.proofs.Common.{suc-le-suc, zero-le, not-suc-le-zero, le_of_suc-le-suc, arith, sym, ap, ◌∙◌, subst, inl, inr, ⊎_elim, append-nil, append_assoc, T_not, length-append}
use Rattle.std.proofs.Math.Path.{subst⁻¹}
use Rattle.std.proofs.Math.ListN.{get_or-append}
use Rattle.laws.specs.Decided.{tested, T-or, T_true, T_false}
use Rattle.laws.specs.Lists.{Some, All, In, Once, keep, distinct, front_if, in_at, keep_once, some_keep, some_append, all_to}

-- ---- m is l and more

module _ {A : Type 0} where
  pub record Grows (l m : List A) : Type 0 where
    pub rest : List A
    pub grown : m ≡ l ++ rest

  pub grows_same : (l : List A) → Grows l l
  grows_same l = record { rest = []; grown = sym (append-nil l) }

  pub grows_on : {l m n : List A} → Grows l m → Grows m n → Grows l n
  grows_on {l} g h = record { rest = g.rest ++ h.rest; grown = h.grown ∙ ap (λ x. x ++ h.rest) g.grown ∙ append_assoc l g.rest h.rest }

  pub grows_in : (a : A) {l m : List A} → Grows l m → In a l → In a m
  grows_in a {l} g h = subst⁻¹ (In a) g.grown ((some_append (λ y. a ≡ y) l g.rest).1 (inl h))

  pub grows_at : {l m : List A} (i : ℕ) (d : A) → Grows l m → i < length l → get_or m i d ≡ get_or l i d
  grows_at {l} i d g h = ap (λ x. get_or x i d) g.grown ∙ get_or-append l g.rest d i h

  pub grows_longer : {l m : List A} → Grows l m → length l ≤ length m
  grows_longer {l} g = omega (arith, ap length g.grown, length-append l g.rest)

-- ---- places

module _ {A : Type 0} (same : A → A → Bool) where
  abbrev pub is_in : A → List A → Bool
  is_in a [] = false
  is_in a (x ∷ l) = same a x || is_in a l

  -- the place of the first a; the length where there is none
  abbrev pub place : A → List A → ℕ
  place a [] = 0
  place a (x ∷ l) = cond (same a x) 0 (suc (place a l))

module _ {A : Type 0} (same : A → A → Bool) (same_means : (a b : A) → T (same a b) ↔ (a ≡ b)) where
  pub is_in_means : (a : A) (l : List A) → T (is_in same a l) ↔ In a l
  is_in_means a [] = ((λ u. u), λ u. u)
  is_in_means a (x ∷ l) = (
    (λ u. ⊎_elim (λ p. inl ((same_means a x).0 p)) (λ p. inr ((is_in_means a l).0 p)) ((T-or (same a x) (is_in same a l)).0 u)),
    λ h. (T-or (same a x) (is_in same a l)).1 (⊎_elim (λ e. inl ((same_means a x).1 e)) (λ p. inr ((is_in_means a l).1 p)) h),
  )

  same_true : (a x : A) → same a x ≡ true → a ≡ x
  same_true a x e = (same_means a x).0 (rw e tt)

  pub same_self : (a : A) → same a a ≡ true
  same_self a = T_true {b = same a a} ((same_means a a).1 refl)

  pub same_other : (a x : A) → (a ≡ x → ⊥) → same a x ≡ false
  same_other a x n = T_false {b = same a x} (λ t. n ((same_means a x).0 t))

  later : (a x : A) (l : List A) → same a x ≡ false → In a (x ∷ l) → In a l
  later a x l e (inl p) = absurd (rw e at ((same_means a x).1 p))
  later a x l e (inr p) = p

  -- an element is found at its place
  pub place_found : (a : A) (l : List A) (d : A) → In a l → (place same a l < length l) × (get_or l (place same a l) d ≡ a)
  place_found a [] d h = absurd h
  place_found a (x ∷ l) d h = go (same a x) refl (place_found a l d)
    where
      go : (b : Bool) → same a x ≡ b → (In a l → (place same a l < length l) × (get_or l (place same a l) d ≡ a))
          → (cond b 0 (suc (place same a l)) < suc (length l)) × (get_or (x ∷ l) (cond b 0 (suc (place same a l))) d ≡ a)
      go true e below = (suc-le-suc zero-le, sym (same_true a x e))
      go false e below = let (k, f) = below (later a x l e h) in (suc-le-suc k, f)

  -- and the place stays as the list grows
  pub place_stays : (a : A) (l m : List A) → In a l → place same a (l ++ m) ≡ place same a l
  place_stays a [] m h = absurd h
  place_stays a (x ∷ l) m h = go (same a x) refl (place_stays a l m)
    where
      go : (b : Bool) → same a x ≡ b → (In a l → place same a (l ++ m) ≡ place same a l)
          → cond b 0 (suc (place same a (l ++ m))) ≡ cond b 0 (suc (place same a l))
      go true e below = refl
      go false e below = ap suc (below (later a x l e h))

  -- where none stands twice, what stands at k has place k
  pub place_at : (d : A) (l : List A) → Once l → (k : ℕ) → k < length l → place same (get_or l k d) l ≡ k
  place_at d [] o k h = absurd (not-suc-le-zero h)
  place_at d (x ∷ l) o zero h = rw (same_self x)
  place_at d (x ∷ l) o (suc k) h =
      rw (same_other (get_or l k d) x (λ e. o.0 (subst (λ y. In y l) e (in_at l k d (le_of_suc-le-suc h)))))
      (ap suc (place_at d l o.1 k (le_of_suc-le-suc h)))

  -- an element that is new has the next place
  pub place_new : (x : A) (l : List A) → ¬ In x l → place same x (l ++ (x ∷ [])) ≡ length l
  place_new x [] h = rw (same_self x)
  place_new x (y ∷ l) h = rw (same_other x y (λ e. h (inl e))) (ap suc (place_new x l (λ r. h (inr r))))

  -- ---- each element where it stands first

  pub distinct_once : (l : List A) → Once (distinct same l)
  distinct_once [] = tt
  distinct_once (x ∷ l) = (
    λ h. never (distinct same l) ((some_keep (λ y. x ≡ y) (λ y. not (same x y)) (distinct same l)).0 h),
    keep_once (λ y. not (same x y)) (distinct same l) (distinct_once l),
  )
    where
      never : (r : List A) → Some (λ y. T (not (same x y)) × (x ≡ y)) r → ⊥
      never [] h = h
      never (y ∷ r) (inl c) = T_not (same x y) c.0 ((same_means x y).1 c.1)
      never (y ∷ r) (inr h) = never r h

  pub keep_last : (t : A → Bool) (x : A) (l : List A) → keep t (l ++ (x ∷ [])) ≡ keep t l ++ front_if (t x) x []
  keep_last t x [] = refl
  keep_last t x (y ∷ l) = go (t y) (keep_last t x l)
    where
      go : (b : Bool) → keep t (l ++ (x ∷ [])) ≡ keep t l ++ front_if (t x) x [] → front_if b y (keep t (l ++ (x ∷ []))) ≡ front_if b y (keep t l) ++ front_if (t x) x []
      go true e = ap (λ (r : List A). y ∷ r) e
      go false e = e

  -- one more element: new, or there already
  pub distinct_new : (x : A) (l : List A) → ¬ In x l → distinct same (l ++ (x ∷ [])) ≡ distinct same l ++ (x ∷ [])
  distinct_new x [] h = refl
  distinct_new x (y ∷ l) h =
      ap (λ (r : List A). y ∷ r)
      (ap (keep (λ z. not (same y z))) (distinct_new x l (λ r. h (inr r))) ∙ keep_last (λ z. not (same y z)) x (distinct same l)
      ∙ ap (λ (b : Bool). keep (λ z. not (same y z)) (distinct same l) ++ front_if (not b) x []) (same_other y x (λ e. h (inl (sym e)))))

  pub distinct_old : (x : A) (l : List A) → In x l → distinct same (l ++ (x ∷ [])) ≡ distinct same l
  distinct_old x [] h = absurd h
  distinct_old x (y ∷ l) h = ap (λ (r : List A). y ∷ r) (go (tested (is_in same x l)) h (distinct_old x l))
    where
      go : T (is_in same x l) ⊎ (T (is_in same x l) → ⊥) → (x ≡ y) ⊎ In x l → (In x l → distinct same (l ++ (x ∷ [])) ≡ distinct same l)
          → keep (λ z. not (same y z)) (distinct same (l ++ (x ∷ []))) ≡ keep (λ z. not (same y z)) (distinct same l)
      go (inl t) h old = ap (keep (λ z. not (same y z))) (old ((is_in_means x l).0 t))
      go (inr n) (inr s) old = absurd (n ((is_in_means x l).1 s))
      go (inr n) (inl e) old =
          ap (keep (λ z. not (same y z))) (distinct_new x l (λ s. n ((is_in_means x l).1 s))) ∙ keep_last (λ z. not (same y z)) x (distinct same l)
          ∙ ap (λ (b : Bool). keep (λ z. not (same y z)) (distinct same l) ++ front_if (not b) x []) (ap (same y) e ∙ same_self y)
          ∙ append-nil (keep (λ z. not (same y z)) (distinct same l))

  -- what is there already changes nothing
  pub distinct_olds : (l r : List A) → All (λ x. In x l) r → distinct same (l ++ r) ≡ distinct same l
  distinct_olds l [] h = ap (distinct same) (append-nil l)
  distinct_olds l (x ∷ r) h =
      ap (distinct same) (sym (append_assoc l (x ∷ []) r))
      ∙ distinct_olds (l ++ (x ∷ [])) r (all_to (λ y i. (some_append (λ z. y ≡ z) l (x ∷ [])).1 (inl i)) r h.1) ∙ distinct_old x l h.0

  -- the list of distinct elements only grows
  pub distinct_grows : (l r : List A) → Grows (distinct same l) (distinct same (l ++ r))
  distinct_grows l [] = record { rest = []; grown = ap (distinct same) (append-nil l) ∙ sym (append-nil (distinct same l)) }
  distinct_grows l (x ∷ r) =
      grows_on (one_more (tested (is_in same x l))) (subst (λ m. Grows (distinct same (l ++ (x ∷ []))) (distinct same m)) (append_assoc l (x ∷ []) r) (distinct_grows (l ++ (x ∷ [])) r))
    where
      one_more : T (is_in same x l) ⊎ (T (is_in same x l) → ⊥) → Grows (distinct same l) (distinct same (l ++ (x ∷ [])))
      one_more (inl t) = subst⁻¹ (Grows (distinct same l)) (distinct_old x l ((is_in_means x l).0 t)) (grows_same (distinct same l))
      one_more (inr n) = record { rest = x ∷ []; grown = distinct_new x l (λ i. n ((is_in_means x l).1 i)) }
