-- Some or all elements of a list; lists with elements left out, and lists in which none stands twice. Words to be believed, and laws about them.
-- Assumes nothing.
use Prim.Native.Nat.{ℕ, zero, suc, ◌+◌, ◌-◌, ◌≤◌, ◌<◌, suc-le-suc, zero-le}
use Rattle.std.proofs.Common.{not-suc-le-zero, le_of_suc-le-suc, arith, ◌∙◌, subst, ⊎_elim, get_or-drop, drop-drop, drop-set-lt}
use Rattle.std.specs.Prelude.{◌≡◌, Bool, true, false, not, ◌&&◌, ◌↔◌, ◌⊎◌, T, length, get_or, set, drop}
use Rattle.std.proofs.Math.Path.{refl, sym, ap}
use Rattle.std.proofs.Math.Logic.{inl, inr}
use Rattle.std.proofs.Math.Logic.Iff
use mathlib.Core.List.{List, [], ◌∷◌, ◌++◌, map}
use Rattle.std.proofs.Math.Dec.{not_T}
use Rattle.laws.specs.Decided.{or_iff, T_and, tested}

module _ {A : Type 0} where
  -- P is true of some element
  abbrev pub Some : (A → Type 0) → List A → Type 0
  Some P [] = ⊥
  Some P (x ∷ l) = P x ⊎ Some P l

  -- P is true of every element
  abbrev pub All : (A → Type 0) → List A → Type 0
  All P [] = Unit {0}
  All P (x ∷ l) = P x × All P l

  abbrev pub every : (A → Bool) → List A → Bool
  every t [] = true
  every t (x ∷ l) = t x && every t l

  -- x in front, where the test passed
  abbrev pub front_if : Bool → A → List A → List A
  front_if true x l = x ∷ l
  front_if false x l = l

  -- the elements that pass a test
  abbrev pub keep : (A → Bool) → List A → List A
  keep t [] = []
  keep t (x ∷ l) = front_if (t x) x (keep t l)

  -- each element where it stands first
  abbrev pub distinct : (A → A → Bool) → List A → List A
  distinct same [] = []
  distinct same (x ∷ l) = x ∷ keep (λ y. not (same x y)) (distinct same l)

  -- a is one of the elements
  abbrev pub In : A → List A → Type 0
  In a l = Some (λ y. a ≡ y) l

  -- no element stands twice
  abbrev pub Once : List A → Type 0
  Once [] = Unit {0}
  Once (x ∷ l) = (¬ In x l) × Once l

  -- ---- laws

  pub some_to : {P Q : A → Type 0} → ((x : A) → P x → Q x) → (l : List A) → Some P l → Some Q l
  some_to f [] h = h
  some_to f (x ∷ l) (inl p) = inl (f x p)
  some_to f (x ∷ l) (inr h) = inr (some_to f l h)

  pub some_iff : {P Q : A → Type 0} → ((x : A) → P x ↔ Q x) → (l : List A) → Some P l ↔ Some Q l
  some_iff e l = (some_to (λ x. (e x).0) l, some_to (λ x. (e x).1) l)

  -- it is enough that P and Q agree on the elements
  pub some_iff_in : (P Q : A → Type 0) (l : List A) → All (λ x. P x ↔ Q x) l → Some P l ↔ Some Q l
  some_iff_in P Q [] e = Iff.rfl
  some_iff_in P Q (x ∷ l) e = or_iff e.0 (some_iff_in P Q l e.1)

  pub all_to : {P Q : A → Type 0} → ((x : A) → P x → Q x) → (l : List A) → All P l → All Q l
  all_to f [] h = tt
  all_to f (x ∷ l) h = (f x h.0, all_to f l h.1)

  pub all_iff : {P Q : A → Type 0} → ((x : A) → P x ↔ Q x) → (l : List A) → All P l ↔ All Q l
  all_iff e [] = Iff.rfl
  all_iff e (x ∷ l) = Iff.and (e x) (all_iff e l)

  pub every_iff : (P : A → Type 0) (t : A → Bool) → ((x : A) → T (t x) ↔ P x) → (l : List A) → T (every t l) ↔ All P l
  every_iff P t e [] = Iff.rfl
  every_iff P t e (x ∷ l) = Iff.trans (T_and (t x) (every t l)) (Iff.and (e x) (every_iff P t e l))

  module _ (P : A → Type 0) where
    pub some_only : (x : A) → Some P (x ∷ []) ↔ P x
    some_only x = (⊎_elim (λ p. p) (λ h. absurd h), inl)

    pub all_append : (l r : List A) → All P (l ++ r) ↔ (All P l × All P r)
    all_append [] r = (λ h. (tt, h), λ h. h.1)
    all_append (x ∷ l) r =
        (λ h. ((h.0, ((all_append l r).0 h.1).0), ((all_append l r).0 h.1).1), λ h. (h.0.0, (all_append l r).1 (h.0.1, h.1)))

    pub some_append : (l r : List A) → Some P (l ++ r) ↔ (Some P l ⊎ Some P r)
    some_append [] r = (inr, ⊎_elim (λ h. absurd h) (λ h. h))
    some_append (x ∷ l) r = (
      ⊎_elim (λ p. inl (inl p)) (λ h. ⊎_elim (λ a. inl (inr a)) inr ((some_append l r).0 h)),
      ⊎_elim (⊎_elim inl (λ a. inr ((some_append l r).1 (inl a)))) (λ b. inr ((some_append l r).1 (inr b))),
    )

    -- a fact beside each element
    pub some_beside : (X : Type 0) (l : List A) → Some (λ x. X × P x) l ↔ (X × Some P l)
    some_beside X [] = (λ h. absurd h, λ h. h.1)
    some_beside X (x ∷ l) = (
      ⊎_elim (λ h. (h.0, inl h.1)) (λ h. (((some_beside X l).0 h).0, inr ((some_beside X l).0 h).1)),
      λ h. ⊎_elim (λ p. inl (h.0, p)) (λ r. inr ((some_beside X l).1 (h.0, r))) h.1,
    )

    pub some_front : (b : Bool) (x : A) (l : List A) → Some P (front_if b x l) ↔ ((T b × P x) ⊎ Some P l)
    some_front true x l = or_iff (λ p. (tt, p), λ h. h.1) Iff.rfl
    some_front false x l = (inr, ⊎_elim (λ h. absurd h.0) (λ h. h))

    pub all_front : (b : Bool) (x : A) (l : List A) → All P (front_if b x l) ↔ ((T b → P x) × All P l)
    all_front true x l = Iff.and (λ p t. p, λ f. f tt) Iff.rfl
    all_front false x l = (λ h. (λ t. absurd t, h), λ h. h.1)

    pub some_keep : (t : A → Bool) (l : List A) → Some P (keep t l) ↔ Some (λ x. T (t x) × P x) l
    some_keep t [] = Iff.rfl
    some_keep t (x ∷ l) = Iff.trans (some_front (t x) x (keep t l)) (or_iff Iff.rfl (some_keep t l))

    pub all_keep : (t : A → Bool) (l : List A) → All P l → All P (keep t l)
    all_keep t [] h = tt
    all_keep t (x ∷ l) h = (all_front (t x) x (keep t l)).1 (λ b. h.0, all_keep t l h.1)

    pub all_distinct : (same : A → A → Bool) (l : List A) → All P l → All P (distinct same l)
    all_distinct same [] h = tt
    all_distinct same (x ∷ l) h = (h.0, all_keep (λ y. not (same x y)) (distinct same l) (all_distinct same l h.1))

    -- a test that every element in question passes loses none
    pub keep_iff : (t : A → Bool) → ((x : A) → P x → T (t x)) → (l : List A) → Some P (keep t l) ↔ Some P l
    keep_iff t h l = Iff.trans (some_keep t l) (some_iff (λ x. (λ c. c.1, λ p. (h x p, p))) l)

    -- what passes `same` is one element
    module _ (same : A → A → Bool) (same_means : (a b : A) → T (same a b) ↔ (a ≡ b)) where
      -- an element in question is x, or another one
      apart : (x : A) (l : List A) → Some P l → P x ⊎ Some (λ y. T (not (same x y)) × P y) l
      apart x [] h = absurd h
      apart x (y ∷ l) (inl p) = ⊎_elim (λ t. inl (subst P (sym ((same_means x y).0 t)) p)) (λ n. inr (inl (not_T (same x y) n, p))) (tested (same x y))
      apart x (y ∷ l) (inr h) = ⊎_elim inl (λ r. inr (inr r)) (apart x l h)

      pub distinct_iff : (l : List A) → Some P (distinct same l) ↔ Some P l
      distinct_iff [] = Iff.rfl
      distinct_iff (x ∷ l) =
          Iff.trans (or_iff Iff.rfl (some_keep (λ y. not (same x y)) (distinct same l))) (
            ⊎_elim inl (λ h. inr ((distinct_iff l).0 (some_to (λ y c. c.1) (distinct same l) h))),
            ⊎_elim inl (λ h. apart x (distinct same l) ((distinct_iff l).1 h)),
          )

pub some_map : {A B : Type 0} (P : B → Type 0) (f : A → B) (l : List A) → Some P (map f l) ↔ Some (λ x. P (f x)) l
some_map P f [] = Iff.rfl
some_map P f (x ∷ l) = or_iff Iff.rfl (some_map P f l)

pub all_map : {A B : Type 0} (P : B → Type 0) (f : A → B) (l : List A) → All P (map f l) ↔ All (λ x. P (f x)) l
all_map P f [] = Iff.rfl
all_map P f (x ∷ l) = Iff.and Iff.rfl (all_map P f l)

-- ---- elements by their place

module _ {A : Type 0} where
  pub in_at : (l : List A) (i : ℕ) (d : A) → i < length l → In (get_or l i d) l
  in_at [] i d h = absurd (not-suc-le-zero h)
  in_at (x ∷ l) zero d h = inl refl
  in_at (x ∷ l) (suc i) d h = inr (in_at l i d (le_of_suc-le-suc h))

  pub at_in : (a : A) (l : List A) (d : A) → In a l → (i : ℕ) × (i < length l) × (get_or l i d ≡ a)
  at_in a [] d h = absurd h
  at_in a (x ∷ l) d (inl e) = (0, suc-le-suc zero-le, sym e)
  at_in a (x ∷ l) d (inr h) = let (i, k, e) = at_in a l d h in (suc i, suc-le-suc k, e)

  pub all_from : (P : A → Type 0) (l : List A) → ((x : A) → In x l → P x) → All P l
  all_from P [] f = tt
  all_from P (x ∷ l) f = (f x (inl refl), all_from P l (λ y h. f y (inr h)))

  pub all_at : (P : A → Type 0) (l : List A) → All P l → (x : A) → In x l → P x
  all_at P [] h x s = absurd s
  all_at P (y ∷ l) h x (inl e) = subst P (sym e) h.0
  all_at P (y ∷ l) h x (inr s) = all_at P l h.1 x s

  -- one more behind
  pub last_once : (x : A) (l : List A) → Once l → ¬ In x l → Once (l ++ (x ∷ []))
  last_once x [] o n = (λ h. h, tt)
  last_once x (y ∷ l) o n =
      (λ h. ⊎_elim o.0 (⊎_elim (λ e. n (inl (sym e))) (λ b. b)) ((some_append (λ z. y ≡ z) l (x ∷ [])).0 h), last_once x l o.1 (λ h. n (inr h)))

  pub keep_once : (t : A → Bool) (l : List A) → Once l → Once (keep t l)
  keep_once t [] o = tt
  keep_once t (x ∷ l) o = go (t x) (keep_once t l o.1)
    where
      go : (b : Bool) → Once (keep t l) → Once (front_if b x (keep t l))
      go true r = (λ h. o.0 (some_to (λ y c. c.1) l ((some_keep (λ y. x ≡ y) t l).0 h)), r)
      go false r = r

  -- what stands last
  pub at_last : (l : List A) (x d : A) → get_or (l ++ (x ∷ [])) (length l) d ≡ x
  at_last [] x d = refl
  at_last (y ∷ l) x d = at_last l x d

  -- m with one of its elements left out
  without : (a : A) (m : List A) → In a m → List A
  without a [] h = absurd h
  without a (x ∷ m) (inl e) = m
  without a (x ∷ m) (inr h) = x ∷ without a m h

  without_length : (a : A) (m : List A) (h : In a m) → length m ≡ suc (length (without a m h))
  unfolding without
  without_length a [] h = absurd h
  without_length a (x ∷ m) (inl e) = refl
  without_length a (x ∷ m) (inr h) = ap suc (without_length a m h)

  without_in : (a b : A) (m : List A) (h : In a m) → In b m → (b ≡ a → ⊥) → In b (without a m h)
  unfolding without
  without_in a b [] h k n = absurd h
  without_in a b (x ∷ m) (inl e) (inl k) n = absurd (n (k ∙ sym e))
  without_in a b (x ∷ m) (inl e) (inr k) n = k
  without_in a b (x ∷ m) (inr h) (inl k) n = inl k
  without_in a b (x ∷ m) (inr h) (inr k) n = inr (without_in a b m h k n)

  -- a list in which none stands twice, and whose elements are all in m, is no longer than m
  pub no_longer : (l m : List A) → Once l → ((a : A) → In a l → In a m) → length l ≤ length m
  no_longer [] m n h = zero-le
  no_longer (x ∷ l) m n h =
      let here = h x (inl refl) in
      rw (without_length x m here) (suc-le-suc (no_longer l (without x m here) n.1
      (λ b k. without_in x b m here (h b (inr k)) (λ e. n.0 (subst (λ y. In y l) e k)))))

  -- where each element can be told, one has P or none has
  pub some_or_none : (P : A → Type 0) → ((a : A) → P a ⊎ (P a → ⊥)) → (l : List A) → ((a : A) × In a l × P a) ⊎ ((a : A) → In a l → P a → ⊥)
  some_or_none P t [] = inr (λ a p. absurd p)
  some_or_none P t (x ∷ l) = ⊎_elim
      (λ p. inl (x, inl refl, p))
      (λ n. ⊎_elim
      (λ (a, i, p). inl (a, inr i, p))
      (λ m. inr (λ a i p. ⊎_elim (λ e. n (subst P e p)) (λ q. m a q p) i))
      (some_or_none P t l))
      (t x)

-- an element of a mapped list, whatever stands past the end
pub at_map : {A B : Type 0} (f : A → B) (l : List A) (k : ℕ) (d : A) (e : B) → k < length l → get_or (map f l) k e ≡ f (get_or l k d)
at_map f [] k d e h = absurd (not-suc-le-zero h)
at_map f (x ∷ l) zero d e h = refl
at_map f (x ∷ l) (suc k) d e h = at_map f l k d e (le_of_suc-le-suc h)

-- ---- entries laid in one after the other: what stands behind them stays

module _ {A : Type 0} where
  pub rest_more : (old now : List A) (i : ℕ) (x : A) → drop i now ≡ drop i old → drop (i + 1) (set now i x) ≡ drop (i + 1) old
  rest_more old now i x e = drop-set-lt (i + 1) now i x (omega arith) ∙ sym (drop-drop 1 i now) ∙ ap (drop 1) e ∙ drop-drop 1 i old

  pub rest_at : (old now : List A) (i : ℕ) → drop i now ≡ drop i old → (k : ℕ) (d : A) → i ≤ k → get_or now k d ≡ get_or old k d
  rest_at old now i e k d h =
      let there : i + (k - i) ≡ k = omega arith in
      ap (λ n. get_or now n d) (sym there) ∙ sym (get_or-drop i now (k - i) d) ∙ ap (λ l. get_or l (k - i) d) e ∙ get_or-drop i old (k - i) d ∙ ap (λ n. get_or old n d) there

  -- lists with the same entries below n and the same behind are one
  pub same_entries : (l m : List A) (n : ℕ) (d : A) → length l ≡ length m → ((i : ℕ) → i < n → get_or l i d ≡ get_or m i d) → drop n l ≡ drop n m → l ≡ m
  same_entries l m zero d e f r = r
  same_entries [] [] (suc n) d e f r = refl
  same_entries [] (y ∷ m) (suc n) d e f r = absurd (omega arith)
  same_entries (x ∷ l) [] (suc n) d e f r = absurd (omega arith)
  same_entries (x ∷ l) (y ∷ m) (suc n) d e f r =
      let here : x ≡ y = f 0 (suc-le-suc zero-le) in
      let after = same_entries l m n d (omega arith) (λ i h. f (suc i) (suc-le-suc h)) r in
      λ i. here i ∷ after i
