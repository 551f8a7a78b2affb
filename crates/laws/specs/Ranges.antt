-- Tests over a range of numbers: whether some number passes, how many do, the least value among those that do. Words to be believed, and laws about
-- them. Assumes nothing.
use Rattle.std.specs.Prelude.{◌≡◌, refl, ◌⊎◌, ◌↔◌, Bool, true, false, not, cond, ◌&&◌, ◌||◌, ℕ, zero, suc, ◌+◌, ◌≤◌, ◌<◌, min, List, [], ◌∷◌, length, get_or, T, leb}
use Rattle.std.proofs.Common.{sym, ap, ap₂, ◌∙◌, inl, inr, ⊎_elim, le_refl, eq-or-lt_of_le, le_of_suc-le-suc, not-suc-le-zero, add-one, arith, T_not, leb→le, le→leb, le-leb}
use Rattle.std.proofs.Math.Path.{subst⁻¹}
use Rattle.std.proofs.Math.Decide.{dec_le}
use Rattle.std.proofs.Math.Dec.{not_T}
use Rattle.std.proofs.lemmas.Bool.{lt-leb}
use Rattle.laws.specs.Decided.{tested, T_true, T_false, T_and, T-or}

-- ---- some number from a up to, not including, b passes f

abbrev pub any_in : ℕ → ℕ → (ℕ → Bool) → Bool
any_in a zero f = false
any_in a (suc b) f = any_in a b f || (leb a b && f b)

abbrev pub SomeIn : ℕ → ℕ → (ℕ → Type 0) → Type 0
SomeIn a b P = (i : ℕ) × (a ≤ i) × (i < b) × P i

-- one more number at the end
pub any_suc : (a b : ℕ) (f : ℕ → Bool) → a ≤ b → any_in a (suc b) f ≡ (any_in a b f || f b)
any_suc a b f h = rw (le-leb a b h)

pub any_none : (a b : ℕ) (f : ℕ → Bool) → b ≤ a → any_in a b f ≡ false
any_none a zero f h = refl
any_none a (suc b) f h = rw (any_none a b f (omega arith), lt-leb a b h)

pub any→ : (a b : ℕ) (f : ℕ → Bool) → T (any_in a b f) → SomeIn a b (λ i. T (f i))
any→ a zero f t = absurd t
any→ a (suc b) f t = go (any→ a b f) ((T-or (any_in a b f) (leb a b && f b)).0 t)
  where
    go : (T (any_in a b f) → SomeIn a b (λ i. T (f i))) → T (any_in a b f) ⊎ T (leb a b && f b) → SomeIn a (suc b) (λ i. T (f i))
    go below (inl u) = let (i, l, h, p) = below u in (i, l, omega arith, p)
    go below (inr u) = let (l, p) = (T_and (leb a b) (f b)).0 u in (b, leb→le a b l, omega arith, p)

pub →any : (a b : ℕ) (f : ℕ → Bool) → SomeIn a b (λ i. T (f i)) → T (any_in a b f)
→any a zero f s = absurd (not-suc-le-zero s.2)
→any a (suc b) f (i, l, h, p) =
    (T-or (any_in a b f) (leb a b && f b)).1 (⊎_elim
    (λ e. inr ((T_and (leb a b) (f b)).1 (le→leb a b (rw e at l), rw e at p)))
    (λ k. inl (→any a b f (i, l, k, p)))
    (eq-or-lt_of_le (le_of_suc-le-suc h)))

pub any_means : (a b : ℕ) (f : ℕ → Bool) (P : ℕ → Type 0) → ((i : ℕ) → a ≤ i → i < b → T (f i) ↔ P i) → T (any_in a b f) ↔ SomeIn a b P
any_means a b f P h = (
  λ u. let (i, l, k, p) = any→ a b f u in (i, l, k, (h i l k).0 p),
  λ s. →any a b f (s.0, s.1, s.2, (h s.0 s.1 s.2).1 s.3),
)

-- every number from a up to, not including, b passes f
abbrev pub all_in : ℕ → ℕ → (ℕ → Bool) → Bool
all_in a zero f = true
all_in a (suc b) f = all_in a b f && (not (leb a b) || f b)

pub all_means : (a b : ℕ) (f : ℕ → Bool) (P : ℕ → Type 0) → ((i : ℕ) → a ≤ i → i < b → T (f i) ↔ P i)
    → T (all_in a b f) ↔ ((i : ℕ) → a ≤ i → i < b → P i)
all_means a zero f P h = ((λ u i l k. absurd (not-suc-le-zero k)), λ p. tt)
all_means a (suc b) f P h =
    let below = all_means a b f P (λ i l k. h i l (omega arith)) in (
      (λ u i l k. let (v, x) = (T_and (all_in a b f) (not (leb a b) || f b)).0 u in ⊎_elim
          (λ e. subst⁻¹ P e ((h b (rw e at l) (le_refl (suc b))).0 (⊎_elim
          (λ n. absurd (T_not (leb a b) n (le→leb a b (rw e at l)))) (λ y. y) ((T-or (not (leb a b)) (f b)).0 x))))
          (λ j. below.0 v i l j)
          (eq-or-lt_of_le (le_of_suc-le-suc k))),
      λ p. (T_and (all_in a b f) (not (leb a b) || f b)).1 (
        below.1 (λ i l k. p i l (omega arith)),
        (T-or (not (leb a b)) (f b)).1 (⊎_elim
            (λ t. let l = leb→le a b t in inr ((h b l (le_refl (suc b))).1 (p b l (le_refl (suc b)))))
            (λ n. inl (not_T (leb a b) n)) (tested (leb a b))),
      ),
    )

-- the test does not see what lies outside of the range
pub any_same : (a b : ℕ) (f g : ℕ → Bool) → ((i : ℕ) → a ≤ i → i < b → f i ≡ g i) → any_in a b f ≡ any_in a b g
any_same a zero f g h = refl
any_same a (suc b) f g h = ap₂ ◌||◌ (any_same a b f g (λ i l k. h i l (omega arith))) (go (tested (leb a b)))
  where
    go : T (leb a b) ⊎ (T (leb a b) → ⊥) → (leb a b && f b) ≡ (leb a b && g b)
    go (inl t) = ap (λ x. leb a b && x) (h b (leb→le a b t) (omega arith))
    go (inr n) = rw (T_false {b = leb a b} n)

-- nor numbers at the end that do not pass
pub any_stop : (a b c : ℕ) (f : ℕ → Bool) → b ≤ c → ((i : ℕ) → b ≤ i → i < c → f i ≡ false) → any_in a c f ≡ any_in a b f
any_stop a b zero f h no_more = let e : b ≡ 0 = omega arith in rw e
any_stop a b (suc c) f h no_more = ⊎_elim
    (λ e. rw e)
    (λ l. let k : b ≤ c = le_of_suc-le-suc l in
    ap₂ (λ x y. x || (leb a c && y)) (any_stop a b c f k (λ i p q. no_more i p (omega arith))) (no_more c k (le_refl (suc c))) ∙ last (any_in a b f) (leb a c))
    (eq-or-lt_of_le h)
  where
    last : (x y : Bool) → (x || (y && false)) ≡ x
    last true y = refl
    last false true = refl
    last false false = refl

-- as a loop goes on, and as it stops
pub any_more : (a i : ℕ) (f : ℕ → Bool) → a ≤ i → any_in a i f ≡ false → f i ≡ false → any_in a (i + 1) f ≡ false
any_more a i f h e g = rw (add-one, any_suc a i f h, e, g)

pub any_here : (a b i : ℕ) (f : ℕ → Bool) → a ≤ i → i < b → f i ≡ true → true ≡ any_in a b f
any_here a b i f h k e = sym (T_true {b = any_in a b f} (→any a b f (i, h, k, rw e tt)))

-- ---- how many numbers below n pass f

abbrev pub one : Bool → ℕ
one true = 1
one false = 0

abbrev pub count : ℕ → (ℕ → Bool) → ℕ
count zero f = 0
count (suc n) f = count n f + one (f n)

one_le : (b : Bool) → one b ≤ 1
one_le true = omega arith
one_le false = omega arith

one_mono : (a b : Bool) → (T a → T b) → one a ≤ one b
one_mono true true h = omega arith
one_mono true false h = absurd (h tt)
one_mono false b h = omega arith

pub count_le : (n : ℕ) (f : ℕ → Bool) → count n f ≤ n
count_le zero f = omega arith
count_le (suc n) f = omega (arith, count_le n f, one_le (f n))

pub count_mono : (n : ℕ) (f g : ℕ → Bool) → ((i : ℕ) → i < n → T (f i) → T (g i)) → count n f ≤ count n g
count_mono zero f g h = omega arith
count_mono (suc n) f g h = omega (arith, count_mono n f g (λ i k. h i (omega arith)), one_mono (f n) (g n) (h n (omega arith)))

-- g has all that f has, and i besides
pub count_more : (n : ℕ) (f g : ℕ → Bool) → ((i : ℕ) → i < n → T (f i) → T (g i))
    → (i : ℕ) → i < n → T (g i) → (T (f i) → ⊥) → count n f < count n g
count_more zero f g h i k p q = absurd (not-suc-le-zero k)
count_more (suc n) f g h i k p q = go (eq-or-lt_of_le (le_of_suc-le-suc k)) (count_more n f g (λ j l. h j (omega arith)) i)
  where
    go : (i ≡ n) ⊎ (i < n) → (i < n → T (g i) → (T (f i) → ⊥) → count n f < count n g) → count n f + one (f n) < count n g + one (g n)
    go (inl e) below =
        rw (T_false {b = f n} (λ t. q (rw e t)), T_true {b = g n} (rw e at p))
        (omega (arith, count_mono n f g (λ j l. h j (omega arith))))
    go (inr l) below = omega (arith, below l p q, one_mono (f n) (g n) (h n (omega arith)))

-- as many as there are: all pass
pub count_all : (n : ℕ) (f : ℕ → Bool) → n ≤ count n f → (i : ℕ) → i < n → T (f i)
count_all n f h i k = ⊎_elim (λ t. t)
    (λ q. absurd (omega (arith, count_more n f (λ j. true) (λ j l t. tt) i k tt q, count_le n (λ j. true))))
    (tested (f i))

-- ---- the least value of g among the numbers from a up to, not including, b that pass f; `top` where there is none below it

abbrev pub least_in : ℕ → ℕ → (ℕ → Bool) → (ℕ → ℕ) → ℕ → ℕ
least_in a zero f g top = top
least_in a (suc b) f g top = min (least_in a b f g top) (cond (leb a b && f b) (g b) top)

pub least_suc : (a b : ℕ) (f : ℕ → Bool) (g : ℕ → ℕ) (top : ℕ) → a ≤ b
    → least_in a (suc b) f g top ≡ min (least_in a b f g top) (cond (f b) (g b) top)
least_suc a b f g top h = rw (le-leb a b h)

pub least_none : (a b : ℕ) (f : ℕ → Bool) (g : ℕ → ℕ) (top : ℕ) → b ≤ a → least_in a b f g top ≡ top
least_none a zero f g top h = refl
least_none a (suc b) f g top h = rw (least_none a b f g top (omega arith), lt-leb a b h) (omega arith)

pub least_le : (a b : ℕ) (f : ℕ → Bool) (g : ℕ → ℕ) (top i : ℕ) → a ≤ i → i < b → T (f i) → least_in a b f g top ≤ g i
least_le a zero f g top i l h p = absurd (not-suc-le-zero h)
least_le a (suc b) f g top i l h p = go (eq-or-lt_of_le (le_of_suc-le-suc h)) (λ k. least_le a b f g top i l k p)
  where
    go : (i ≡ b) ⊎ (i < b) → (i < b → least_in a b f g top ≤ g i) → min (least_in a b f g top) (cond (leb a b && f b) (g b) top) ≤ g i
    go (inl e) below = rw (← e, le-leb a i l, T_true {b = f i} p) (omega arith)
    go (inr k) below = omega (arith, below k)

pub least_top : (a b : ℕ) (f : ℕ → Bool) (g : ℕ → ℕ) (top : ℕ) → least_in a b f g top ≤ top
least_top a zero f g top = le_refl top
least_top a (suc b) f g top = omega (arith, least_top a b f g top)

pick : (l v top : ℕ) (c : Bool) → min l (cond c v top) < top
    → ((l < top) × (l ≡ min l (cond c v top))) ⊎ (T c × (v ≡ min l (cond c v top)))
pick l v top false h = inl (omega arith)
pick l v top true h = go (dec_le l v)
  where
    go : Dec (l ≤ v) → ((l < top) × (l ≡ min l v)) ⊎ (Unit {0} × (v ≡ min l v))
    go (yes s) = inl (omega arith)
    go (no s) = inr (tt, omega arith)

-- a least value below top is the value of one that passes
pub least_found : (a b : ℕ) (f : ℕ → Bool) (g : ℕ → ℕ) (top : ℕ) → least_in a b f g top < top
    → SomeIn a b (λ i. T (f i) × (g i ≡ least_in a b f g top))
least_found a zero f g top h = absurd (omega arith)
least_found a (suc b) f g top h = go (least_found a b f g top) (pick (least_in a b f g top) (g b) top (leb a b && f b) h)
  where
    L : ℕ
    L = least_in a b f g top

    M : ℕ
    M = min L (cond (leb a b && f b) (g b) top)

    go : (L < top → SomeIn a b (λ i. T (f i) × (g i ≡ L))) → ((L < top) × (L ≡ M)) ⊎ (T (leb a b && f b) × (g b ≡ M))
        → SomeIn a (suc b) (λ i. T (f i) × (g i ≡ M))
    go below (inl (k, e)) = let (i, l, j, p) = below k in (i, l, omega arith, (p.0, p.1 ∙ e))
    go below (inr (t, e)) = let (l, p) = (T_and (leb a b) (f b)).0 t in (b, leb→le a b l, omega arith, (p, e))

-- numbers at the end that do not pass change nothing
pub least_stop : (a b c : ℕ) (f : ℕ → Bool) (g : ℕ → ℕ) (top : ℕ) → b ≤ c → ((i : ℕ) → b ≤ i → i < c → f i ≡ false)
    → least_in a c f g top ≡ least_in a b f g top
least_stop a b zero f g top h no_more = let e : b ≡ 0 = omega arith in rw e
least_stop a b (suc c) f g top h no_more = ⊎_elim
    (λ e. rw e)
    (λ l. let k : b ≤ c = le_of_suc-le-suc l in
    last (least_in a c f g top) (leb a c) (f c) (no_more c k (le_refl (suc c))) (least_top a c f g top) ∙ least_stop a b c f g top k (λ i p q. no_more i p (omega arith)))
    (eq-or-lt_of_le h)
  where
    last : (l : ℕ) (x y : Bool) → y ≡ false → l ≤ top → min l (cond (x && y) (g c) top) ≡ l
    last l true y e h = rw e (omega arith)
    last l false y e h = omega arith

-- ---- the list of the values of f below n

abbrev pub list_of : ℕ → (ℕ → ℕ) → List ℕ
list_of zero f = []
list_of (suc n) f = f 0 ∷ list_of n (λ q. f (suc q))

pub length_list_of : (n : ℕ) (f : ℕ → ℕ) → length (list_of n f) ≡ n
length_list_of zero f = refl
length_list_of (suc n) f = ap suc (length_list_of n (λ q. f (suc q)))

pub get_d_list_of : (n : ℕ) (f : ℕ → ℕ) (q d : ℕ) → q < n → get_or (list_of n f) q d ≡ f q
get_d_list_of zero f q d h = absurd (not-suc-le-zero h)
get_d_list_of (suc n) f zero d h = refl
get_d_list_of (suc n) f (suc q) d h = get_d_list_of n (λ i. f (suc i)) q d (le_of_suc-le-suc h)
