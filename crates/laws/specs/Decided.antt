-- Decisions and tests: what a Bool says, and equivalences of statements built by `or`, `and` and `not`. Words to be believed, and laws about them.
-- Assumes nothing.
use Rattle.std.specs.Prelude.{◌≡◌, refl, ◌↔◌, ◌⊎◌, Bool, true, false, not, ◌&&◌, ◌||◌, ℕ, ◌≤◌, T, leb, eqb}
use Rattle.std.proofs.Common.{sym, subst, inl, inr, ⊎_elim, leb→le, le→leb, eqb→eq}
use Rattle.std.proofs.Math.Logic.Iff
use Rattle.std.proofs.Math.Dec.{eqb_refl}
use Rattle.std.proofs.lemmas.Bool.{not-true, not-false}

-- P holds where the answer is yes, and does not where it is no
abbrev pub Decides : Bool → Type 0 → Type 0
Decides true P = P
Decides false P = P → ⊥

pub decides_yes : {P : Type 0} (b : Bool) → b ≡ true → Decides b P → P
decides_yes {P} b e d = subst (λ (x : Bool). Decides x P) e d

pub decides_no : {P : Type 0} (b : Bool) → b ≡ false → Decides b P → P → ⊥
decides_no {P} b e d = subst (λ (x : Bool). Decides x P) e d

-- a fact is decided in one way only
pub decides_one : (P : Type 0) (a b : Bool) → Decides a P → Decides b P → a ≡ b
decides_one P true true p q = refl
decides_one P true false p q = absurd (q p)
decides_one P false true p q = absurd (p q)
decides_one P false false p q = refl

-- ---- decisions

abbrev pub not? : {A : Type 0} → Dec A → Dec (¬ A)
not? (yes a) = no (λ na. na a)
not? (no na) = yes na

module _ {A B : Type 0} where
  abbrev pub both? : Dec A → Dec B → Dec (A × B)
  both? (yes a) (yes b) = yes (a, b)
  both? (yes a) (no nb) = no (λ h. nb h.1)
  both? (no na) b? = no (λ h. na h.0)

  abbrev pub either? : Dec A → Dec B → Dec (A ⊎ B)
  either? (yes a) b? = yes (inl a)
  either? (no na) (yes b) = yes (inr b)
  either? (no na) (no nb) = no (⊎_elim na nb)

  -- a decision of A is one of what is equivalent to it
  abbrev pub same? : (B ↔ A) → Dec A → Dec B
  same? e (yes a) = yes (e.1 a)
  same? e (no na) = no (λ b. na (e.0 b))

  pub neither : (¬ A × ¬ B) ↔ (¬ (A ⊎ B))
  neither = (λ h. ⊎_elim h.0 h.1, λ h. (λ a. h (inl a), λ b. h (inr b)))

  pub not_both : Dec A → (¬ A ⊎ ¬ B) ↔ (¬ (A × B))
  not_both a? = (⊎_elim (λ na h. na h.0) (λ nb h. nb h.1), λ h. elim a? [ yes a ↦ inr (λ b. h (a, b)) | no na ↦ inl na ])

pub not_not : {A : Type 0} → Dec A → A ↔ (¬ ¬ A)
not_not a? = (λ a na. na a, λ h. elim a? [ yes a ↦ a | no na ↦ absurd (h na) ])

pub or_iff : {A B C D : Type 0} → A ↔ C → B ↔ D → (A ⊎ B) ↔ (C ⊎ D)
or_iff e f = (⊎_elim (λ a. inl (e.0 a)) (λ b. inr (f.0 b)), ⊎_elim (λ c. inl (e.1 c)) (λ d. inr (f.1 d)))

-- ---- tests

pub tested : (b : Bool) → T b ⊎ (T b → ⊥)
tested true = inl tt
tested false = inr (λ t. t)

pub T_true : {b : Bool} → T b → b ≡ true
T_true {b = true} t = refl
T_true {b = false} t = absurd t

pub T_false : {b : Bool} → (T b → ⊥) → b ≡ false
T_false {b = true} h = absurd (h tt)
T_false {b = false} h = refl

pub T-same : {a b : Bool} → (T a → T b) → (T b → T a) → a ≡ b
T-same {a = true} {b = true} f g = refl
T-same {a = true} {b = false} f g = absurd (f tt)
T-same {a = false} {b = true} f g = absurd (g tt)
T-same {a = false} {b = false} f g = refl

pub T_and : (a b : Bool) → T (a && b) ↔ (T a × T b)
T_and true b = (λ t. (tt, t), λ p. p.1)
T_and false b = (λ t. absurd t, λ p. p.0)

pub T-or : (a b : Bool) → T (a || b) ↔ (T a ⊎ T b)
T-or true b = (λ t. inl tt, λ p. tt)
T-or false b = (λ t. inr t, ⊎_elim (λ t. absurd t) (λ t. t))

pub and_means : {A B : Type 0} (a b : Bool) → T a ↔ A → T b ↔ B → T (a && b) ↔ (A × B)
and_means a b f g = Iff.trans (T_and a b) (Iff.and f g)

pub or_means : {A B : Type 0} (a b : Bool) → T a ↔ A → T b ↔ B → T (a || b) ↔ (A ⊎ B)
or_means a b f g = Iff.trans (T-or a b) (or_iff f g)

pub eq_means : (m n : ℕ) → T (eqb m n) ↔ (m ≡ n)
eq_means m n = (eqb→eq m n, λ e. subst (λ k. T (eqb m k)) e (eqb_refl m))

pub eqb_sym : (m n : ℕ) → eqb m n ≡ eqb n m
eqb_sym m n = T-same (λ u. (eq_means n m).1 (sym (eqb→eq m n u))) (λ u. (eq_means m n).1 (sym (eqb→eq n m u)))

pub le_means : (m n : ℕ) → T (leb m n) ↔ (m ≤ n)
le_means m n = (leb→le m n, le→leb m n)

-- a decision as a test
abbrev pub test : {A : Type 0} → Dec A → Bool
test (yes a) = true
test (no na) = false

pub test_means : {A : Type 0} (a? : Dec A) → T (test a?) ↔ A
test_means (yes a) = (λ t. a, λ h. tt)
test_means (no na) = (λ t. absurd t, na)

-- what is decided by the test is decided by the answer that equals it
pub decides_means : {P : Type 0} (b : Bool) → T b ↔ P → Decides b P
decides_means true e = e.0 tt
decides_means false e = e.1

-- and so is what is equivalent to it
pub decides_same : {P Q : Type 0} (b : Bool) → (P → Q) → (Q → P) → Decides b P → Decides b Q
decides_same true f g d = f d
decides_same false f g d = λ q. d (g q)

-- as code asks first for what must hold: `if !f(..) { .. }`
pub refuted : {P : Type 0} (b : Bool) → not b ≡ true → Decides b P → P → ⊥
refuted b e d = decides_no b (not-true b e) d

pub granted : {P : Type 0} (b : Bool) → not b ≡ false → Decides b P → P
granted b e d = decides_yes b (not-false b e) d
