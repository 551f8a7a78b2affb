-- The promise of the search admits one outcome only. Assumes nothing.
use Rattle.std.specs.Prelude.{◌≡◌, refl, List, ◌++◌, ℕ, drop, Option, Some, None, Result}
use Rattle.std.proofs.Common.{sym, ap, ◌∙◌, inl, inr, arith}
use Rattle.std.proofs.Math.Path.{subst⁻¹}
use Rattle.answers.specs.Answers.{Outcome, gives, refuses}
use Rattle.answers.specs.Refusals.{outcome}
use Rattle.answers.specs.declared.Refusal.{Refusal}
use Rattle.answers.specs.Laws.Outcomes.{outcome_one}
use Rattle.answers.specs.Laws.Told.{outcome_told}
use Rattle.meaning.specs.Flags.{flags}
use Rattle.automaton.specs.Tables.{Tables}
use Rattle.automaton.specs.Fit.{Fits}
use Rattle.automaton.proofs.SearchLaws.{fit_unique}
use Rattle.walking.specs.FitAnswers.{Shown, Told, Searched}

-- one fit is shown in one way
shown_one : (before a b : List ℕ) (s : Option (List ℕ)) (n k : Option ℕ) → Shown before a s n → Shown before b s k → (n ≡ k) × (a ≡ b)
shown_one before a b None None None p q = (refl, p ∙ sym q)
shown_one before a b None None (Some k) p q = absurd q
shown_one before a b None (Some n) k p q = absurd p
shown_one before a b (Some s) None k p q = absurd p
shown_one before a b (Some s) (Some n) None p q = absurd q
shown_one before a b (Some s) (Some n) (Some k) p q =
    let same : n ≡ k = sym p.0 ∙ q.0 in
    (ap Some same, p.2 ∙ ap (λ i. s ++ drop i before) same ∙ sym q.2)

module _ (t : Tables) (before : List ℕ) where
  told_one : (a b : List ℕ) (x y : Outcome (Option ℕ) (Unit {0})) → Told t before a x → Told t before b y → (x ≡ y) × (a ≡ b)
  told_one = outcome_one (Told t before) values refusals apart
    where
      values : (a b : List ℕ) (n k : Option ℕ) → Told t before a (gives n) → Told t before b (gives k) → (n ≡ k) × (a ≡ b)
      values a b n k p q =
          let (s, f, h) = p.2 in
          let (u, g, j) = q.2 in
          shown_one before a b s n k h (subst⁻¹ (λ v. Shown before b v k) (fit_unique (Fits flags t 0) s u f g) j)

      refusals : (a b : List ℕ) (n k : ℕ) (l m : Unit {0}) → Told t before a (refuses n l) → Told t before b (refuses k m) → (n ≡ k) × (l ≡ m) × (a ≡ b)
      refusals a b n k l m (e, inl (i, h)) (f, inl (j, g)) = (i ∙ sym j, refl, e ∙ sym f)
      refusals a b n k l m (e, inl (i, h)) (f, inr (j, g, bad)) = absurd (omega arith)
      refusals a b n k l m (e, inr (i, h, bad)) (f, inl (j, g)) = absurd (omega arith)
      refusals a b n k l m (e, inr (i, h, bad)) (f, inr (j, g, worse)) = (i ∙ sym j, refl, e ∙ sym f)

      apart : (a b : List ℕ) (n : Option ℕ) (k : ℕ) (l : Unit {0}) → Told t before a (gives n) → Told t before b (refuses k l) → ⊥
      apart a b n k l p (e, inl (i, h)) = omega (arith, p.0)
      apart a b n k l p (e, inr (i, h, bad)) = bad p.1

pub search_one : (t : Tables) (before a b : List ℕ) (r q : Result (Option ℕ) Refusal) → Searched t before a r → Searched t before b q → (r ≡ q) × (a ≡ b)
search_one t before a b r q p s =
    let (same, after) = told_one t before a b (outcome r) (outcome q) p.told s.told in
    (outcome_told r q same, after)
