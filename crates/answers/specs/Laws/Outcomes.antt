-- The law by which a value or a refusal is one only. Assumes nothing.
use Rattle.std.specs.Prelude.{◌≡◌, ℕ}
use Rattle.std.proofs.Common.{sym, ap, ap₂, ◌∙◌}
use Rattle.answers.specs.Answers.{Outcome, gives, refuses}

-- where values are one, refusals are one and no value is right beside a refusal, outcomes are one, with what is left in a slice S
module _ {A L S : Type 0} (Right : S → Outcome A L → Type 0)
    (values : (s t : S) (a b : A) → Right s (gives a) → Right t (gives b) → (a ≡ b) × (s ≡ t))
    (refusals : (s t : S) (m n : ℕ) (k l : L) → Right s (refuses m k) → Right t (refuses n l) → (m ≡ n) × (k ≡ l) × (s ≡ t))
    (apart : (s t : S) (a : A) (n : ℕ) (l : L) → Right s (gives a) → Right t (refuses n l) → ⊥) where
  pub outcome_one : (s t : S) (x y : Outcome A L) → Right s x → Right t y → (x ≡ y) × (s ≡ t)
  outcome_one s t (gives a) (gives b) p q = let (e, f) = values s t a b p q in (ap gives e, f)
  outcome_one s t (gives a) (refuses n l) p q = absurd (apart s t a n l p q)
  outcome_one s t (refuses n l) (gives b) p q = absurd (apart t s b n l q p)
  outcome_one s t (refuses m k) (refuses n l) p q = let (e, f, g) = refusals s t m n k l p q in (ap₂ refuses e f, g)

-- an answer that can be read back from its outcome is told by it
pub told_back : {R A L : Type 0} (outcome : R → Outcome A L) (back : Outcome A L → R) → ((r : R) → back (outcome r) ≡ r) → (q r : R) → outcome q ≡ outcome r → q ≡ r
told_back outcome back same q r e = sym (same q) ∙ ap back e ∙ same r
