-- What the tables need of a meaning, whichever the profile, and that a lawful dialect supplies it. Assumes nothing.
use Rattle.std.specs.Prelude.{ℕ, Bool, true, false, ◌↔◌, ◌⊎◌, ◌∷◌}
use Rattle.std.proofs.Math.Logic.Iff
use Rattle.laws.specs.Masks.{has}
use Rattle.meaning.specs.Formula.{Formula, flag, not_flag, one, zero, and, or, next, weak, until, release, Series}
use Rattle.meaning.specs.Meaning.{Clauses, holds_by}
use Rattle.meaning.proofs.Lawful.{Lawful}
use Rattle.meaning.proofs.Holding.{decided}

-- each clause at a first date d with the rest s, `later` as in Lawful
pub record Unrolls (means : Formula → Series → Type 0) (later : Bool → Formula → Series → Type 0) : Type 0 where
  pub at_flag : (k d : ℕ) (s : Series) → means (flag k) (d ∷ s) ↔ has d k
  pub at_not_flag : (k d : ℕ) (s : Series) → means (not_flag k) (d ∷ s) ↔ (¬ has d k)
  pub at_one : (d : ℕ) (s : Series) → means one (d ∷ s)
  pub at_zero : (d : ℕ) (s : Series) → means zero (d ∷ s) → ⊥
  pub at_and : (p q : Formula) (d : ℕ) (s : Series) → means (and p q) (d ∷ s) ↔ (means p (d ∷ s) × means q (d ∷ s))
  pub at_or : (p q : Formula) (d : ℕ) (s : Series) → means (or p q) (d ∷ s) ↔ (means p (d ∷ s) ⊎ means q (d ∷ s))
  pub at_next : (p : Formula) (d : ℕ) (s : Series) → means (next p) (d ∷ s) ↔ later true p s
  pub at_weak : (p : Formula) (d : ℕ) (s : Series) → means (weak p) (d ∷ s) ↔ later false p s
  pub at_until : (p q : Formula) (d : ℕ) (s : Series)
      → means (until p q) (d ∷ s) ↔ (means q (d ∷ s) ⊎ (means p (d ∷ s) × later true (until p q) s))
  pub at_release : (p q : Formula) (d : ℕ) (s : Series)
      → means (release p q) (d ∷ s) ↔ (means q (d ∷ s) × (means p (d ∷ s) ⊎ later false (release p q) s))

-- the clauses of a lawful dialect supply it
pub unrolls : (C : Clauses) (L : Lawful C) → Unrolls (holds_by C) (λ must φ. L.later must (holds_by C φ))
unrolls C L = record {
  at_flag = L.at_first;
  at_not_flag = λ k d s. Iff.not (L.at_first k d s);
  at_one = λ d s. tt;
  at_zero = λ d s h. h;
  at_and = λ p q d s. Iff.rfl;
  at_or = λ p q d s. Iff.rfl;
  at_next = λ p. L.at_next (holds_by C p);
  at_weak = λ p. L.at_weak (holds_by C p);
  at_until = λ p q. L.at_until (holds_by C p) (holds_by C q);
  at_release = λ p q d s. L.at_release (holds_by C p) (holds_by C q) d s (decided C L p (d ∷ s) (L.looked d s));
}
