-- Readings of Definition 9 that look right and are not: what the definition says where they differ. Assumes nothing.
use Rattle.std.specs.Prelude.{ℕ, [], ◌∷◌}
use Rattle.std.proofs.Common.{inl, inr}
use Rattle.meaning.specs.Formula.{one, zero, not_flag, next, weak, until, release, flag, Series}
use Rattle.meaning.specs.Meaning.{holds}
use Rattle.meaning.proofs.Suffixes.{first_end, next_end, weak_end, until_end, until_date, release_end, release_date}
use Rattle.meaning.proofs.Holding.{holds?}

-- the empty suffix counts: the negated flag holds there at the latest, so until reaches it on every series
pub finally_not_flag : (k : ℕ) (s : Series) → holds (until one (not_flag k)) s
finally_not_flag k [] = (until_end (holds one) (holds (not_flag k))).1 (first_end k)
finally_not_flag k (d ∷ s) = (until_date (holds one) (holds (not_flag k)) d s).1 (inr (tt, finally_not_flag k s))

-- and a flag fails there, so no series has it throughout
pub never_globally_flag : (k : ℕ) (s : Series) → ¬ holds (release zero (flag k)) s
never_globally_flag k [] h = first_end k ((release_end (holds zero) (holds (flag k))).0 h)
never_globally_flag k (d ∷ s) h =
    let (q, r) = (release_date (holds zero) (holds (flag k)) d s (holds? zero (d ∷ s))).0 h in
    never_globally_flag k s (elim r [ inl z ↦ absurd z | inr x ↦ x ])

-- next and weak next differ after the last date, whatever they are of
pub weak_not_next : holds (weak zero) [] × (¬ holds (next one) [])
weak_not_next = (weak_end (holds zero), next_end (holds one))
