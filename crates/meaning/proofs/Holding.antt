-- A formula is decided on every series that its dialect looks at; what it says at the end; Lemma 12. Assumes nothing.
use Rattle.std.specs.Prelude.{◌↔◌, [], ◌∷◌, T}
use Rattle.std.proofs.Common.{inl, inr, ⊎_elim}
use Rattle.std.proofs.Math.Logic.Iff
use Rattle.meaning.specs.Formula.{Formula, flag, not_flag, one, zero, and, or, next, weak, until, release, Series}
use Rattle.laws.specs.Decided.{both?, either?, not?, or_iff, T_and, T-or}
use Rattle.meaning.specs.Meaning.{Clauses, holds_by, finite, holds}
use Rattle.meaning.proofs.Lawful.{Lawful, finite_lawful}
use Rattle.meaning.specs.Ending.{end_yes}
use Rattle.meaning.proofs.Suffixes.{first_end, next_end, next_date_lem, weak_end, weak_date}
use Rattle.meaning.proofs.Suffixes.{until_end, until_date, release_end, release_date}

-- every formula is decided on every series that its dialect looks at
module _ (C : Clauses) (L : Lawful C) where
  abbrev pub decided : (φ : Formula) (s : Series) → L.Looked s → Dec (holds_by C φ s)
  decided (flag k) s h = L.first? k s h
  decided (not_flag k) s h = not? (L.first? k s h)
  decided one s h = yes tt
  decided zero s h = no (λ x. x)
  decided (and p q) s h = both? (decided p s h) (decided q s h)
  decided (or p q) s h = either? (decided p s h) (decided q s h)
  decided (next p) s h = L.next? (holds_by C p) (decided p) s h
  decided (weak p) s h = L.weak? (holds_by C p) (decided p) s h
  decided (until p q) s h = L.until? (holds_by C p) (holds_by C q) (decided p) (decided q) s h
  decided (release p q) s h = L.release? (holds_by C p) (holds_by C q) (decided p) (decided q) s h

  -- and so is whether a rule answers yes, on every series
  abbrev pub asked? : (φ : Formula) (s : Series) → Dec (C.ask (holds_by C φ) s)
  asked? φ s = L.ask? (holds_by C φ) (decided φ) s

-- by Definition 9 on every series
abbrev pub holds? : (φ : Formula) (s : Series) → Dec (holds φ s)
holds? φ s = decided finite finite_lawful φ s tt

-- ---- at the end of a series

pub end_iff : (φ : Formula) → T (end_yes φ) ↔ holds φ []
unfolding end_yes
end_iff (flag k) = (λ t. absurd t, first_end k)
end_iff (not_flag k) = (λ t. first_end k, λ h. tt)
end_iff one = Iff.rfl
end_iff zero = Iff.rfl
end_iff (and p q) = Iff.trans (T_and (end_yes p) (end_yes q)) (Iff.and (end_iff p) (end_iff q))
end_iff (or p q) = Iff.trans (T-or (end_yes p) (end_yes q)) (or_iff (end_iff p) (end_iff q))
end_iff (next p) = (λ t. absurd t, next_end (holds p))
end_iff (weak p) = (λ t. weak_end (holds p), λ h. tt)
end_iff (until p q) = Iff.trans (end_iff q) (Iff.symm (until_end (holds p) (holds q)))
end_iff (release p q) = Iff.trans (end_iff q) (Iff.symm (release_end (holds p) (holds q)))

-- ---- Lemma 12, on every series

pub unroll_until : (p q : Formula) (s : Series) → holds (until p q) s ↔ holds (or q (and p (next (until p q)))) s
unroll_until p q [] = Iff.trans (until_end (holds p) (holds q)) (inl, ⊎_elim (λ h. h) (λ h. absurd (next_end (holds (until p q)) h.1)))
unroll_until p q (d ∷ s) =
    Iff.trans (until_date (holds p) (holds q) d s) (or_iff Iff.rfl (Iff.and Iff.rfl (Iff.symm (next_date_lem (holds (until p q)) d s))))

pub unroll_release : (p q : Formula) (s : Series) → holds (release p q) s ↔ holds (and q (or p (weak (release p q)))) s
unroll_release p q [] = Iff.trans (release_end (holds p) (holds q)) (λ h. (h, inr (weak_end (holds (release p q)))), λ h. h.0)
unroll_release p q (d ∷ s) =
    Iff.trans (release_date (holds p) (holds q) d s (holds? p (d ∷ s)))
    (Iff.and Iff.rfl (or_iff Iff.rfl (Iff.symm (weak_date (holds (release p q)) d s))))
