-- Readings of document 001's list that look right and are not: what the list says where they differ. Assumes nothing.
use Rattle.std.specs.Prelude.{ℕ, ◌<◌, refl, ◌↔◌, [], ◌∷◌, length, drop}
use Rattle.std.proofs.Common.{not-suc-le-zero, inl, inr}
use Rattle.laws.specs.Masks.{has, has_one}
use Rattle.meaning.specs.Formula.{Formula, flag, not_flag, one, zero, and, or, next, weak, until, release, Series}
use Rattle.meaning.specs.Meaning.{holds}
use Rattle.meaning.specs.Listed.{UntilDate, ReleaseDate, last, lists}
use Rattle.meaning.specs.Syntax.{Syntax, means_by, nnf}
use Rattle.meaning.proofs.Lawful.{last_lawful}
use Rattle.meaning.proofs.Pushed.{nnf_says}
use Rattle.meaning.proofs.Suffixes as suffixes
use Rattle.meaning.proofs.Dates.{at_first, next_left, weak_left, until_left, release_left}

-- no rule says yes to no dates: not 1, and no negation either
pub none_no : (φ : Formula) → ¬ last.ask (lists φ) []
none_no φ h = not-suc-le-zero h.0

pub none_no_text : (p : Syntax) → (¬ last.ask (means_by last p) []) × (¬ last.ask (means_by last (Syntax.not p)) [])
none_no_text p = (λ h. not-suc-le-zero h.0, λ h. not-suc-le-zero h.0)

-- at the last date the weak next holds of everything and the strong next of nothing
pub last_weak : (φ : Formula) (d : ℕ) → lists (weak φ) (d ∷ [])
last_weak φ d = (weak_left (lists φ) d []).1 tt

pub last_not_next : (φ : Formula) (d : ℕ) → ¬ lists (next φ) (d ∷ [])
last_not_next φ d h = (next_left (lists φ) d []).0 h

-- until and release look at dates only: a flag can hold throughout, and its negation need not come
pub globally_flag : (k d : ℕ) → has d k → lists (release zero (flag k)) (d ∷ [])
globally_flag k d h = (release_left (lists zero) (lists (flag k)) d []).1 ((at_first k d []).1 h, inr tt)

pub not_finally_not : (k d : ℕ) → has d k → ¬ lists (until one (not_flag k)) (d ∷ [])
not_finally_not k d h u =
    elim ((until_left (lists one) (lists (not_flag k)) d []).0 u) [ inl n ↦ n ((at_first k d []).1 h) | inr x ↦ x.1 ]

-- `F φ` is φ at some date, `G φ` φ at every date
pub finally_dates : (φ : Formula) (s : Series) → lists (until one φ) s ↔ ((i : ℕ) × (i < length s) × lists φ (drop i s))
unfolding UntilDate
finally_dates φ s = (λ (i, h, q, p). (i, h, q), λ (i, h, q). (i, h, q, λ j l. tt))

pub globally_dates : (φ : Formula) (s : Series) → lists (release zero φ) s ↔ ((i : ℕ) → i < length s → lists φ (drop i s))
unfolding ReleaseDate
globally_dates φ s = (λ h. elim h [ inl f ↦ f | inr (i, l, z, q) ↦ absurd z ], inl)

-- so the two dialects differ on a series with a date
pub dialects_differ : lists (release zero (flag 0)) (1 ∷ []) × (¬ holds (release zero (flag 0)) (1 ∷ []))
dialects_differ = (globally_flag 0 1 ((has_one 0 0).1 refl), λ h. suffixes.first_end 0 (ends h))
  where
    ends : holds (release zero (flag 0)) (1 ∷ []) → holds (flag 0) []
    ends h =
        let (q, r) = (suffixes.release_date (holds zero) (holds (flag 0)) 1 [] (no (λ z. z))).0 h in
        elim r [ inl z ↦ absurd z | inr x ↦ (suffixes.release_end (holds zero) (holds (flag 0))).0 x ]

-- negation pushed to the flags keeps what a text says, where there is a date
pub nnf_lists : (p : Syntax) (d : ℕ) (s : Series) → means_by last p (d ∷ s) ↔ lists (nnf p) (d ∷ s)
nnf_lists p d s = nnf_says last last_lawful p (d ∷ s) tt

-- document 001, Definition 3: the normal form of a later section
abbrev pub xnf : Formula → Formula
xnf (flag k) = and (flag k) (next one)
xnf (not_flag k) = and (not_flag k) (next one)
xnf one = one
xnf zero = zero
xnf (and p q) = and (xnf p) (xnf q)
xnf (or p q) = or (xnf p) (xnf q)
xnf (next p) = next p
xnf (weak p) = next p
xnf (until p q) = or (xnf q) (and (xnf p) (next (until p q)))
xnf (release p q) = and (xnf q) (or (xnf p) (next (release p q)))

-- it is not what the list says: `a` on 01, and `N p` at any last date
pub xnf_flag_differs : lists (flag 0) (1 ∷ []) × (¬ lists (xnf (flag 0)) (1 ∷ []))
xnf_flag_differs = ((at_first 0 1 []).1 ((has_one 0 0).1 refl), λ h. last_not_next one 1 h.1)

pub xnf_weak_differs : (φ : Formula) (d : ℕ) → lists (weak φ) (d ∷ []) × (¬ lists (xnf (weak φ)) (d ∷ []))
xnf_weak_differs φ d = (last_weak φ d, last_not_next φ d)
