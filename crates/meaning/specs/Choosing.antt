-- A number chooses one profile or none. Assumes nothing.
use Rattle.std.specs.Prelude.{ℕ, zero, suc, ◌≡◌, refl, Result, Ok, Err}
use Rattle.std.proofs.Common.{arith, sym, ap, ◌∙◌}
use Rattle.meaning.specs.Dialect.{dialect, NoProfile, ChosenBy, Chooses}
use Rattle.meaning.specs.declared.Profile.{Profile}
use Rattle.meaning.specs.declared.Profile.TheVariants.{Finite, Last}
use Rattle.meaning.specs.declared.UnknownProfile.{UnknownProfile}

pub profile_one : (π ρ : Profile) → (dialect π).number ≡ (dialect ρ).number → π ≡ ρ
profile_one Finite Finite e = refl
profile_one Finite Last e = absurd (omega arith)
profile_one Last Finite e = absurd (omega arith)
profile_one Last Last e = refl

abbrev pub known? : (n : ℕ) → Dec ((π : Profile) × ((dialect π).number ≡ n))
known? zero = yes (Finite, refl)
known? (suc zero) = yes (Last, refl)
known? (suc (suc n)) = no (λ (π, e). above π e)
  where
    above : NoProfile (suc (suc n))
    above Finite e = omega arith
    above Last e = omega arith

-- one outcome only
pub chooses_one : (n : ℕ) (r r' : Result Profile UnknownProfile) → Chooses n r → Chooses n r' → r ≡ r'
chooses_one n r r' x y = go r r' x.chosen y.chosen
  where
    go : (r r' : Result Profile UnknownProfile) → ChosenBy n r → ChosenBy n r' → r ≡ r'
    go (Ok π) (Ok ρ) e f = ap Ok (profile_one π ρ (e ∙ sym f))
    go (Ok π) (Err u) e f = absurd (f π e)
    go (Err u) (Ok ρ) e f = absurd (e ρ f)
    go (Err u) (Err v) e f = refl

-- ---- what is chosen

pub known_chosen : (π : Profile) (n : ℕ) → n ≡ (dialect π).number → Chooses n (Ok π)
known_chosen π n e = record { chosen = sym e }

pub above_chosen : {u : UnknownProfile} (n : ℕ) → (n ≡ 0 → ⊥) → (n ≡ 1 → ⊥) → Chooses n (Err u)
above_chosen n x y = record { chosen = none }
  where
    none : NoProfile n
    none Finite e = x (sym e)
    none Last e = y (sym e)
