-- A state accepts exactly when all that it has is among the formulas that such a state may have: the mark never is. Assumes nothing.
use Rattle.std.specs.Prelude.{ℕ, ◌≤◌, ◌<◌, ◌≡◌, refl, false, ◌↔◌, List, [], ◌∷◌, map, T, length}
use Rattle.std.proofs.Common.{zero-add, arith, sym, subst, inl, inr, ⊎_elim}
use Rattle.std.proofs.Math.Path.{subst⁻¹}
use Rattle.std.proofs.Math.Logic.Iff
use Rattle.std.specs.Int.Bits.{bit_and}
use Rattle.std.proofs.Math.Dec.{eqb}
use Rattle.laws.specs.Decided.{eq_means, T-same}
use Rattle.laws.specs.Lists.{All, In, Some, some_map}
use Rattle.laws.specs.Masks.{has, bit_means, has_none, has_one, covers_iff}
use Rattle.laws.specs.Ranges.{one}
use Rattle.meaning.specs.Formula.{Formula as Tree}
use Rattle.meaning.specs.Meaning.{holds}
use Rattle.meaning.specs.Dialect.{dialect}
use Rattle.meaning.specs.Rest.{Rest}
use Rattle.meaning.specs.declared.Profile.{Profile}
use Rattle.meaning.specs.declared.Profile.TheVariants.{Finite, Last}
use Rattle.rule.specs.Numbering.{formulas, number, Numbers}
use Rattle.rule.proofs.ListingLaws.{rule_listed, rule_count}
use Rattle.rule.specs.declared.Rule.{Rule}
use Rattle.plain.specs.Masking.{MaskOf}
use Rattle.automaton.specs.Exploration.{Reached, at_start, onward}
use Rattle.automaton.proofs.ExplorationLaws.{explored_sound}
use Rattle.tables.specs.declared.Choice.{Choice}
use Rattle.tables.specs.Entries.{formula_no}
use Rattle.tables.specs.Tables.{edges, targets, accepting, start, states, accept_entries}
use Rattle.tables.specs.Bounds.{Own, targets_own, start_own}
use Rattle.tables.specs.Members.{members_iff}
use Rattle.tables.specs.Agreement.{Meets, meets_end}

-- `ends` has the numbers of the formulas that a state which accepts may have, and no others
module _ (φ : Tree) (ends : ℕ) where
  covers : (π : Profile) → length (formulas φ) ≤ (dialect π).most → ((k : ℕ) → k < length (formulas φ) → has ends k ↔ Rest π false (formula_no φ k) [])
      → ((k : ℕ) → length (formulas φ) ≤ k → ¬ has ends k) → (m : ℕ) → Own π φ m
      → ((k : ℕ) → has m k → has ends k) ↔ Meets (number φ) (formulas φ) π m []
  covers Finite few says none m own = (
    λ f. (members_iff (λ ψ. holds ψ []) m 0 (formulas φ)).1 (λ i l x. (says i l).0 (f i (subst (has m) (zero-add i) x))),
    λ h k x. ⊎_elim (λ l. (says k l).1 ((members_iff (λ ψ. holds ψ []) m 0 (formulas φ)).0 h k l (subst (has m) (sym (zero-add k)) x)))
        (λ z. absurd (has_none k z)) (own k x),
  )
  covers Last few says none m own = (
    λ f x. none 63 few (f 63 x),
    λ h k x. ⊎_elim (λ l. (says k l).1 tt) (λ z. absurd (h (subst (has m) ((has_one 63 k).0 z) x))) (own k x),
  )

module _ (rule : Rule) (φ : Tree) (num : Numbers rule φ) where
  -- a state that is reached has formulas of the rule, and the mark, only
  reached_own : (m : ℕ) → Reached (targets rule.profile φ) (start rule.profile φ) m → Own rule.profile φ m
  reached_own m at_start = start_own rule φ num
  reached_own m (onward {a = a} r p) =
      go (edges rule.profile φ a) (targets_own rule φ num a) ((some_map (λ (y : ℕ). m ≡ y) (λ (c : Choice). c.target) (edges rule.profile φ a)).0 p)
    where
      go : (l : List Choice) → All (λ (c : Choice). Own rule.profile φ c.target) l → Some (λ (c : Choice). m ≡ c.target) l → Own rule.profile φ m
      go [] b h = absurd h
      go (c ∷ l) b (inl e) = subst⁻¹ (Own rule.profile φ) e b.0
      go (c ∷ l) b (inr h) = go l b.1 h

  pub states_own : (m : ℕ) → In m (states rule.profile φ) → Own rule.profile φ m
  unfolding states
  states_own m h = reached_own m ((explored_sound eqb eq_means (targets rule.profile φ) (start rule.profile φ) 128).reached m h)

  module _ (ends : ℕ) (is_mask : MaskOf rule.entries (λ ψ. Rest rule.profile false ψ []) rule.count ends) where
    says_end : (k : ℕ) → k < length (formulas φ) → has ends k ↔ Rest rule.profile false (formula_no φ k) []
    says_end k h =
        Iff.trans (Iff.symm (bit_means ends k)) (is_mask.each k (formula_no φ k) (omega (arith, rule_count rule φ num)) ((rule_listed rule φ num).stand k h))

    none_end : (k : ℕ) → length (formulas φ) ≤ k → ¬ has ends k
    none_end k h x = subst T (is_mask.none k (omega (arith, rule_count rule φ num))) ((bit_means ends k).1 x)

    accepts_is : (m : ℕ) → Own rule.profile φ m → eqb (bit_and ends m) m ≡ accepting rule.profile φ m
    accepts_is m own =
        let e = Iff.trans (covers_iff ends m) (Iff.trans (covers φ ends rule.profile num.fits.few says_end none_end m own)
        (Iff.symm (meets_end (number φ) (formulas φ) rule.profile m))) in
        T-same (λ u. e.0 ((eq_means (bit_and ends m) m).0 u)) (λ u. (eq_means (bit_and ends m) m).1 (e.1 u))

    pub accept_entries_lem : map (λ (m : ℕ). one (eqb (bit_and ends m) m)) (states rule.profile φ) ≡ accept_entries rule.profile φ
    accept_entries_lem = go (states rule.profile φ) (λ m h. accepts_is m (states_own m h))
      where
        go : (l : List ℕ) → ((m : ℕ) → In m l → eqb (bit_and ends m) m ≡ accepting rule.profile φ m)
            → map (λ (m : ℕ). one (eqb (bit_and ends m) m)) l ≡ map (λ (m : ℕ). one (accepting rule.profile φ m)) l
        go [] f = refl
        go (m ∷ l) f = λ i. one (f m (inl refl) i) ∷ go l (λ x h. f x (inr h)) i
