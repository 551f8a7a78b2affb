-- The members of a state by their numbers. Assumes nothing.
use Rattle.std.specs.Prelude.{ℕ, suc, ◌+◌, ◌^◌, ◌<◌, ◌≡◌, ◌↔◌, get_or}
use Rattle.std.proofs.Common.{suc-le-suc, zero-le, add-suc, suc-add, zero-add, not-suc-le-zero, le_of_suc-le-suc, sym, ◌∙◌, subst, inl, inr, ⊎_elim}
use Rattle.std.proofs.Math.Nat.{add-zero}
use Rattle.std.proofs.Math.Logic.Iff
use mathlib.Core.List.{List, [], ◌∷◌}
use Rattle.std.specs.Int.Bits.{bit_or}
use Rattle.std.proofs.Math.ListN.{length}
use Rattle.laws.specs.Lists.{All, all_front}
use Rattle.laws.specs.Masks.{has, bit, bit_means, has_none, has_or, has_one}
use Rattle.meaning.specs.Formula.{Formula as Tree, one}
use Rattle.tables.specs.Choices.{members_from}

further : (k i : ℕ) → k + suc i ≡ suc k + i
further k i = add-suc k i ∙ sym (suc-add k i)

module _ (P : Tree → Type 0) where
  pub members_among : (m k : ℕ) (φs : List Tree) → All P φs → All P (members_from m k φs)
  unfolding members_from
  members_among m k [] h = tt
  members_among m k (φ ∷ φs) h = (all_front P (bit m k) φ (members_from m (suc k) φs)).1 (λ t. h.0, members_among m (suc k) φs h.1)

  pub members_iff : (m k : ℕ) (φs : List Tree) → All P (members_from m k φs) ↔ ((i : ℕ) → i < length φs → has m (k + i) → P (get_or φs i one))
  unfolding members_from
  members_iff m k [] = (λ h i l. absurd (not-suc-le-zero l), λ h. tt)
  members_iff m k (φ ∷ φs) =
      Iff.trans (all_front P (bit m k) φ (members_from m (suc k) φs)) (
        λ h. from (λ x. h.0 ((bit_means m k).1 x)) ((members_iff m (suc k) φs).0 h.1),
        λ h. (
          λ t. h 0 (suc-le-suc zero-le) (rw add-zero ((bit_means m k).0 t)),
          (members_iff m (suc k) φs).1 (λ i l x. h (suc i) (suc-le-suc l) (subst (has m) (sym (further k i)) x)),
        ),
      )
    where
      from : (has m k → P φ) → ((i : ℕ) → i < length φs → has m (suc k + i) → P (get_or φs i one))
          → (i : ℕ) → i < length (φ ∷ φs) → has m (k + i) → P (get_or (φ ∷ φs) i one)
      from f g ℕ.zero l x = f (rw add-zero at x)
      from f g (suc i) l x = g i (le_of_suc-le-suc l) (subst (has m) (further k i) x)

  pub members_none : (φs : List Tree) → All P (members_from 0 0 φs)
  members_none φs = (members_iff 0 0 φs).1 (λ i l x. absurd (has_none (0 + i) x))

  pub members_or : (a b : ℕ) (φs : List Tree) → All P (members_from (bit_or a b) 0 φs) ↔ (All P (members_from a 0 φs) × All P (members_from b 0 φs))
  members_or a b φs = (
    λ h. let f = (members_iff (bit_or a b) 0 φs).0 h in (
      (members_iff a 0 φs).1 (λ i l x. f i l ((has_or a b (0 + i)).1 (inl x))),
      (members_iff b 0 φs).1 (λ i l x. f i l ((has_or a b (0 + i)).1 (inr x))),
    ),
    λ h. (members_iff (bit_or a b) 0 φs).1
        (λ i l x. ⊎_elim ((members_iff a 0 φs).0 h.0 i l) ((members_iff b 0 φs).0 h.1 i l) ((has_or a b (0 + i)).0 x)),
  )

  pub members_one : (n : ℕ) (φs : List Tree) → n < length φs → All P (members_from (2 ^ n) 0 φs) ↔ P (get_or φs n one)
  members_one n φs l = (
    λ h. (members_iff (2 ^ n) 0 φs).0 h n l ((has_one n (0 + n)).1 (zero-add n)),
    λ p. (members_iff (2 ^ n) 0 φs).1 (λ i k x. subst (λ (j : ℕ). P (get_or φs j one)) (sym (sym (zero-add i) ∙ (has_one n (0 + i)).0 x)) p),
  )
