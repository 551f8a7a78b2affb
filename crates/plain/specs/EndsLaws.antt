-- A mask of formulas by their places in the list and by what stands in the entries; and what `ends_of` promises admits one outcome only. Assumes
-- nothing.
use Rattle.std.specs.Prelude.{ℕ, ◌^◌, ◌<◌, ◌≡◌, ◌↔◌, true, false, List, [], T, Result, length, get_or}
use Rattle.std.proofs.Math.Decide.{dec_lt}
use Rattle.std.proofs.Common.{arith, sym, ◌∙◌, subst}
use Rattle.std.proofs.Math.Path.{refl, subst⁻¹}
use Rattle.std.proofs.Math.Logic.{by_cases}
use Rattle.std.proofs.Math.Logic.Iff
use Rattle.std.proofs.Math.Dec.{not_T}
use Rattle.answers.specs.Answers.{gives}
use Rattle.answers.specs.Refusals.{outcome}
use Rattle.answers.specs.Laws.Outcomes.{outcome_one}
use Rattle.answers.specs.Laws.Told.{outcome_told}
use Rattle.answers.specs.declared.Refusal.{Refusal}
use Rattle.laws.specs.Decided.{T_false, T_and}
use Rattle.laws.specs.Masks.{has, bit, bit_means, has_one, same_members}
use Rattle.meaning.specs.Formula.{Formula as Tree, one}
use Rattle.meaning.specs.Ending.{end_yes}
use Rattle.meaning.proofs.Holding.{end_iff}
use Rattle.meaning.specs.Dialect.{dialect}
use Rattle.meaning.specs.Rest.{Rest}
use Rattle.meaning.specs.declared.Profile.{Profile}
use Rattle.meaning.specs.declared.Profile.TheVariants.{Finite, Last}
use Rattle.rule.specs.Numbering.{Numbers, formulas}
use Rattle.rule.proofs.ListingLaws.{listed_at, rule_listed, rule_count, rule_one}
use Rattle.rule.specs.declared.Formula.{Formula}
use Rattle.rule.specs.declared.Rule.{Rule}
use Rattle.plain.specs.Masking.{MaskOf}
use Rattle.plain.specs.Ends.{AcceptsAlone, MayAccept, EndsRight, EndsOf}

module _ (rule : Rule) (φ : Tree) (is : Numbers rule φ) (P : Tree → Type 0) (m : ℕ) where
  abbrev At : ℕ → Type 0
  At k = (k < length (formulas φ)) × P (get_or (formulas φ) k one)

  pub mask_listed : MaskOf rule.entries P rule.count m → (k : ℕ) → has m k ↔ At k
  mask_listed x k = (
    λ h. by_cases (dec_lt k rule.count)
        (λ below. let l : k < length (formulas φ) = omega (arith, rule_count rule φ is) in
        (l, (x.each k (get_or (formulas φ) k one) below ((rule_listed rule φ is).stand k l)).0 ((bit_means m k).1 h)))
        (λ above. absurd (subst T (x.none k (omega arith)) ((bit_means m k).1 h))),
    λ (l, p). (bit_means m k).0 ((x.each k (get_or (formulas φ) k one) (omega (arith, rule_count rule φ is)) ((rule_listed rule φ is).stand k l)).1 p),
  )

  pub listed_mask : ((k : ℕ) → has m k ↔ At k) → MaskOf rule.entries P rule.count m
  listed_mask f = record {
    each = λ k ψ h s. let l : k < length (formulas φ) = omega (arith, rule_count rule φ is) in
        let same = listed_at rule.entries (formulas φ) (rule_listed rule φ is) ψ k l s in
        Iff.trans (bit_means m k) (λ x. subst P same ((f k).0 x).1, λ p. (f k).1 (l, subst⁻¹ P same p));
    none = λ k h. T_false (λ t. omega (arith, rule_count rule φ is, ((f k).0 ((bit_means m k).0 t)).0));
  }

-- the mask of what is equivalent
pub mask_iff : (entries : List Formula) (P Q : Tree → Type 0) → ((φ : Tree) → P φ ↔ Q φ) → (n m : ℕ) → MaskOf entries P n m → MaskOf entries Q n m
mask_iff entries P Q f n m x = record { each = λ k φ l s. Iff.trans (x.each k φ l s) (f φ); none = x.none }

-- it is what the formula says, put off to a date that need not be there, where none is left
alone_rest : (π : Profile) (k : ℕ) (ψ : Tree) → k < (dialect π).most → AcceptsAlone π k ψ ↔ Rest π false ψ []
alone_rest Finite k ψ h = Iff.trans (T_and (end_yes ψ) true) (λ x. (end_iff ψ).0 x.0, λ x. ((end_iff ψ).1 x, tt))
alone_rest Last k ψ h = (λ t. tt, λ t. not_T (bit (2 ^ k) 63) (λ b. omega (arith, (has_one k 63).0 ((bit_means (2 ^ k) 63).0 b))))

module _ (rule : Rule) (φ : Tree) (is : Numbers rule φ) (m : ℕ) where
  abbrev Ends : Tree → Type 0
  Ends ψ = Rest rule.profile false ψ []

  alone_at : (k : ℕ) → k < length (formulas φ) → AcceptsAlone rule.profile k (get_or (formulas φ) k one) ↔ Ends (get_or (formulas φ) k one)
  alone_at k l = alone_rest rule.profile k (get_or (formulas φ) k one) (omega (arith, is.fits.few))

  pub mask_may_accept : MaskOf rule.entries Ends rule.count m → MayAccept rule.profile φ m
  mask_may_accept x k = Iff.trans (mask_listed rule φ is Ends m x k) (λ (l, p). (l, (alone_at k l).1 p), λ (l, p). (l, (alone_at k l).0 p))

  pub may_accept_mask : MayAccept rule.profile φ m → MaskOf rule.entries Ends rule.count m
  may_accept_mask x = listed_mask rule φ is Ends m (λ k. Iff.trans (x k) (λ (l, p). (l, (alone_at k l).0 p), λ (l, p). (l, (alone_at k l).1 p)))

module _ (rule : Rule) where
  values : (u v : Unit {0}) (m l : ℕ) → EndsRight rule (gives m) → EndsRight rule (gives l) → (m ≡ l) × (u ≡ v)
  values u v m l (φ, a, f) (ψ, b, g) =
      let same = subst⁻¹ (λ (χ : Tree). MayAccept rule.profile χ l) (rule_one rule φ ψ a b) g in
      (same_members m l (λ k. Iff.trans (f k) (Iff.symm (same k))), refl)

  -- one outcome only
  pub ends_of_one : (a b : Result ℕ Refusal) → EndsOf rule a → EndsOf rule b → a ≡ b
  ends_of_one a b x y = outcome_told a b
      (outcome_one (λ u. EndsRight rule) values (λ u v m n k l x y. (x.0 ∙ sym y.0, refl, refl)) (λ u v m n l (φ, is, f) (e, h). h (φ, is)) tt tt (outcome a) (outcome b) x.right y.right).0
