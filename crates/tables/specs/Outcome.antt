-- A build's statement admits one outcome only. Assumes nothing.
use Rattle.std.specs.Prelude.{ℕ, ◌≡◌, length, Result}
use Rattle.std.proofs.Math.Path.{refl}
use Rattle.std.proofs.Common.{ap, subst}
use Rattle.answers.specs.Answers.{value_or}
use Rattle.answers.specs.Refusals.{outcome}
use Rattle.answers.specs.Laws.Told.{outcome_told}
use Rattle.answers.specs.declared.Refusal.{Refusal}
use Rattle.meaning.specs.Formula.{Formula as Tree}
use Rattle.rule.proofs.ListingLaws.{rule_one}
use Rattle.rule.specs.declared.Rule.{Rule}
use Rattle.tables.specs.declared.Counts.{Counts}
use Rattle.tables.specs.Tables.{TooMuch, states, edge_entries}
use Rattle.tables.specs.Building.{Answer, counts, Slices, filled, Builds, not_a_rule, short_slice, too_much, tables}

-- answers that are the same have the same counts
pub same_counts : (n k m l : ℕ) → counts n k ≡ counts m l → (n ≡ m) × (k ≡ l)
same_counts n k m l e =
    let old : Counts = record { states = 0; edges = 0 } in
    (ap (λ (a : Answer). (value_or a old).states) e, ap (λ (a : Answer). (value_or a old).edges) e)

module _ (rule : Rule) (s : Slices) where
  -- one answer, and one content of the slices
  pub builds_one : (a b : Answer) (t u : Slices) → Builds rule s a t → Builds rule s b u → (a ≡ b) × (t ≡ u)
  builds_one a b t u (not_a_rule n) (not_a_rule m) = (refl, refl)
  builds_one a b t u (not_a_rule n) (short_slice r l) = absurd (n r)
  builds_one a b t u (not_a_rule n) (too_much φ m l x) = absurd (n (φ, m))
  builds_one a b t u (not_a_rule n) (tables φ m l x) = absurd (n (φ, m))
  builds_one a b t u (short_slice r l) (not_a_rule n) = absurd (n r)
  builds_one a b t u (short_slice r l) (short_slice q k) = (refl, refl)
  builds_one a b t u (short_slice r l) (too_much φ m k x) = absurd (l k)
  builds_one a b t u (short_slice r l) (tables φ m k x) = absurd (l k)
  builds_one a b t u (too_much φ m l x) (not_a_rule n) = absurd (n (φ, m))
  builds_one a b t u (too_much φ m l x) (short_slice r k) = absurd (k l)
  builds_one a b t u (too_much φ m l x) (too_much ψ n k y) = (refl, refl)
  builds_one a b t u (too_much φ m l x) (tables ψ n k y) = absurd (y (subst (TooMuch rule.profile) (rule_one rule φ ψ m n) x))
  builds_one a b t u (tables φ m l x) (not_a_rule n) = absurd (n (φ, m))
  builds_one a b t u (tables φ m l x) (short_slice r k) = absurd (k l)
  builds_one a b t u (tables φ m l x) (too_much ψ n k y) = absurd (x (subst (TooMuch rule.profile) (rule_one rule ψ φ n m) y))
  builds_one a b t u (tables φ m l x) (tables ψ n k y) =
      let e = rule_one rule φ ψ m n in
      (ap (λ (χ : Tree). counts (length (states rule.profile χ)) (length (edge_entries rule.profile χ))) e, ap (λ (χ : Tree). filled rule.profile χ s) e)

  -- one outcome only
  pub build_one : (q r : Result Counts Refusal) (t u : Slices) → Builds rule s (outcome q) t → Builds rule s (outcome r) u → (q ≡ r) × (t ≡ u)
  build_one q r t u x y = let (a, b) = builds_one (outcome q) (outcome r) t u x y in (outcome_told q r a, b)
