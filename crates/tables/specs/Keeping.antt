-- What is kept of the formulas: nothing at first, then a choice more. Assumes nothing.
use Rattle.std.specs.Prelude.{ℕ, zero, suc, ◌<◌, ◌≡◌, Option, Some, None, List, length, get_or, set, replicate}
use Rattle.std.proofs.Common.{sym, ◌∙◌, get_or-set_same, get_or-set_other}
use Rattle.std.proofs.Math.Decide.{ℕ_discrete}
use Rattle.std.proofs.Math.Path.{subst⁻¹}
use Rattle.std.proofs.Math.Logic.{by_cases}
use Rattle.rule.specs.declared.Rule.{Rule}
use Rattle.tables.specs.declared.Choice.{Choice}
use Rattle.tables.specs.declared.KeptChoice.{KeptChoice}
use Rattle.tables.specs.InnerContracts.{ChoiceOf, Kept}

pub kept_none : (rule : Rule) (n : ℕ) → Kept rule (replicate n None)
kept_none rule n = record { at = λ k x e. absurd (nothing n k x e) }
  where
    nothing : (n k : ℕ) (x : KeptChoice) → get_or (replicate n None) k None ≡ Some x → ⊥
    nothing zero k x e = cc
    nothing (suc n) zero x e = cc
    nothing (suc n) (suc k) x e = nothing n k x e

pub kept_choice : (rule : Rule) (kept : List (Option KeptChoice)) (k : ℕ) (x : KeptChoice) → Kept rule kept → get_or kept k None ≡ Some x → ChoiceOf rule k x.number x.choice
kept_choice rule kept k x h e = h.at k x e

pub keep_more : (rule : Rule) (kept : List (Option KeptChoice)) (k n : ℕ) (c : Choice) → k < length kept → Kept rule kept → ChoiceOf rule k n c
    → Kept rule (set kept k (Some (record { number = n; choice = c })))
keep_more rule kept k n c l h is = record {
  at = λ j x e. by_cases (ℕ_discrete j k)
      (λ s. let here : Some (record { number = n; choice = c }) ≡ Some x = sym (get_or-set_same kept k (Some (record { number = n; choice = c })) None l) ∙ (rw s at e) in
      let same : x ≡ record { number = n; choice = c } = cc in
      subst⁻¹ (λ (i : ℕ). ChoiceOf rule i x.number x.choice) s (subst⁻¹ (λ (y : KeptChoice). ChoiceOf rule k y.number y.choice) same is))
      (λ d. h.at j x (sym (get_or-set_other kept k j (Some (record { number = n; choice = c })) None d) ∙ e));
}
