-- The formulas of a rule that a state which accepts may have, as a mask: document 01, "Tables" and refusal 6; document 02, Q-6. Definitions, to be
-- believed. Assumes nothing.
use Rattle.std.specs.Prelude.{ℕ, ◌^◌, ◌<◌, [], ◌∷◌, ◌≡◌, ◌↔◌, T, Result, length, get_or}
use Rattle.answers.specs.Answers.{Outcome, gives, refuses}
use Rattle.answers.specs.Refusals.{outcome}
use Rattle.answers.specs.declared.Refusal.{Refusal}
use Rattle.laws.specs.Masks.{has}
use Rattle.meaning.specs.Formula.{Formula as Tree, one}
use Rattle.meaning.specs.Dialect.{dialect}
use Rattle.meaning.specs.declared.Profile.{Profile}
use Rattle.rule.specs.Numbering.{Numbers, IsRule, formulas}
use Rattle.rule.specs.declared.Rule.{Rule}

-- the set of ψ alone, with number k, accepts: under the profile finite where ψ says yes at the end, under last always, since it has no mark
abbrev pub AcceptsAlone : Profile → ℕ → Tree → Type 0
AcceptsAlone π k ψ = T ((dialect π).accepts (2 ^ k) (ψ ∷ []))

-- the mask has k exactly where φ has such a formula with number k
abbrev pub MayAccept : Profile → Tree → ℕ → Type 0
MayAccept π φ m = (k : ℕ) → has m k ↔ ((k < length (formulas φ)) × AcceptsAlone π k (get_or (formulas φ) k one))

-- when an answer is right: the mask of the formula that the rule numbers, or 6 where the rule numbers none
abbrev pub EndsRight : Rule → Outcome ℕ (Unit {0}) → Type 0
EndsRight rule (gives m) = (φ : Tree) × Numbers rule φ × MayAccept rule.profile φ m
EndsRight rule (refuses n left) = (n ≡ 6) × (¬ IsRule rule)

-- the answer is right
pub record EndsOf (rule : Rule) (r : Result ℕ Refusal) : Type 0 where
  pub right : EndsRight rule (outcome r)
