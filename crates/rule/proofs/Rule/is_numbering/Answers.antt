use Rattle.std.specs.Prelude.{ℕ, ◌-◌, ◌≤◌, ◌<◌, ◌≡◌, Option, Some, None, is_some, length}
use Rattle.std.proofs.Common.{sym, ◌∙◌, arith, rules}
use Rattle.laws.specs.Decided.{Decides, decides_yes, decides_no}
use Rattle.meaning.specs.Dialect.{dialect}
use Rattle.rule.specs.Numbering.{IsRule}
use Rattle.rule.specs.Standing.{Apart}
use Rattle.rule.specs.Listing.{Unused}
use Rattle.rule.specs.Visiting.{VisitIs}
use Rattle.rule.proofs.VisitedLaws.{passes_rule, rule_passes}
use Rattle.rule.specs.declared.Rule.{Rule}
use Rattle.rule.proofs.Rule.is_numbering.Goals as goal
use Rattle.rule.proofs.Rule.is_numbering.Goals.{then-count-gt0, else-count-gt0, then-count-most, else-count-most, then-all_apart, else-all_apart}

-- the visit decides what the other tests have left open
visited : (rule : Rule) → length rule.entries ≡ 64 → 0 < rule.count → rule.count ≤ (dialect rule.profile).most → Apart rule.entries rule.count
    → Unused rule.entries rule.count → (v : Option ℕ) → VisitIs rule.entries (rule.count - 1) 0 v → Decides (is_some v) (IsRule rule)
visited rule long some few apart unused (Some m) h =
    passes_rule rule long (record { some = some; few = few; apart = apart; unused = unused; visits = (m, h.visits) })
visited rule long some few apart unused None h = λ r. let (m, v) = (rule_passes rule r).visits in h.visits m v

pub returns-then-rest_unused : goal.returns-then-rest_unused
returns-then-rest_unused c = elim c.if-all_apart.branch [
  | then-all_apart w ↦ elim c.if-count-most.branch [
    | then-count-most v ↦ elim c.if-count-gt0.branch [
      | then-count-gt0 u ↦ rw c.is_some.ensures (
          visited _ (search rules) u.if-count-gt0.true (grind arith) (decides_yes _ (sym v.value-is ∙ w.if-all_apart.true) v.all_apart.ensures)
          (decides_yes _ (sym w.value-is ∙ c.if-rest_unused.true) w.rest_unused.ensures) _ c.visit.ensures)
      | else-count-gt0 u ↦ absurd (grind arith)
    ]
    | else-count-most v ↦ absurd (grind arith)
  ]
  | else-all_apart w ↦ absurd (grind arith)
]

pub returns-else-rest_unused : goal.returns-else-rest_unused
returns-else-rest_unused c = rw c.if-rest_unused.false (λ r.
    let p = rule_passes _ r in
    elim c.if-all_apart.branch [
      | then-all_apart w ↦ decides_no _ (sym w.value-is ∙ c.if-rest_unused.false) w.rest_unused.ensures p.unused
      | else-all_apart w ↦ elim c.if-count-most.branch [
        | then-count-most v ↦ decides_no _ (sym v.value-is ∙ w.if-all_apart.false) v.all_apart.ensures p.apart
        | else-count-most v ↦ elim c.if-count-gt0.branch [
          | then-count-gt0 u ↦ absurd (grind (arith, p.few))
          | else-count-gt0 u ↦ absurd (omega (arith, p.some, u.if-count-gt0.false))
        ]
      ]
    ])
