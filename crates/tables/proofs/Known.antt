-- What is known of a rule's numbering and of a decoder, as the lemmas take it. Assumes nothing.
use Rattle.std.specs.Prelude.{ℕ, ◌≤◌, ◌<◌, List}
use Rattle.std.proofs.Common.{arith}
use Rattle.rule.specs.Numbering.{IsRule}
use Rattle.rule.specs.declared.Rule.{Rule}
use Rattle.rule.specs.declared.numbering.Numbering.{Numbering}
use Rattle.rule.proofs.Deciding.{known_rule}
use Rattle.rule.proofs.ListingLaws.{rule_some, rule_few}
use Rattle.tables.specs.declared.decoding.Decoder.{Decoder}
use Rattle.tables.specs.InnerContracts.{Counted}

-- k is a number of the rule, and the counts of those below it are there
pub record Before (rule : Rule) (counts : List ℕ) (k : ℕ) : Type 0 where
  pub is_rule : IsRule rule
  pub below : k < rule.count
  pub small : rule.count ≤ 64
  pub counted : Counted rule k counts

-- the counts of all of the rule's formulas
pub record Ready (rule : Rule) (counts : List ℕ) : Type 0 where
  pub is_rule : IsRule rule
  pub small : rule.count ≤ 64
  pub counted : Counted rule rule.count counts

pub is_rule : (n : Numbering) → IsRule n.rule.now
is_rule n = known_rule n.rule.now n.is_rule

pub few : (n : Numbering) → n.rule.now.count ≤ 64
few n = let (φ, num) = is_rule n in rule_few n.rule.now φ num

pub some : (n : Numbering) → 0 < n.rule.now.count
some n = let (φ, num) = is_rule n in rule_some n.rule.now φ num

pub before : (n : Numbering) {counts : List ℕ} {k : ℕ} → k < n.rule.now.count → Counted n.rule.now k counts → Before n.rule.now counts k
before n h c = record { is_rule = is_rule n; below = h; small = few n; counted = c }

pub ready : (d : Decoder) → Ready d.numbering.rule.now d.counts
ready d = record { is_rule = is_rule d.numbering; small = d.small; counted = d.counted }

pub decoder_before : (d : Decoder) {k : ℕ} → k < d.numbering.rule.now.count → Before d.numbering.rule.now d.counts k
decoder_before d h = before d.numbering h (record { at = λ j l. let b : j < d.numbering.rule.now.count = omega arith in d.counted.at j b })
