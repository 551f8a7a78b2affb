-- What printing answers and leaves in the slice: document 01, "From text to rule" and refusals 6, 7 and 8. Definitions, to be believed. Assumes
-- nothing.
use Rattle.std.specs.Prelude.{◌≡◌, ◌⊎◌, List, ◌++◌, ℕ, ◌≤◌, ◌<◌, length, drop}
use Rattle.answers.specs.Answers.{Outcome, gives, refuses}
use Rattle.answers.specs.Refusals.{Answer, outcome}
use Rattle.meaning.specs.Formula.{Formula as Tree}
use Rattle.rule.specs.Numbering.{Numbers, IsRule}
use Rattle.rule.specs.declared.Rule.{Rule}
use Rattle.reading.specs.Grammar.{DepthIs, Sound}
use Rattle.printing.specs.Text.{tree, written_as, text_of}

-- The text of φ has over 1,024 bytes, or is deeper than 32 by the rule of reading.
abbrev pub Excessive : Tree → Type 0
Excessive φ = (1024 < length (text_of φ)) ⊎ ((d : ℕ) × DepthIs (text_of φ) d × (32 < d))

-- `Refuses rule size number`: the refusal due for a slice of that size, in document 01's order: 6, 8, 7.
pub data Refuses (rule : Rule) (size : ℕ) : ℕ → Type 0 where
  not_a_rule : (IsRule rule → ⊥) → Refuses rule size 6
  short_slice : IsRule rule → size < 1024 → Refuses rule size 8
  too_long : {φ : Tree} → Numbers rule φ → 1024 ≤ size → Excessive φ → Refuses rule size 7

-- The text of the rule's formula stands at the front, and all after it is as before.
pub record Prints (rule : Rule) (before after : List ℕ) (n : ℕ) : Type 0 where
  pub formula : Tree
  pub numbers : Numbers rule formula
  pub large : 1024 ≤ length before
  pub sound : Sound (text_of formula) (tree (written_as formula))
  pub long : n ≡ length (text_of formula)
  pub left : after ≡ text_of formula ++ drop n before

abbrev pub Right : Rule → List ℕ → List ℕ → Outcome ℕ (Unit {0}) → Type 0
Right rule before after (gives n) = Prints rule before after n
Right rule before after (refuses n left) = Refuses rule (length before) n × (after ≡ before)

-- The answer is right, of a slice that was `before` and is `after`.
pub record Printing (rule : Rule) (before after : List ℕ) (r : Answer ℕ) : Type 0 where
  pub right : Right rule before after (outcome r)
