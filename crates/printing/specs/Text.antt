-- The exact text of a formula: document 01, "From text to rule", last paragraph. Definitions, to be believed. Assumes nothing.
use Rattle.std.specs.Prelude.{List, [], ◌∷◌, ◌++◌, cond, ℕ, ◌+◌, leb}
use Rattle.meaning.specs.Formula.{Formula, flag, not_flag, one, zero, and, or, next, weak, until, release}
use Rattle.meaning.specs.Syntax.{Syntax}
use Rattle.rule.specs.Numbering.{same_tree}
use Rattle.reading.specs.Grammar.{Leaf, Prefix, not, finally, globally, Binary, implies, single, prefixed, joined, level, left, right}

-- ---- how a formula is written

-- A text's tree by its signs, and that tree as reading has it.
pub data Written : Type 0 where
  leaf : Leaf → Written
  prefix : Prefix → Written → Written
  binary : Binary → Written → Written → Written

abbrev pub tree : Written → Syntax
tree (leaf x) = single x
tree (prefix p w) = prefixed p (tree w)
tree (binary o u v) = joined o (tree u) (tree v)

-- `1 U p` is written `F p`, and `0 R p` is written `G p`.
abbrev pub written_as : Formula → Written
written_as (flag k) = leaf (Leaf.flag k)
written_as (not_flag k) = prefix not (leaf (Leaf.flag k))
written_as one = leaf Leaf.one
written_as zero = leaf Leaf.zero
written_as (and p q) = binary Binary.and (written_as p) (written_as q)
written_as (or p q) = binary Binary.or (written_as p) (written_as q)
written_as (next p) = prefix Prefix.next (written_as p)
written_as (weak p) = prefix Prefix.weak (written_as p)
written_as (until p q) = cond (same_tree p one) (prefix finally (written_as q)) (binary Binary.until (written_as p) (written_as q))
written_as (release p q) = cond (same_tree p zero) (prefix globally (written_as q)) (binary Binary.release (written_as p) (written_as q))

-- ---- its bytes, by their ASCII numbers

abbrev pub leaf_byte : Leaf → ℕ
leaf_byte (Leaf.flag k) = 97 + k
leaf_byte Leaf.one = 49
leaf_byte Leaf.zero = 48

-- One space stands after `X N F G`, and none after `!`.
abbrev pub prefix_bytes : Prefix → List ℕ
prefix_bytes not = 33 ∷ []
prefix_bytes Prefix.next = 88 ∷ 32 ∷ []
prefix_bytes Prefix.weak = 78 ∷ 32 ∷ []
prefix_bytes finally = 70 ∷ 32 ∷ []
prefix_bytes globally = 71 ∷ 32 ∷ []

-- One space stands on each side.
abbrev pub binary_bytes : Binary → List ℕ
binary_bytes Binary.until = 32 ∷ 85 ∷ 32 ∷ []
binary_bytes Binary.release = 32 ∷ 82 ∷ 32 ∷ []
binary_bytes Binary.and = 32 ∷ 38 ∷ 32 ∷ []
binary_bytes Binary.or = 32 ∷ 124 ∷ 32 ∷ []
binary_bytes implies = 32 ∷ 45 ∷ 62 ∷ 32 ∷ []

-- Levels as in the grammar's table: a leaf and what a prefix leads are operands.
abbrev pub level_of : Written → ℕ
level_of (leaf x) = 0
level_of (prefix p w) = 0
level_of (binary o u v) = level o

-- Where a part of at most the level `slot` may stand, one that is looser stands in parentheses.
abbrev pub placed : ℕ → ℕ → List ℕ → List ℕ
placed slot l text = cond (leb l slot) text (40 ∷ (text ++ (41 ∷ [])))

abbrev pub bare : Written → List ℕ
bare (leaf x) = leaf_byte x ∷ []
bare (prefix p w) = prefix_bytes p ++ placed 0 (level_of w) (bare w)
bare (binary o u v) = placed (left o) (level_of u) (bare u) ++ (binary_bytes o ++ placed (right o) (level_of v) (bare v))

abbrev pub printed : ℕ → Written → List ℕ
printed slot w = placed slot (level_of w) (bare w)

-- A whole text may have any level.
unfoldable pub text_of : Formula → List ℕ
text_of φ = printed 4 (written_as φ)
