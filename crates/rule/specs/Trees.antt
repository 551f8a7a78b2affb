-- A formula by its shape: how many parts it has. What is true of all formulas is shown once for each shape. Assumes nothing.
use Rattle.std.specs.Prelude.{List, [], ◌++◌}
use Rattle.meaning.specs.Formula.{Formula as Tree, flag, not_flag, one, zero, and, or, next, weak, until, release}
use Rattle.rule.specs.Numbering.{parts}

pub data Shape : Type 0 where
  alone : Shape
  over : Tree → Shape
  both : Tree → Tree → Shape

abbrev pub shape : Tree → Shape
shape (flag k) = alone
shape (not_flag k) = alone
shape one = alone
shape zero = alone
shape (and p q) = both p q
shape (or p q) = both p q
shape (next p) = over p
shape (weak p) = over p
shape (until p q) = both p q
shape (release p q) = both p q

-- P is true of each part
abbrev pub Under : (Tree → Type 0) → Shape → Type 0
Under P alone = Unit {0}
Under P (over p) = P p
Under P (both p q) = P p × P q

-- induction over formulas
pub tree_ind : (P : Tree → Type 0) → ((φ : Tree) → Under P (shape φ) → P φ) → (φ : Tree) → P φ
tree_ind P f (flag k) = f (flag k) tt
tree_ind P f (not_flag k) = f (not_flag k) tt
tree_ind P f one = f one tt
tree_ind P f zero = f zero tt
tree_ind P f (and p q) = f (and p q) (tree_ind P f p, tree_ind P f q)
tree_ind P f (or p q) = f (or p q) (tree_ind P f p, tree_ind P f q)
tree_ind P f (next p) = f (next p) (tree_ind P f p)
tree_ind P f (weak p) = f (weak p) (tree_ind P f p)
tree_ind P f (until p q) = f (until p q) (tree_ind P f p, tree_ind P f q)
tree_ind P f (release p q) = f (release p q) (tree_ind P f p, tree_ind P f q)

-- the parts without the formula itself
abbrev pub inner_of : Shape → List Tree
inner_of alone = []
inner_of (over p) = parts p
inner_of (both p q) = parts p ++ parts q

abbrev pub inner : Tree → List Tree
inner φ = inner_of (shape φ)
