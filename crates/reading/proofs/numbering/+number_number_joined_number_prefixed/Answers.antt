use Rattle.reading.specs.Pushing.{leaf_numbered}
use Rattle.reading.proofs.numbering.+number_number_joined_number_prefixed.Goals as goal

pub number-returns-in-Leaf : goal.number-returns-in-Leaf
number-returns-in-Leaf t c =
    let x = c.args in
    leaf_numbered x.tree.now.nodes x.at x.positive x.rule.now c.in-Leaf.leaf c.leaf_formula.result c.intern.result c.intern.new.rule c.in-Leaf.is c.leaf_formula.ensures c.intern.ensures
