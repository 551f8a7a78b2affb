use native.Mathlib.Omega.{arith}
use borrow.Author.Rules.{rules}
use Rattle.walking.proofs.Words.{laid_low, laid_high}
use Rattle.walking.proofs.Walk.with_if.Goals as goal

pub returns-then-number-ge64 : goal.returns-then-number-ge64
returns-then-number-ge64 c =
    laid_high c.args.self.low c.args.self.high c.args.state.0 _ c.args.wanted (search rules) c.from-bit.ensures c.if-number-ge64.true c.requires

pub returns-else-number-ge64 : goal.returns-else-number-ge64
returns-else-number-ge64 c =
    laid_low c.args.self.low c.args.self.high c.args.state.0 _ c.args.wanted (search rules) c.from-bit.ensures (omega (arith, c.if-number-ge64.false))
