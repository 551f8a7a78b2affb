use Rattle.std.proofs.Common.{[], false}
use Rattle.meaning.specs.Rest.{Rest}
use Rattle.plain.specs.Masking.{MaskOf}
use Rattle.plain.proofs.passes.at_end.Given as goal

abbrev pub invariant-loop-k : goal.invariant-loop-k
invariant-loop-k l = MaskOf l.numbering.rule.now.entries (λ φ. Rest l.numbering.rule.now.profile false φ []) l.k l.here
