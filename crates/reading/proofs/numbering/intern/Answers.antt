use mathlib.Core.Path.{refl, subst}
use Prim.Native.Nat.{◌≤◌, ◌<◌}
use native.Mathlib.Omega.{arith}
use Rattle.meaning.specs.Dialect.{dialect}
use Rattle.meaning.proofs.DialectLaws.{most_few}
use Rattle.meaning.specs.declared.Profile.{Profile}
use Rattle.reading.specs.Growing.{intern_old, intern_new, intern_full}
use Rattle.reading.proofs.numbering.intern.Goals as goal

pub returns-in-Some : goal.returns-in-Some
returns-in-Some c =
    let f = c.in-Some.ensures in
    record { grew = λ π seen φ h e. intern_old π c.args.rule.now seen h φ c.args.formula e c.in-Some.known (omega (arith, f.finding.0)) f.finding.1 }

pub returns-then-most-count : goal.returns-then-most-count
returns-then-most-count c =
    let f = c.in_default.ensures in
    record {
      grew = λ π seen φ h e.
          intern_full π c.args.rule.now seen h φ c.args.formula e (λ k b. f.finding k (omega (arith, h.count, h.few, most_few π)))
          (subst (λ (z : Profile). (dialect z).most ≤ c.args.rule.now.count) h.profile_is (omega (arith, c.if-most-count.true, c.most.ensures.0)));
    }

pub returns : goal.returns
returns c =
    let f = c.in_default.ensures in
    record {
      grew = λ π seen φ h e.
          intern_new π c.args.rule.now seen h φ c.args.formula e
          (subst (λ (z : Profile). c.args.rule.now.count < (dialect z).most) h.profile_is (omega (arith, c.if-most-count.false, c.most.ensures.0)))
          (record { 0 = c.args.rule.now.count }) (λ k b. f.finding k (omega (arith, h.count, h.few, most_few π))) refl;
    }
