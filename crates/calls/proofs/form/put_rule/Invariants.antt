use Rattle.std.specs.Prelude.{◌<◌, ◌≡◌, length}
use Rattle.calls.proofs.Writing.{written}
use Rattle.calls.proofs.form.put_rule.Given as goal

abbrev pub invariant-loop-i : goal.invariant-loop-i
invariant-loop-i l = record {
  long : 0 < l.i → length l.rule.entries ≡ 64;
  written : l.out ≡ written l.rule.entries l.i l.initial.out;
}
