use Rattle.std.specs.Prelude.{◌≡◌, length}
use Rattle.meaning.specs.Dialect.{dialect}
use Rattle.calls.proofs.Decoding.{CodedTo}
use Rattle.calls.proofs.form.encoded.Given as goal

abbrev pub invariant-loop-i : goal.invariant-loop-i
invariant-loop-i l = record {
  size : length l.bytes ≡ 192;
  profile : (dialect l.rule.profile).number ≡ l.profile;
  counts : l.rule.count ≡ l.count;
  long : length l.rule.entries ≡ 64;
  codes : CodedTo l.bytes l.rule.entries l.i;
}
