use Rattle.std.proofs.Common.{arith, sym, ◌∙◌, length-set, rules}
use Rattle.calls.specs.FormLaws.{encodes_entry, bytes_codes}
use Rattle.calls.proofs.Decoding.{read_code, unread_code, coded_more}
use Rattle.calls.proofs.form.encoded.Goals as goal

pub loop-i-preserved : goal.loop-i-preserved
loop-i-preserved c = record {
  size = search rules;
  profile = search rules;
  counts = search rules;
  long = simp length-set c.loop-i.invariant.long;
  codes = coded_more _ _ c.loop-i.i _ (omega (arith, c.loop-i.invariant.long, c.loop-i-test.true))
      (read_code _ c.try_from-in-loop-i.ensures c.in_ok-rule.ensures.value ∙ c.code_at.ensures) c.loop-i.invariant.codes;
}

pub returns-in_err-rule : goal.returns-in_err-rule
returns-in_err-rule c = rw c.from_residual-in_err-rule.ensures (record {
  encoded = λ r e. unread_code _ c.try_from-in-loop-i.ensures c.in_err-rule.ensures.value _ (encodes_entry _ _ _ r c.loop-i.i e c.loop-i-test.true ∙ sym c.code_at.ensures);
})

pub returns : goal.returns
returns c =
    let t = c.loop-i.invariant in
    record {
      encoded = record {
        profile_is = t.profile;
        counts = t.counts;
        size = t.long;
        codes = bytes_codes c.loop-i.rule.entries c.args.bytes.now (omega (arith, t.size, t.long)) (λ i h. t.codes i (omega (arith, t.long, c.loop-i-test.false)));
      };
    }
