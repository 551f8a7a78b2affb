use Rattle.std.proofs.Common.{◌≡◌, sym, ap, ◌∙◌, arith}
use Rattle.rule.specs.Coding.{code_of, decoded, decoded_code}
use Rattle.rule.specs.declared.Code.{Code}
use Rattle.rule.proofs.FormulaTryFromCode.try_from.Goals as goal

pub returns-else-eq : goal.returns-else-eq
returns-else-eq c = record {
  decodes = λ f e.
      let here : decoded c.args.code ≡ f = ap decoded (sym e) ∙ decoded_code f in
      let same : c.from.result ≡ c.args.code = c.from.ensures ∙ ap code_of (c.decoded-formula.ensures ∙ here) ∙ e in
      let k = ap (λ (c : Code). c.kind) same in
      let l = ap (λ (c : Code). c.first) same in
      let m = ap (λ (c : Code). c.second) same in
      grind arith;
}
