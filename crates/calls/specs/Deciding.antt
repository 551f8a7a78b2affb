-- A profile's number, a count and bytes are those of some rule or of none, which is decided; so there is the rule that they stand for. Assumes nothing.
use Rattle.std.specs.Prelude.{ℕ, ◌≡◌, refl, List, [], ◌∷◌, length}
use Rattle.std.proofs.Math.Decide.{ℕ_discrete}
use Rattle.std.proofs.Common.{arith, sym, ap, ◌∙◌, inl, inr}
use Rattle.laws.specs.Decided.{both?, same?}
use Rattle.meaning.specs.Choosing.{known?}
use Rattle.rule.specs.Numbering.{empty_rule}
use Rattle.rule.specs.Coding.{code_of, decoded, decoded_code}
use Rattle.rule.proofs.Deciding.{same_code?}
use Rattle.rule.specs.declared.Formula.{Formula}
use Rattle.rule.specs.declared.Code.{Code}
use Rattle.rule.specs.declared.Rule.{Rule}
use Rattle.calls.specs.ByteForm.{bytes_of, Encodes, RuleIs}
use Rattle.calls.specs.FormLaws.{length_bytes, encodes_length}

-- a code is that of the formula which it decodes to, or of none
formula? : (code : Code) → Dec ((f : Formula) × (code_of f ≡ code))
formula? code = same? (
  λ (f, e). ap code_of (ap decoded (sym e) ∙ decoded_code f) ∙ e,
  λ e. (decoded code, e),
) (same_code? (code_of (decoded code)) code)

-- bytes are those of entries that are found three by three, or of none
entries? : (bytes : List ℕ) → Dec ((l : List Formula) × (bytes_of l ≡ bytes))
entries? [] = yes ([], refl)
entries? (a ∷ []) = no (λ (l, e). omega (arith, ap length e, length_bytes l))
entries? (a ∷ b ∷ []) = no (λ (l, e). omega (arith, ap length e, length_bytes l))
entries? (a ∷ b ∷ c ∷ bytes) = same? (
  λ (l, e). apart l e,
  λ ((f, e), (l, g)). (f ∷ l, λ i. (e i).kind ∷ (e i).first ∷ (e i).second ∷ g i),
) (both? (formula? code) (entries? bytes))
  where
    code : Code
    code = record { kind = a; first = b; second = c }

    apart : (l : List Formula) → bytes_of l ≡ a ∷ b ∷ c ∷ bytes → ((f : Formula) × (code_of f ≡ code)) × ((l : List Formula) × (bytes_of l ≡ bytes))
    apart [] e = absurd (omega (arith, ap length e))
    apart (x ∷ l) e =
        let k : (code_of x).kind ≡ a = cc in
        let f : (code_of x).first ≡ b = cc in
        let s : (code_of x).second ≡ c = cc in
        let t : bytes_of l ≡ bytes = cc in
        ((x, λ i. record { kind = k i; first = f i; second = s i }), (l, t))

encodes? : (profile count : ℕ) (bytes : List ℕ) → Dec ((rule : Rule) × Encodes profile count bytes rule)
encodes? profile count bytes = same? (
  λ (r, x). ((r.profile, x.profile_is), (encodes_length profile count bytes r x, (r.entries, x.codes))),
  λ ((π, p), (size, (l, codes))). (
    record { profile = π; count = count; entries = l },
    record { profile_is = p; counts = refl; size = omega (arith, ap length codes, length_bytes l); codes = codes },
  ),
) (both? (known? profile) (both? (ℕ_discrete (length bytes) 192) (entries? bytes)))

-- the rule of a profile's number, a count and bytes, the empty rule where they are those of none
pub rule_from : (profile count : ℕ) (bytes : List ℕ) → (rule : Rule) × RuleIs profile count bytes rule
rule_from profile count bytes = go (encodes? profile count bytes)
  where
    go : Dec ((rule : Rule) × Encodes profile count bytes rule) → (rule : Rule) × RuleIs profile count bytes rule
    go (yes (r, x)) = (r, record { from = inl x })
    go (no n) = (empty_rule, record { from = inr (refl, λ r x. n (r, x)) })
