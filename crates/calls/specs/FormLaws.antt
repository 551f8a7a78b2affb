-- Laws of the byte form: entries have one form, and bytes are the form of one rule at most. Assumes nothing.
use Rattle.std.specs.Prelude.{ℕ, zero, suc, ◌+◌, ◌*◌, ◌<◌, ◌≡◌, refl, ◌↔◌, List, [], ◌∷◌, length, get_or}
use Rattle.std.proofs.Common.{not-suc-le-zero, le_of_suc-le-suc, arith, sym, ap, ap₂, ◌∙◌, subst, inl, inr}
use Rattle.meaning.specs.Choosing.{profile_one}
use Rattle.rule.specs.Numbering.{formula_at, IsRule, empty_in, empty_rule}
use Rattle.rule.proofs.ListingLaws.{rule_some}
use Rattle.rule.specs.Coding.{code_of, code_same, decoded, decoded_code}
use Rattle.rule.specs.declared.Formula.{Formula}
use Rattle.rule.specs.declared.Code.{Code}
use Rattle.rule.specs.declared.Rule.{Rule}
use Rattle.calls.specs.ByteForm.{bytes_of, code_at, Encodes, FromBytes, RuleIs, HasRule}

pub length_bytes : (l : List Formula) → length (bytes_of l) ≡ 3 * length l
length_bytes [] = refl
length_bytes (e ∷ l) = omega (arith, length_bytes l)

-- past the first entry
code_after : (a b c : ℕ) (l : List ℕ) (i : ℕ) → code_at (a ∷ b ∷ c ∷ l) (suc i) ≡ code_at l i
code_after a b c l i = λ k. record { kind = at (3 * i) (3 * suc i) (omega arith) k; first = at (3 * i + 1) (3 * suc i + 1) (omega arith) k; second = at (3 * i + 2) (3 * suc i + 2) (omega arith) k }
  where
    at : (n m : ℕ) → m ≡ suc (suc (suc n)) → get_or (a ∷ b ∷ c ∷ l) m 0 ≡ get_or l n 0
    at n m e = ap (λ (m : ℕ). get_or (a ∷ b ∷ c ∷ l) m 0) e

-- the bytes of an entry are its code
pub code_bytes : (l : List Formula) (i : ℕ) → i < length l → code_at (bytes_of l) i ≡ code_of (formula_at l i)
code_bytes [] i h = absurd (not-suc-le-zero h)
code_bytes (e ∷ l) zero h = refl
code_bytes (e ∷ l) (suc i) h = code_after _ _ _ (bytes_of l) i ∙ code_bytes l i (le_of_suc-le-suc h)

-- bytes that are the code at every entry are the entries' bytes
pub bytes_codes : (l : List Formula) (bytes : List ℕ) → length bytes ≡ 3 * length l → ((i : ℕ) → i < length l → code_of (formula_at l i) ≡ code_at bytes i)
    → bytes_of l ≡ bytes
bytes_codes [] [] e f = refl
bytes_codes [] (a ∷ s) e f = absurd (omega arith)
bytes_codes (x ∷ l) [] e f = absurd (omega arith)
bytes_codes (x ∷ l) (a ∷ []) e f = absurd (omega arith)
bytes_codes (x ∷ l) (a ∷ b ∷ []) e f = absurd (omega arith)
bytes_codes (x ∷ l) (a ∷ b ∷ c ∷ s) e f =
    let here : code_of x ≡ code_at (a ∷ b ∷ c ∷ s) 0 = f 0 (omega arith) in
    let after = bytes_codes l s (omega arith) (λ i h. f (suc i) (omega arith) ∙ code_after a b c s i) in
    let k = ap (λ (n : Code). n.kind) here in
    let m = ap (λ (n : Code). n.first) here in
    let n = ap (λ (n : Code). n.second) here in
    λ i. k i ∷ m i ∷ n i ∷ after i

-- entries with one form are one
pub bytes_same : (l m : List Formula) → bytes_of l ≡ bytes_of m → l ≡ m
bytes_same [] [] e = refl
bytes_same [] (y ∷ m) e = absurd (omega (arith, ap length e))
bytes_same (x ∷ l) [] e = absurd (omega (arith, ap length e))
bytes_same (x ∷ l) (y ∷ m) e =
    let k : (code_of x).kind ≡ (code_of y).kind = cc in
    let f : (code_of x).first ≡ (code_of y).first = cc in
    let s : (code_of x).second ≡ (code_of y).second = cc in
    let t : bytes_of l ≡ bytes_of m = cc in
    let code : code_of x ≡ code_of y = λ i. record { kind = k i; first = f i; second = s i } in
    ap₂ ◌∷◌ (code_same x y code) (bytes_same l m t)

-- bytes are those of one rule at most
pub encodes_one : (profile count : ℕ) (bytes : List ℕ) (r s : Rule) → Encodes profile count bytes r → Encodes profile count bytes s → r ≡ s
encodes_one profile count bytes r s x y =
    let c : r.count ≡ s.count = x.counts ∙ sym y.counts in
    let l : r.entries ≡ s.entries = bytes_same r.entries s.entries (x.codes ∙ sym y.codes) in
    let p : r.profile ≡ s.profile = profile_one r.profile s.profile (x.profile_is ∙ sym y.profile_is) in
    λ i. record { profile = p i; count = c i; entries = l i }

-- one rule only
pub rule_is_one : (profile count : ℕ) (bytes : List ℕ) (r s : Rule) → RuleIs profile count bytes r → RuleIs profile count bytes s → r ≡ s
rule_is_one profile count bytes r s x y = go x.from y.from
  where
    go : FromBytes profile count bytes r → FromBytes profile count bytes s → r ≡ s
    go (inl u) (inl v) = encodes_one profile count bytes r s u v
    go (inl u) (inr v) = absurd (v.1 r u)
    go (inr u) (inl v) = absurd (u.1 s v)
    go (inr u) (inr v) = u.0 ∙ sym v.0

-- ---- the code of entry i

-- bytes of a rule have at each entry the code of its formula
pub encodes_entry : (profile count : ℕ) (bytes : List ℕ) (r : Rule) (i : ℕ) → Encodes profile count bytes r → i < 64 → code_of (formula_at r.entries i) ≡ code_at bytes i
encodes_entry profile count bytes r i x h =
    sym (code_bytes r.entries i (subst (λ (n : ℕ). i < n) (sym x.size) h)) ∙ ap (λ b. code_at b i) x.codes

-- and it is the code of the formula that it decodes to
pub encodes_code : (profile count : ℕ) (bytes : List ℕ) (r : Rule) (i : ℕ) → Encodes profile count bytes r → i < 64 → code_of (decoded (code_at bytes i)) ≡ code_at bytes i
encodes_code profile count bytes r i x h =
    let c = encodes_entry profile count bytes r i x h in
    ap code_of (ap decoded (sym c) ∙ decoded_code (formula_at r.entries i)) ∙ c

pub encodes_length : (profile count : ℕ) (bytes : List ℕ) (r : Rule) → Encodes profile count bytes r → length bytes ≡ 192
encodes_length profile count bytes r x =
    ap length (sym x.codes) ∙ length_bytes r.entries ∙ ap (λ (n : ℕ). 3 * n) x.size

-- ---- the empty rule is no rule

pub empty_not : IsRule empty_rule → ⊥
unfolding empty_in
empty_not (φ, n) = let some = rule_some empty_rule φ n in omega arith

pub has_rule : (profile count : ℕ) (bytes : List ℕ) (rule : Rule) → RuleIs profile count bytes rule → IsRule rule ↔ HasRule profile count bytes
has_rule profile count bytes rule is = go is.from
  where
    go : FromBytes profile count bytes rule → IsRule rule ↔ HasRule profile count bytes
    go (inl u) = (λ h. (rule, u, h), λ (r, v, h). subst IsRule (encodes_one profile count bytes r rule v u) h)
    go (inr u) = (λ h. absurd (empty_not (subst IsRule u.0 h)), λ (r, v, h). absurd (u.1 r v))
