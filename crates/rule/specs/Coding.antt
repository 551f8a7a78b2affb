-- A formula as three numbers: its kind and its operands. Definitions, to be believed. Assumes nothing.
use Rattle.std.specs.Prelude.{ℕ, ◌<◌, ◌≡◌, refl, ◌⊎◌, List, [], ◌∷◌, get_or, Option, Some, None, Result, Ok, Err}
use Rattle.std.proofs.Common.{sym, ap, ◌∙◌, inl, inr, ⊎_elim, eq-or-lt_of_le, arith}
use Rattle.std.proofs.Math.Logic.{by_cases}
use Rattle.std.proofs.Math.Decide.{dec_lt}
use Rattle.rule.specs.Numbering.{formula_at}
use Rattle.rule.specs.declared.Formula.{Formula}
use Rattle.rule.specs.declared.Formula.TheVariants.{Flag, NotFlag, True, False, And, Or, Next, WeakNext, Until, Release}
use Rattle.rule.specs.declared.Code.{Code}
use Rattle.rule.specs.declared.FormulaNo.{FormulaNo}
use Rattle.rule.specs.declared.UnknownCode.{UnknownCode}

abbrev pub code_of : Formula → Code
code_of (Flag f) = record { kind = 0; first = f; second = 0 }
code_of (NotFlag f) = record { kind = 1; first = f; second = 0 }
code_of True = record { kind = 2; first = 0; second = 0 }
code_of False = record { kind = 3; first = 0; second = 0 }
code_of (And p q) = record { kind = 4; first = p.0; second = q.0 }
code_of (Or p q) = record { kind = 5; first = p.0; second = q.0 }
code_of (Next p) = record { kind = 6; first = p.0; second = 0 }
code_of (WeakNext p) = record { kind = 7; first = p.0; second = 0 }
code_of (Until p q) = record { kind = 8; first = p.0; second = q.0 }
code_of (Release p q) = record { kind = 9; first = p.0; second = q.0 }

-- the formula of a code: by its kind, one of ten
unfoldable pub decoded : Code → Formula
decoded c =
    get_or (Flag c.first ∷ NotFlag c.first ∷ True ∷ False
    ∷ And (record { 0 = c.first }) (record { 0 = c.second }) ∷ Or (record { 0 = c.first }) (record { 0 = c.second })
    ∷ Next (record { 0 = c.first }) ∷ WeakNext (record { 0 = c.first })
    ∷ Until (record { 0 = c.first }) (record { 0 = c.second }) ∷ Release (record { 0 = c.first }) (record { 0 = c.second }) ∷ []) c.kind True

pub decoded_code : (f : Formula) → decoded (code_of f) ≡ f
unfolding decoded
decoded_code (Flag f) = refl
decoded_code (NotFlag f) = refl
decoded_code True = refl
decoded_code False = refl
decoded_code (And p q) = refl
decoded_code (Or p q) = refl
decoded_code (Next p) = refl
decoded_code (WeakNext p) = refl
decoded_code (Until p q) = refl
decoded_code (Release p q) = refl

-- formulas with one code are one
pub code_same : (a b : Formula) → code_of a ≡ code_of b → a ≡ b
code_same a b e = sym (decoded_code a) ∙ ap decoded e ∙ decoded_code b

-- the formula that has a code, or that none has it
abbrev pub DecodedTo : Code → Result Formula UnknownCode → Type 0
DecodedTo c (Ok f) = code_of f ≡ c
DecodedTo c (Err unknown) = (f : Formula) → code_of f ≡ c → ⊥

pub record Decodes (c : Code) (r : Result Formula UnknownCode) : Type 0 where
  pub decodes : DecodedTo c r

-- one outcome only
pub decodes_one : (c : Code) (r r' : Result Formula UnknownCode) → Decodes c r → Decodes c r' → r ≡ r'
decodes_one c (Ok f) (Ok g) x y = ap Ok (code_same f g (x.decodes ∙ sym y.decodes))
decodes_one c (Ok f) (Err u) x y = absurd (y.decodes f x.decodes)
decodes_one c (Err u) (Ok g) x y = absurd (x.decodes g y.decodes)
decodes_one c (Err u) (Err v) x y = refl

-- the place of the first entry that is the formula, or that there is none below count
abbrev pub Finding : List Formula → ℕ → Formula → Option FormulaNo → Type 0
Finding entries count formula (Some i) = (i.0 < count) × (formula_at entries i.0 ≡ formula) × ((k : ℕ) → k < i.0 → formula_at entries k ≡ formula → ⊥)
Finding entries count formula None = (k : ℕ) → k < count → formula_at entries k ≡ formula → ⊥

pub record FoundIs (entries : List Formula) (count : ℕ) (formula : Formula) (found : Option FormulaNo) : Type 0 where
  pub finding : Finding entries count formula found

-- one answer only
pub found_one : (entries : List Formula) (count : ℕ) (formula : Formula) (f g : Option FormulaNo) → FoundIs entries count formula f → FoundIs entries count formula g → f ≡ g
found_one entries count formula (Some i) (Some j) x y =
    let (a, b, c) = x.finding in
    let (d, e, f) = y.finding in
    let same : i.0 ≡ j.0 = ⊎_elim (λ l. absurd (f i.0 l b)) (λ l. ⊎_elim (λ n. n) (λ n. absurd (c j.0 n e)) l) (apart i.0 j.0) in
    ap (λ (n : ℕ). Some (record { 0 = n })) same
  where
    apart : (m n : ℕ) → (m < n) ⊎ ((m ≡ n) ⊎ (n < m))
    apart m n = by_cases (dec_lt m n) inl (λ h. inr (⊎_elim (λ e. inl (sym e)) inr (eq-or-lt_of_le (omega arith))))
found_one entries count formula (Some i) None x y = absurd (y.finding i.0 x.finding.0 x.finding.1)
found_one entries count formula None (Some j) x y = absurd (x.finding j.0 y.finding.0 y.finding.1)
found_one entries count formula None None x y = refl
