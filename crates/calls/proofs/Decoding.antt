-- Bytes taken apart into a rule, entry by entry. Assumes nothing.
use Rattle.std.specs.Prelude.{ℕ, ◌+◌, ◌<◌, ◌≡◌, ◌⊎◌, List, length, set, Result, Ok, Err, Some, None}
use Rattle.std.specs.Result.{result_ok}
use Rattle.std.proofs.Common.{ap, ◌∙◌, inl, inr, arith, eq-or-lt_of_le}
use Rattle.std.proofs.Math.Seq.{get_or-set_same, get_or-set_other}
use Rattle.rule.specs.Numbering.{formula_at}
use Rattle.rule.specs.Coding.{code_of, Decodes}
use Rattle.rule.specs.declared.Code.{Code}
use Rattle.rule.specs.declared.Formula.{Formula}
use Rattle.rule.specs.declared.UnknownCode.{UnknownCode}
use Rattle.calls.specs.ByteForm.{code_at}

-- a code that is read is that of the formula, and one that is not is none's
pub read_code : {code : Code} {f : Formula} (r : Result Formula UnknownCode) → Decodes code r → Some f ≡ result_ok r → code_of f ≡ code
read_code {code} {f} (Ok g) d e = let same : f ≡ g = cc in rw same d.decodes
read_code (Err u) d e = absurd (cc)

pub unread_code : {code : Code} (r : Result Formula UnknownCode) → Decodes code r → None ≡ result_ok r → (f : Formula) → code_of f ≡ code → ⊥
unread_code (Ok g) d e = absurd (cc)
unread_code (Err u) d e = d.decodes

-- the entries below i have the codes of the bytes
abbrev pub CodedTo : List ℕ → List Formula → ℕ → Type 0
CodedTo bytes entries i = (k : ℕ) → k < i → code_of (formula_at entries k) ≡ code_at bytes k

pub coded_more : (bytes : List ℕ) (entries : List Formula) (i : ℕ) (f : Formula) → i < length entries → code_of f ≡ code_at bytes i
    → CodedTo bytes entries i → CodedTo bytes (set entries i f) (i + 1)
coded_more bytes entries i f h e t k l = go (eq-or-lt_of_le (omega arith))
  where
    go : (k ≡ i) ⊎ (k < i) → code_of (formula_at (set entries i f) k) ≡ code_at bytes k
    go (inl s) = rw s (ap code_of (get_or-set_same entries i f _ h) ∙ e)
    go (inr l) = ap code_of (get_or-set_other entries i k f _ (λ s. omega arith)) ∙ t k l
