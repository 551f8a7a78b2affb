-- A rule as its profile's number, its count and bytes: for each of its 64 entries the kind, then the two operands, 0 where there is none. Definitions,
-- to be believed. Assumes nothing.
use Rattle.std.specs.Prelude.{ℕ, ◌+◌, ◌*◌, ◌≡◌, ◌⊎◌, List, [], ◌∷◌, ◌++◌, length, get_or, drop, Option, Some, None}
use Rattle.meaning.specs.Dialect.{dialect}
use Rattle.rule.specs.Numbering.{IsRule, empty_rule}
use Rattle.rule.specs.Coding.{code_of}
use Rattle.rule.specs.declared.Formula.{Formula}
use Rattle.rule.specs.declared.Code.{Code}
use Rattle.rule.specs.declared.Rule.{Rule}

abbrev pub bytes_of : List Formula → List ℕ
bytes_of [] = []
bytes_of (e ∷ l) = (code_of e).kind ∷ (code_of e).first ∷ (code_of e).second ∷ bytes_of l

-- the profile's number, the count and the bytes are those of the rule
pub record Encodes (profile count : ℕ) (bytes : List ℕ) (rule : Rule) : Type 0 where
  pub profile_is : (dialect rule.profile).number ≡ profile
  pub counts : rule.count ≡ count
  pub size : length rule.entries ≡ 64
  pub codes : bytes_of rule.entries ≡ bytes

-- they are those of a rule that is the numbering of some formula
abbrev pub HasRule : ℕ → ℕ → List ℕ → Type 0
HasRule profile count bytes = (rule : Rule) × Encodes profile count bytes rule × IsRule rule

-- the rule of a profile's number, a count and bytes; the empty rule, which is the numbering of no formula, where they are those of none
abbrev pub FromBytes : ℕ → ℕ → List ℕ → Rule → Type 0
FromBytes profile count bytes rule = Encodes profile count bytes rule ⊎ ((rule ≡ empty_rule) × ((r : Rule) → Encodes profile count bytes r → ⊥))

pub record RuleIs (profile count : ℕ) (bytes : List ℕ) (rule : Rule) : Type 0 where
  pub from : FromBytes profile count bytes rule

-- the same, said of a rule or of none
abbrev pub EncodedAs : ℕ → ℕ → List ℕ → Option Rule → Type 0
EncodedAs profile count bytes (Some rule) = Encodes profile count bytes rule
EncodedAs profile count bytes None = (r : Rule) → Encodes profile count bytes r → ⊥

pub record EncodedIs (profile count : ℕ) (bytes : List ℕ) (r : Option Rule) : Type 0 where
  pub encoded : EncodedAs profile count bytes r

-- the bytes of entry i
abbrev pub code_at : List ℕ → ℕ → Code
code_at bytes i = record { kind = get_or bytes (3 * i) 0; first = get_or bytes (3 * i + 1) 0; second = get_or bytes (3 * i + 2) 0 }

-- new bytes at the front of a buffer, those after them as they were
unfoldable pub front : List ℕ → List ℕ → List ℕ
front new old = new ++ drop (length new) old
