-- What the printer's helpers answer: how a formula is written, read off its entry, and its size. Contracts of inner functions. Assumes nothing.
use Rattle.std.specs.Prelude.{◌≡◌, List, [], ◌∷◌, cond, ℕ, ◌+◌, ◌≤◌, ◌<◌, min, leb, length, get_or}
use Rattle.meaning.specs.Formula.{Formula as Tree}
use Rattle.rule.specs.Standing.{Stands}
use Rattle.rule.specs.declared.FormulaNo.{FormulaNo}
use Rattle.rule.specs.declared.Formula.{Formula}
use Rattle.reading.specs.Grammar.{Leaf as Lone, Prefix as Leading, not, Binary as Sign, level, left, right, deeper}
use Rattle.printing.specs.Text.{Written, leaf, prefix, binary, written_as, leaf_byte, prefix_bytes, binary_bytes, level_of, bare}
use Rattle.printing.specs.Spelling.{raised, deep}
use Rattle.printing.specs.declared.Joint.{Joint}
use Rattle.printing.specs.declared.Shape.{Shape}
use Rattle.printing.specs.declared.Shape.TheVariants.{Leaf, NotFlag, Prefix, Binary}
use Rattle.printing.specs.declared.Size.{Size}

-- ---- how a formula is written

pub record JointIs (o : Sign) (j : Joint) : Type 0 where
  pub bytes : binary_bytes o ≡ 32 ∷ j.byte ∷ 32 ∷ []
  pub level_is : j.level ≡ level o
  pub left_is : j.left ≡ left o
  pub right_is : j.right ≡ right o
  pub deeper_is : j.deeper ≡ deeper o

-- A number that stands for a formula.
pub record Standing (entries : List Formula) (k : ℕ) : Type 0 where
  pub formula : Tree
  pub stands : Stands entries formula k
  pub few : k < 64

pub record LeafIs (φ : Tree) (b : ℕ) : Type 0 where
  pub lone : Lone
  pub written : written_as φ ≡ leaf lone
  pub byte : b ≡ leaf_byte lone

pub record NotIs (φ : Tree) (b : ℕ) : Type 0 where
  pub lone : Lone
  pub written : written_as φ ≡ prefix not (leaf lone)
  pub byte : b ≡ leaf_byte lone

pub record PrefixIs (entries : List Formula) (k : ℕ) (φ : Tree) (b : ℕ) (i : FormulaNo) : Type 0 where
  pub sign : Leading
  pub part : Tree
  pub written : written_as φ ≡ prefix sign (written_as part)
  pub bytes : prefix_bytes sign ≡ b ∷ 32 ∷ []
  pub below : i.0 < k
  pub stands : Stands entries part i.0

pub record BinaryIs (entries : List Formula) (k : ℕ) (φ : Tree) (j : Joint) (i l : FormulaNo) : Type 0 where
  pub sign : Sign
  pub first : Tree
  pub second : Tree
  pub written : written_as φ ≡ binary sign (written_as first) (written_as second)
  pub joint : JointIs sign j
  pub first_below : i.0 < k
  pub second_below : l.0 < k
  pub first_stands : Stands entries first i.0
  pub second_stands : Stands entries second l.0

abbrev pub Shaped : List Formula → ℕ → Tree → Shape → Type 0
Shaped entries k φ (Leaf b) = LeafIs φ b
Shaped entries k φ (NotFlag b) = NotIs φ b
Shaped entries k φ (Prefix b i) = PrefixIs entries k φ b i
Shaped entries k φ (Binary j i l) = BinaryIs entries k φ j i l

pub record ShapeIs (entries : List Formula) (k : ℕ) (s : Shape) : Type 0 where
  pub shaped : (φ : Tree) → Stands entries φ k → Shaped entries k φ s

abbrev pub level_of_shape : Shape → ℕ
level_of_shape (Leaf b) = 0
level_of_shape (NotFlag b) = 0
level_of_shape (Prefix b i) = 0
level_of_shape (Binary j i l) = j.level

-- ---- its size, cut off above what can be printed

abbrev pub sized : ℕ → ℕ → ℕ → Size
sized l n d = record { level = l; bytes = min n 1025; depth = min d 33 }

abbrev pub size_of : Written → Size
size_of w = sized (level_of w) (length (bare w)) (deep w)

pub record Small (s : Size) : Type 0 where
  pub bytes_most : s.bytes ≤ 1025
  pub depth_most : s.depth ≤ 33

-- Two bytes more where a part stands in parentheses.
abbrev pub longer : ℕ → ℕ → ℕ → ℕ
longer slot l n = cond (leb l slot) n (n + 2)

-- A part's size where a part of at most the level slot may stand.
pub record InSlot (part : Size) (slot : ℕ) (s : Size) : Type 0 where
  pub bytes_are : s.bytes ≡ longer slot part.level part.bytes
  pub depth_is : s.depth ≡ raised slot part.level part.depth
  pub bytes_most : s.bytes ≤ 1027
  pub depth_most : s.depth ≤ 34

abbrev pub size_at : List Size → ℕ → Size
size_at sizes k = get_or sizes k (record { level = 0; bytes = 0; depth = 0 })

-- The sizes of the formulas with numbers below k.
pub record Sizes (entries : List Formula) (k : ℕ) (sizes : List Size) : Type 0 where
  pub small : (i : ℕ) → Small (size_at sizes i)
  pub each : (i : ℕ) (φ : Tree) → i < k → Stands entries φ i → size_at sizes i ≡ size_of (written_as φ)

pub record SizeIs (entries : List Formula) (k : ℕ) (s : Size) : Type 0 where
  pub size : (φ : Tree) → Stands entries φ k → s ≡ size_of (written_as φ)
