-- What the functions that count and decode choices need and give, as definitions. Contracts of inner functions. Assumes nothing.
use Rattle.std.specs.Prelude.{ℕ, ◌-◌, ◌/◌, ◌%◌, ◌^◌, ◌≤◌, ◌<◌, ◌≡◌, Option, Some, None, List, length, get_or}
use Rattle.std.specs.Int.Bits.{bit_or}
use Rattle.meaning.specs.Dialect.{dialect}
use Rattle.meaning.specs.Formula.{Formula as Tree}
use Rattle.meaning.specs.declared.Profile.{Profile}
use Rattle.rule.specs.Numbering.{Numbers}
use Rattle.rule.specs.declared.Rule.{Rule}
use Rattle.tables.specs.declared.Choice.{Choice}
use Rattle.tables.specs.declared.KeptChoice.{KeptChoice}
use Rattle.tables.specs.declared.Picked.{Picked}
use Rattle.tables.specs.declared.Parts.{Parts}
use Rattle.tables.specs.declared.Parts.TheVariants.{Whole, One, Two}
use Rattle.tables.specs.Choices.{free, join, choices_at, state_choices}
use Rattle.tables.specs.Indexing.{capped}

-- state 0: the whole formula, which has the highest number, with the profile's mark
abbrev pub start_set : Rule → ℕ
start_set rule = bit_or (2 ^ (rule.count - 1)) (dialect rule.profile).mark

-- n is how many choices the formula with number k has, cut off above 1,024
pub record CountOf (rule : Rule) (k n : ℕ) : Type 0 where
  pub is : (φ : Tree) → Numbers rule φ → n ≡ capped (length (choices_at rule.profile φ k))

-- the counts of the formulas below n
pub record Counted (rule : Rule) (n : ℕ) (counts : List ℕ) : Type 0 where
  pub at : (k : ℕ) → k < n → CountOf rule k (get_or counts k 0)

-- the formula with number k has a choice n, and no more than 1,024
pub record Within (rule : Rule) (k n : ℕ) : Type 0 where
  pub some : (φ : Tree) → Numbers rule φ → n < length (choices_at rule.profile φ k)
  pub few : (φ : Tree) → Numbers rule φ → length (choices_at rule.profile φ k) ≤ 1024

-- c is choice n of the formula with number k
pub record ChoiceOf (rule : Rule) (k n : ℕ) (c : Choice) : Type 0 where
  pub is : (φ : Tree) → Numbers rule φ → c ≡ get_or (choices_at rule.profile φ k) n free

-- what is kept are choices of the rule's formulas
pub record Kept (rule : Rule) (kept : List (Option KeptChoice)) : Type 0 where
  pub at : (k : ℕ) (x : KeptChoice) → get_or kept k None ≡ Some x → ChoiceOf rule k x.number x.choice

-- the formula with number i, below k, has a choice m, and no more choices than k has
pub record Lower (π : Profile) (φ : Tree) (k i m : ℕ) : Type 0 where
  pub below : i < k
  pub some : m < length (choices_at π φ i)
  pub fewer : length (choices_at π φ i) ≤ length (choices_at π φ k)

-- choice n of the formula with number k, by choices of formulas with lower numbers
abbrev pub Splits : Profile → Tree → ℕ → ℕ → Parts → Type 0
Splits π φ k n (Whole c) = get_or (choices_at π φ k) n free ≡ c
Splits π φ k n (One i m c) = Lower π φ k i.0 m × (get_or (choices_at π φ k) n free ≡ join (get_or (choices_at π φ i.0) m free) c)
Splits π φ k n (Two i m j l) =
    Lower π φ k i.0 m × Lower π φ k j.0 l × (get_or (choices_at π φ k) n free ≡ join (get_or (choices_at π φ i.0) m free) (get_or (choices_at π φ j.0) l free))

pub record SplitsTo (rule : Rule) (k n : ℕ) (parts : Parts) : Type 0 where
  pub by : (φ : Tree) → Numbers rule φ → Splits rule.profile φ k n parts

-- ---- states

pub record StateCount (rule : Rule) (m n : ℕ) : Type 0 where
  pub is : (φ : Tree) → Numbers rule φ → n ≡ capped (length (state_choices rule.profile φ m))

pub record WithinState (rule : Rule) (m n : ℕ) : Type 0 where
  pub some : (φ : Tree) → Numbers rule φ → n < length (state_choices rule.profile φ m)
  pub few : (φ : Tree) → Numbers rule φ → length (state_choices rule.profile φ m) ≤ 1024

pub record StateChoice (rule : Rule) (m n : ℕ) (c : Choice) : Type 0 where
  pub is : (φ : Tree) → Numbers rule φ → c ≡ get_or (state_choices rule.profile φ m) n free

-- the formula with number k has a choice, and no more than 1,024
pub record Pickable (rule : Rule) (k : ℕ) : Type 0 where
  pub some : (φ : Tree) → Numbers rule φ → 0 < length (choices_at rule.profile φ k)
  pub few : (φ : Tree) → Numbers rule φ → length (choices_at rule.profile φ k) ≤ 1024

-- a choice of the formula with number k joined in front, by what is left of the number
abbrev pub picked_by : Profile → Tree → ℕ → Picked → Picked
picked_by π φ k p =
    record {
      choice = join (get_or (choices_at π φ k) (p.left % length (choices_at π φ k)) free) p.choice;
      left = p.left / length (choices_at π φ k);
    }

pub record PickedFrom (rule : Rule) (k : ℕ) (p r : Picked) : Type 0 where
  pub is : (φ : Tree) → Numbers rule φ → r ≡ picked_by rule.profile φ k p
