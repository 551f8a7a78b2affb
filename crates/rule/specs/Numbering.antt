-- The numbering of a formula: document 01, "From text to rule"; how many formulas a profile admits: document 02, Q-6.
-- Definitions, to be believed. Assumes nothing.
use Rattle.std.specs.Prelude.{ℕ, ◌-◌, ◌≤◌, ◌<◌, ◌≡◌, Bool, List, [], ◌∷◌, ◌++◌, map, length, replicate, get_or}
use Rattle.laws.specs.Decided.{test}
use Rattle.laws.specs.Lists.{All, distinct}
use Rattle.laws.specs.Places.{place}
use Rattle.meaning.specs.Flags.{flags}
use Rattle.meaning.specs.Formula.{Formula as Tree, Formula-discrete, flag, not_flag, one, zero, and, or, next, weak, until, release}
use Rattle.meaning.specs.Dialect.{dialect}
use Rattle.meaning.specs.declared.Profile.{Profile}
use Rattle.meaning.specs.declared.Profile.TheVariants.{Finite}
use Rattle.rule.specs.declared.Formula.{Formula}
use Rattle.rule.specs.declared.Formula.TheVariants.{Flag, NotFlag, True, False, And, Or, Next, WeakNext, Until, Release}
use Rattle.rule.specs.declared.Rule.{Rule}

-- a formula's parts and the formula itself: inner before outer, left before right
abbrev pub parts : Tree → List Tree
parts (flag k) = flag k ∷ []
parts (not_flag k) = not_flag k ∷ []
parts one = one ∷ []
parts zero = zero ∷ []
parts (and p q) = parts p ++ parts q ++ (and p q ∷ [])
parts (or p q) = parts p ++ parts q ++ (or p q ∷ [])
parts (next p) = parts p ++ (next p ∷ [])
parts (weak p) = parts p ++ (weak p ∷ [])
parts (until p q) = parts p ++ parts q ++ (until p q ∷ [])
parts (release p q) = parts p ++ parts q ++ (release p q ∷ [])

abbrev pub same_tree : Tree → Tree → Bool
same_tree φ ψ = test (Formula-discrete φ ψ)

-- the distinct formulas of φ, an equal one standing where it stands first
unfoldable pub formulas : Tree → List Tree
formulas φ = distinct same_tree (parts φ)

-- the number of ψ among the formulas of φ
unfoldable pub number : Tree → Tree → ℕ
number φ ψ = place same_tree ψ (formulas φ)

-- the entry of a formula whose parts have these numbers
abbrev pub entry_of : (Tree → ℕ) → Tree → Formula
entry_of no· (flag k) = Flag k
entry_of no· (not_flag k) = NotFlag k
entry_of no· one = True
entry_of no· zero = False
entry_of no· (and p q) = And (record { 0 = no· p }) (record { 0 = no· q })
entry_of no· (or p q) = Or (record { 0 = no· p }) (record { 0 = no· q })
entry_of no· (next p) = Next (record { 0 = no· p })
entry_of no· (weak p) = WeakNext (record { 0 = no· p })
entry_of no· (until p q) = Until (record { 0 = no· p }) (record { 0 = no· q })
entry_of no· (release p q) = Release (record { 0 = no· p }) (record { 0 = no· q })

-- the rule of a profile that is the numbering of φ: an entry for each distinct formula, and False in those that are not used
unfoldable pub numbering : Profile → Tree → Rule
numbering π φ = record {
  profile = π;
  count = length (formulas φ);
  entries = map (λ ψ. entry_of (number φ) ψ) (formulas φ) ++ replicate (64 - length (formulas φ)) False;
}

-- a flag is one of the w that a date has
abbrev pub KnownFlag : ℕ → Tree → Type 0
KnownFlag w (flag k) = k < w
KnownFlag w (not_flag k) = k < w
KnownFlag w one = Unit
KnownFlag w zero = Unit
KnownFlag w (and p q) = Unit
KnownFlag w (or p q) = Unit
KnownFlag w (next p) = Unit
KnownFlag w (weak p) = Unit
KnownFlag w (until p q) = Unit
KnownFlag w (release p q) = Unit

-- φ keeps to the limits of a rule of the profile
pub record Fits (π : Profile) (φ : Tree) : Type 0 where
  pub known : All (KnownFlag flags) (parts φ)
  pub few : length (formulas φ) ≤ (dialect π).most

-- the rule is the numbering of φ
pub record Numbers (rule : Rule) (φ : Tree) : Type 0 where
  pub fits : Fits rule.profile φ
  pub same : rule ≡ numbering rule.profile φ

-- a rule is the numbering of some formula: what refusal 6 is about
abbrev pub IsRule : Rule → Type 0
IsRule rule = (φ : Tree) × Numbers rule φ

-- the formula with number k in a rule's entries; past their end, what the language reads there
abbrev pub formula_at : List Formula → ℕ → Formula
formula_at entries k = get_or entries k (Flag 0)

-- the rule of a profile with no formula
unfoldable pub empty_in : Profile → Rule
empty_in π = record { profile = π; count = 0; entries = replicate 64 False }

-- what bytes of no rule are read as
abbrev pub empty_rule : Rule
empty_rule = empty_in Finite
