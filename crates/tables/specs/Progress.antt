-- How far a build has come: which states are met, which edges are laid. What the functions of the build need and give. Contracts of inner functions.
-- Assumes nothing.
use Rattle.std.specs.Prelude.{ℕ, suc, ◌+◌, ◌*◌, ◌≤◌, ◌<◌, ◌≡◌, ◌⊎◌, cond, Option, Some, None, List, [], ◌∷◌, ◌++◌, map, T, eqb, length, get_or, take, drop}
use Rattle.laws.specs.Lists.{All, In}
use Rattle.laws.specs.Ranges.{list_of}
use Rattle.meaning.specs.Flags.{flags}
use Rattle.meaning.specs.Formula.{Formula as Tree}
use Rattle.meaning.specs.declared.Profile.{Profile}
use Rattle.rule.specs.Numbering.{Numbers}
use Rattle.rule.specs.declared.Rule.{Rule}
use Rattle.tables.specs.declared.Choice.{Choice}
use Rattle.tables.specs.Choices.{state_choices}
use Rattle.automaton.specs.Exploration.{meet, meet_all, explored}
use Rattle.tables.specs.declared.Counts.{Counts}
use Rattle.tables.specs.Tables.{consistent, edges_of, word, targets, start, overfull, TooMuch, states, rows_of, start_of, start_entries, edge_entries}
use Rattle.tables.specs.InnerContracts.{start_set}
use Rattle.tables.specs.Building.{laid}
use Rattle.tables.specs.EdgeLaws.{added}
use Rattle.tables.specs.Bounds.{Bounded}

-- how many states and edges there are so far, where nothing is too much
abbrev pub up_to : ℕ → ℕ → Option Counts
up_to n k = Some (record { states = n; edges = k })

-- ---- one choice of a row

-- the slices hold the states `found`, and the edges `before` of earlier rows and `kept` of this one; m and e are the slices of the start
pub record Lies (found : List ℕ) (before kept : List Choice) (m e masks edges : List ℕ) (count first filled : ℕ) : Type 0 where
  pub masks_are : masks ≡ laid 128 found m
  pub edges_are : edges ≡ laid 8192 (map (word found) (before ++ kept)) e
  pub count_is : count ≡ length found
  pub first_is : first ≡ length before
  pub filled_is : filled ≡ length before + length kept
  pub met : All (λ c. In c.target found) (before ++ kept)
  pub bounded : All (Bounded flags) (before ++ kept)

-- the states met once c is looked at
abbrev pub meets : List ℕ → Choice → List ℕ
meets found c = cond (consistent c) (meet eqb found c.target) found

abbrev pub AddsTo : List ℕ → List Choice → List Choice → List ℕ → List ℕ → ℕ → Choice → List ℕ → List ℕ → List ℕ → List ℕ → Option Counts → Type 0
AddsTo found before kept m e first c masks edges masks' edges' (Some r) =
    Lies (meets found c) before (added kept c) m e masks' edges' r.states first r.edges × (length (meets found c) ≤ 128) × (length (added kept c) ≤ 64)
AddsTo found before kept m e first c masks edges masks' edges' None =
    ((128 < length (meets found c)) ⊎ (64 < length (added kept c))) × (masks' ≡ masks) × (edges' ≡ edges)

pub record Adds (masks edges : List ℕ) (count first filled : ℕ) (c : Choice) (r : Option Counts) (masks' edges' : List ℕ) : Type 0 where
  pub to : (found : List ℕ) (before kept : List Choice) (m e : List ℕ) → Lies found before kept m e masks edges count first filled
      → 128 ≤ length m → 8192 ≤ length e → Bounded flags c → AddsTo found before kept m e first c masks edges masks' edges' r

-- ---- rows

module _ (π : Profile) (φ : Tree) where
  -- the states met after k rows
  abbrev pub after : ℕ → List ℕ
  after k = explored eqb (targets π φ) (start π φ) k

  abbrev pub row_mask : ℕ → ℕ
  row_mask row = get_or (after row) row (start π φ)

  -- the edges of the rows before this one
  abbrev pub rows_before : ℕ → List Choice
  rows_before row = rows_of π φ (take row (after row))

  -- what holds whenever a row is begun
  pub record Begun (row : ℕ) : Type 0 where
    pub few_edges : length (rows_before row) ≤ 64 * row
    pub fair : (i : ℕ) → i < row → T (overfull π φ (get_or (after row) i (start π φ))) → ⊥

  -- before row `row`
  pub record AtRow (m s e : List ℕ) (row count filled : ℕ) (masks starts edges : List ℕ) : Type 0 where
    pub lies : Lies (after row) (rows_before row) [] m e masks edges count filled filled
    pub starts_are : starts ≡ laid 129 (list_of row (start_of π φ (after row))) s
    pub row_in : row ≤ length (after row)
    pub few : length (after row) ≤ 128
    pub begun : Begun row

  -- the edges of this row by its first choices
  abbrev pub kept_of : ℕ → ℕ → List Choice
  kept_of row number = edges_of (take number (state_choices π φ (row_mask row)))

  abbrev pub found_of : ℕ → ℕ → List ℕ
  found_of row number = meet_all eqb (after row) (map (λ (c : Choice). c.target) (kept_of row number))

  -- in row `row`, before choice `number`
  pub record InRow (m s e : List ℕ) (row first number count filled : ℕ) (masks starts edges : List ℕ) : Type 0 where
    pub lies : Lies (found_of row number) (rows_before row) (kept_of row number) m e masks edges count first filled
    pub starts_are : starts ≡ laid 129 (list_of (suc row) (start_of π φ (after row))) s
    pub row_in : row < length (after row)
    pub few : length (found_of row number) ≤ 128
    pub few_kept : length (kept_of row number) ≤ 64
    pub few_choices : length (state_choices π φ (row_mask row)) ≤ 1024
    pub begun : Begun row

-- ---- the whole

abbrev pub EndsAs : Profile → Tree → List ℕ → List ℕ → List ℕ → List ℕ → List ℕ → List ℕ → Option Counts → Type 0
EndsAs π φ m s e m' s' e' (Some r) =
    (¬ TooMuch π φ) × (r.states ≡ length (states π φ)) × (r.edges ≡ length (edge_entries π φ)) × (m' ≡ laid 128 (states π φ) m) × (s' ≡ laid 129 (start_entries π φ) s)
    × (e' ≡ laid 8192 (edge_entries π φ) e)
EndsAs π φ m s e m' s' e' None = TooMuch π φ × (drop 128 m' ≡ drop 128 m) × (drop 129 s' ≡ drop 129 s) × (drop 8192 e' ≡ drop 8192 e)

pub record Explores (rule : Rule) (m s e : List ℕ) (r : Option Counts) (m' s' e' : List ℕ) : Type 0 where
  pub ends : (φ : Tree) → Numbers rule φ → EndsAs rule.profile φ m s e m' s' e' r
  pub masks_long : length m' ≡ length m
  pub starts_long : length s' ≡ length s
  pub edges_long : length e' ≡ length e

-- the slices are zero up to their sizes, but for the mask of the start
pub record Fresh (rule : Rule) (m s e : List ℕ) : Type 0 where
  pub masks_fresh : m ≡ laid 128 (start_set rule ∷ []) m
  pub starts_fresh : s ≡ laid 129 [] s
  pub edges_fresh : e ≡ laid 8192 [] e
  pub masks_long : 128 ≤ length m
  pub starts_long : 129 ≤ length s
  pub edges_long : 8192 ≤ length e

-- ---- what holds in the loops, whichever formula the rule numbers

pub record Rows (rule : Rule) (m s e : List ℕ) (row count filled : ℕ) (masks starts edges : List ℕ) : Type 0 where
  pub at : (φ : Tree) → Numbers rule φ → AtRow rule.profile φ m s e row count filled masks starts edges

pub record Choosing (rule : Rule) (m e : List ℕ) (row mask choices first number count filled : ℕ) (masks starts edges : List ℕ) : Type 0 where
  pub at : (φ : Tree) → Numbers rule φ → InRow rule.profile φ m starts e row first number count filled masks starts edges
  pub mask_is : (φ : Tree) → Numbers rule φ → mask ≡ row_mask rule.profile φ row
  pub choices_are : (φ : Tree) → Numbers rule φ → choices ≡ length (state_choices rule.profile φ (row_mask rule.profile φ row))
