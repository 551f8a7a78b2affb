-- The cases that are proved: what rule texts say on series, and their tables and fits. Definitions, to be believed. Assumes nothing.
use Rattle.std.specs.Prelude.{ℕ, ◌≡◌, Bool, true, false, List, [], ◌∷◌, length, take, get_or, Option, None, Some}
use Rattle.laws.specs.Decided.{Decides}
use Rattle.meaning.specs.Flags.{flags}
use Rattle.meaning.specs.Formula.{Formula as Tree}
use Rattle.meaning.specs.Syntax.{Syntax, nnf}
use Rattle.meaning.specs.Dialect.{TextAnswersYes}
use Rattle.meaning.specs.declared.Profile.{Profile}
use Rattle.meaning.specs.declared.Profile.TheVariants.{Finite, Last}
use Rattle.reading.specs.Grammar.{Sound}
use Rattle.automaton.specs.Tables.{Tables, word}
use Rattle.automaton.specs.Fit.{FirstFit}
use Rattle.tables.specs.Tables.{TooMuch, states, start_entries, accept_entries, edge_entries}

-- a text on a series, yes (true) or no; or its counts of states and edges, the words of row 0, and its fit
pub data Case : Type 0 where
  on : Profile → List ℕ → List ℕ → Bool → Case
  built : Profile → List ℕ → ℕ → ℕ → List ℕ → Option (List ℕ) → Case

-- the tables of a formula
abbrev pub tables_for : Profile → Tree → Tables
tables_for π φ = record {
  states = length (states π φ);
  edge_count = length (edge_entries π φ);
  starts = start_entries π φ;
  accepts = accept_entries π φ;
  edges = edge_entries π φ;
}

pub record OnSeries (π : Profile) (text series : List ℕ) (says : Bool) : Type 0 where
  pub tree : Syntax
  pub sound : Sound text tree
  pub answer : Decides says (TextAnswersYes π tree series)

pub record HasTables (π : Profile) (text : List ℕ) (n k : ℕ) (row : List ℕ) (fit : Option (List ℕ)) : Type 0 where
  pub tree : Syntax
  pub sound : Sound text tree
  -- refusal 9 is not due
  pub within : ¬ TooMuch π (nnf tree)
  pub state_count : length (states π (nnf tree)) ≡ n
  pub edge_count : length (edge_entries π (nnf tree)) ≡ k
  pub first_row : take (get_or (start_entries π (nnf tree)) 1 0) (edge_entries π (nnf tree)) ≡ row
  pub first_fit : FirstFit flags (tables_for π (nnf tree)) fit

abbrev pub Right : Case → Type 0
Right (on π text series says) = OnSeries π text series says
Right (built π text n k row fit) = HasTables π text n k row fit

-- the edge that wants these flags present, none absent, and leads to state q
abbrev edge_to : ℕ → ℕ → ℕ
edge_to p q = word flags p 0 q

-- document 01's cases, under the profile finite; then cases of our own under last. Behind each stand its text and its series, or its fit, in hex
unfoldable pub cases : List Case
cases =
    on Finite (97 ∷ []) [] false  -- `a` on no dates: no
    ∷ on Finite (33 ∷ 97 ∷ []) [] true  -- `!a` on no dates: yes
    ∷ on Finite (78 ∷ 32 ∷ 97 ∷ []) (0 ∷ []) false  -- `N a` on 00: no
    ∷ on Finite (88 ∷ 32 ∷ 33 ∷ 97 ∷ []) (0 ∷ []) true  -- `X !a` on 00: yes
    ∷ on Finite (71 ∷ 32 ∷ 97 ∷ []) (1 ∷ []) false  -- `G a` on 01: no
    ∷ on Finite (70 ∷ 32 ∷ 33 ∷ 97 ∷ []) (1 ∷ []) true  -- `F !a` on 01: yes
    ∷ on Finite (71 ∷ 32 ∷ 40 ∷ 97 ∷ 32 ∷ 124 ∷ 32 ∷ 78 ∷ 32 ∷ 48 ∷ 41 ∷ []) (1 ∷ 1 ∷ []) true  -- `G (a | N 0)` on 0101: yes
    ∷ on Finite (71 ∷ 32 ∷ 40 ∷ 97 ∷ 32 ∷ 124 ∷ 32 ∷ 78 ∷ 32 ∷ 48 ∷ 41 ∷ []) (1 ∷ 0 ∷ []) false  -- `G (a | N 0)` on 0100: no
    ∷ on Finite (97 ∷ 32 ∷ 82 ∷ 32 ∷ 98 ∷ []) (2 ∷ 3 ∷ []) true  -- `a R b` on 0203: yes
    ∷ built Finite (97 ∷ 32 ∷ 85 ∷ 32 ∷ 40 ∷ 98 ∷ 32 ∷ 82 ∷ 32 ∷ 99 ∷ 41 ∷ []) 3 6 (edge_to 6 1 ∷ edge_to 4 2 ∷ edge_to 1 0 ∷ []) (Some (6 ∷ []))  -- `a U (b R c)`: fit 06
    ∷ built Finite (71 ∷ 32 ∷ 97 ∷ []) 1 1 (edge_to 1 0 ∷ []) None  -- `G a`: no fit
    ∷ built Finite (33 ∷ 88 ∷ 32 ∷ 49 ∷ []) 2 1 (edge_to 0 1 ∷ []) (Some [])  -- `!X 1`: fit empty
    ∷ on Last (49 ∷ []) [] false  -- `1` on no dates: no
    ∷ on Last (33 ∷ 97 ∷ []) [] false  -- `!a` on no dates: no
    ∷ on Last (97 ∷ []) (1 ∷ []) true  -- `a` on 01: yes
    ∷ on Last (78 ∷ 32 ∷ 97 ∷ []) (0 ∷ []) true  -- `N a` on 00: yes
    ∷ on Last (88 ∷ 32 ∷ 49 ∷ []) (1 ∷ []) false  -- `X 1` on 01: no
    ∷ on Last (71 ∷ 32 ∷ 97 ∷ []) (1 ∷ 1 ∷ []) true  -- `G a` on 0101: yes
    ∷ on Last (70 ∷ 32 ∷ 33 ∷ 97 ∷ []) (1 ∷ []) false  -- `F !a` on 01: no
    ∷ built Last (97 ∷ []) 2 2 (edge_to 1 1 ∷ []) (Some (1 ∷ []))  -- `a`: fit 01
    ∷ built Last (78 ∷ 32 ∷ 48 ∷ []) 2 1 (edge_to 0 1 ∷ []) (Some (0 ∷ []))  -- `N 0`: fit 00
    ∷ built Last (71 ∷ 32 ∷ 97 ∷ []) 2 2 (edge_to 1 1 ∷ []) (Some (1 ∷ []))  -- `G a`: fit 01
    ∷ built Last (88 ∷ 32 ∷ 97 ∷ []) 3 3 (edge_to 0 1 ∷ []) (Some (0 ∷ 1 ∷ []))  -- `X a`: fit 0001
    ∷ []
