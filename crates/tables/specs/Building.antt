-- What a build answers and what it leaves in the lent slices: document 01, "Tables" and refusals 6, 8 and 9; document 02, Q-6. Definitions, to be
-- believed. Assumes nothing.
use Rattle.std.specs.Prelude.{ℕ, ◌-◌, ◌≤◌, List, [], ◌++◌, length, replicate, drop}
use Rattle.answers.specs.Answers.{Outcome, gives, refuses}
use Rattle.meaning.specs.Formula.{Formula as Tree}
use Rattle.meaning.specs.declared.Profile.{Profile}
use Rattle.rule.specs.Numbering.{Numbers, IsRule}
use Rattle.rule.specs.declared.Rule.{Rule}
use Rattle.automaton.specs.Tables.{Tables as Automaton, tables_of}
use Rattle.tables.specs.declared.Counts.{Counts}
use Rattle.tables.specs.Tables.{TooMuch, states, start_entries, accept_entries, edge_entries}

-- the counts of states and edges, or a refusal by its number
abbrev pub Answer : Type 0
Answer = Outcome Counts (Unit {0})

abbrev pub counts : ℕ → ℕ → Answer
counts n k = gives (record { states = n; edges = k })

-- the four lent slices
pub record Slices : Type 0 where
  pub masks : List ℕ
  pub starts : List ℕ
  pub accepts : List ℕ
  pub edges : List ℕ

abbrev pub slices : List ℕ → List ℕ → List ℕ → List ℕ → Slices
slices m s a e = record { masks = m; starts = s; accepts = a; edges = e }

-- none is below its size
pub record Long (s : Slices) : Type 0 where
  pub masks_long : 128 ≤ length s.masks
  pub starts_long : 129 ≤ length s.starts
  pub accepts_long : 128 ≤ length s.accepts
  pub edges_long : 8192 ≤ length s.edges

-- a slice with these entries at the front, zero in the others up to its size, and above that as it was
unfoldable pub laid : ℕ → List ℕ → List ℕ → List ℕ
laid size entries slice = entries ++ (replicate (size - length entries) 0 ++ drop size slice)

-- the slices with these entries
abbrev pub laid_in : Slices → List ℕ → List ℕ → List ℕ → List ℕ → Slices
laid_in s masks starts accepts edges = record {
  masks = laid 128 masks s.masks;
  starts = laid 129 starts s.starts;
  accepts = laid 128 accepts s.accepts;
  edges = laid 8192 edges s.edges;
}

abbrev pub zeroed : Slices → Slices
zeroed s = laid_in s [] [] [] []

abbrev pub filled : Profile → Tree → Slices → Slices
filled π φ s = laid_in s (states π φ) (start_entries π φ) (accept_entries π φ) (edge_entries π φ)

-- what comes of a build, answer and slices
pub data Builds (rule : Rule) (s : Slices) : Answer → Slices → Type 0 where
  not_a_rule : (¬ IsRule rule) → Builds rule s (refuses 6 tt) s
  short_slice : IsRule rule → (¬ Long s) → Builds rule s (refuses 8 tt) s
  too_much : (φ : Tree) → Numbers rule φ → Long s → TooMuch rule.profile φ → Builds rule s (refuses 9 tt) (zeroed s)
  tables : (φ : Tree) → Numbers rule φ → Long s → (¬ TooMuch rule.profile φ)
      → Builds rule s (counts (length (states rule.profile φ)) (length (edge_entries rule.profile φ))) (filled rule.profile φ s)

-- the automaton of the counts that a build answered and the slices that it left
abbrev pub made_of : ℕ → ℕ → Slices → Automaton
made_of n k u = tables_of n k u.starts u.accepts u.edges
