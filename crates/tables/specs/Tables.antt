-- The tables of the rule that is the numbering of φ: document 01, "Tables" and refusal 9; document 02, Q-6. Definitions, to be believed.
-- Assumes nothing.
use Rattle.std.specs.Prelude.{ℕ, suc, Bool, true, ◌&&◌, ◌||◌, List, [], ◌∷◌, ◌++◌, map, ltb, eqb, length, take}
use Rattle.std.specs.Int.Bits.{bit_and}
use Rattle.laws.specs.Lists.{keep, distinct}
use Rattle.laws.specs.Places.{place}
use Rattle.laws.specs.Ranges.{one, list_of}
use Rattle.meaning.specs.Flags.{flags}
use Rattle.meaning.specs.Formula.{Formula as Tree}
use Rattle.meaning.specs.Dialect.{dialect}
use Rattle.meaning.specs.declared.Profile.{Profile}
use Rattle.rule.specs.Numbering.{formulas, number}
use Rattle.tables.specs.declared.Choice.{Choice}
use Rattle.tables.specs.Choices.{members, put_off, state_choices}
use Rattle.automaton.specs.Tables.{word as edge_word}
use Rattle.automaton.specs.Exploration.{Refused, explored}

-- ---- edges: choices whose target is a state

-- no flag is wanted both present and absent
abbrev pub consistent : Choice → Bool
consistent c = eqb (bit_and c.present c.absent) 0

abbrev pub same_choice : Choice → Choice → Bool
same_choice c e = eqb c.present e.present && (eqb c.absent e.absent && eqb c.target e.target)

-- less the choices that contradict themselves, and repeats
unfoldable pub edges_of : List Choice → List Choice
edges_of cs = distinct same_choice (keep consistent cs)

-- an edge as a word: lowest the flags to be present, then those to be absent, and above them the place of its target in the list of states
abbrev pub word : List ℕ → Choice → ℕ
word states c = edge_word flags c.present c.absent (place eqb c.target states)

-- ---- of the rule of the profile π that is the numbering of φ

module _ (π : Profile) (φ : Tree) where
  -- the edges of the state m, in order
  abbrev pub edges : ℕ → List Choice
  edges m = edges_of (state_choices π φ m)

  abbrev pub targets : ℕ → List ℕ
  targets m = map (λ (c : Choice). c.target) (edges m)

  -- under finite every member of m says yes where the series ends; under last m has no mark
  abbrev pub accepting : ℕ → Bool
  accepting m = (dialect π).accepts m (members (formulas φ) m)

  -- the set of the whole formula only, with the profile's mark
  abbrev pub start : ℕ
  start = put_off π (number φ) true φ

  -- more than 1,024 choices, those that are dropped counted too, or more than 64 edges
  abbrev pub overfull : ℕ → Bool
  overfull m = ltb 1024 (length (state_choices π φ m)) || ltb 64 (length (edges m))

  -- refusal 9: a reachable state is overfull, or over 128 are reachable
  abbrev pub TooMuch : Type 0
  TooMuch = Refused targets start 128 overfull

  -- the states by first meeting, after 128 rows: all of them, where there are no more than 128
  unfoldable pub states : List ℕ
  states = explored eqb targets start 128

  -- the edges of several states, row after row
  abbrev pub rows_of : List ℕ → List Choice
  rows_of [] = []
  rows_of (m ∷ ms) = edges m ++ rows_of ms

  -- how many edges the rows before row i have
  abbrev pub start_of : List ℕ → ℕ → ℕ
  start_of ms i = length (rows_of (take i ms))

  -- ---- the entries of the four tables

  abbrev pub start_entries : List ℕ
  start_entries = list_of (suc (length states)) (start_of states)

  abbrev pub accept_entries : List ℕ
  accept_entries = map (λ (m : ℕ). one (accepting m)) states

  abbrev pub edge_entries : List ℕ
  edge_entries = map (word states) (rows_of states)
