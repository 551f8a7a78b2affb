-- The pieces of tables that are read, and of what makes them good. Contracts of inner functions. Assumes nothing.
use Rattle.std.specs.Prelude.{◌≡◌, List, [], ℕ, suc, ◌≤◌, ◌<◌, length, get_or}
use Rattle.std.specs.Int.Bits.{bit_and}
use Rattle.meaning.specs.Flags.{flags}
use Rattle.automaton.specs.Tables.{Tables, tables_of, start, present, absent, target}

-- tables without their edge count, which is the last start
abbrev pub read_tables : ℕ → List ℕ → List ℕ → List ℕ → Tables
read_tables n s a e = tables_of n (get_or s n 0) s a e

-- of these, what is read where no state is asked whether it accepts
abbrev pub row_tables : ℕ → List ℕ → List ℕ → Tables
row_tables n s e = read_tables n s [] e

pub record Rising (n : ℕ) (starts : List ℕ) : Type 0 where
  pub rise : (q : ℕ) → q < n → get_or starts q 0 ≤ get_or starts (suc q) 0

-- the counts are within their limits, and the slices have room for them
pub record Within (t : Tables) : Type 0 where
  pub some_state : 0 < t.states
  pub few_states : t.states ≤ 128
  pub starts_fit : t.states < length t.starts
  pub accepts_fit : t.states ≤ length t.accepts
  pub few_edges : t.edge_count ≤ 8192
  pub edges_fit : t.edge_count ≤ length t.edges

-- the starts rise from 0 to the number of edges
pub record Spanning (t : Tables) : Type 0 where
  pub first_start : start t 0 ≡ 0
  pub rising : Rising t.states t.starts
  pub last_start : start t t.states ≡ t.edge_count

pub record Bits (n : ℕ) (accepts : List ℕ) : Type 0 where
  pub small : (q : ℕ) → q < n → get_or accepts q 0 ≤ 1

pub record Leading (n k : ℕ) (edges : List ℕ) : Type 0 where
  pub fair : (i : ℕ) → i < k → bit_and (present flags (get_or edges i 0)) (absent flags (get_or edges i 0)) ≡ 0
  pub states : (i : ℕ) → i < k → target flags (get_or edges i 0) < n

-- what a walk reads of good tables: rows that rise and lie within the edges, each of which is fair and leads to a state
pub record Rows (n : ℕ) (starts edges : List ℕ) : Type 0 where
  pub some_state : 0 < n
  pub few_states : n ≤ 128
  pub starts_fit : n < length starts
  pub starts_rise : Rising n starts
  pub edges_fit : get_or starts n 0 ≤ length edges
  pub leading : Leading n (get_or starts n 0) edges
