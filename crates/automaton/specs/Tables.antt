-- Tables as document 01 lends them, "Tables" and "Refusal numbers", whoever made them. The width w is the number of flags, `flags` of the crate
-- meaning for all calls: an edge word has what must be present in its w low bits, what must be absent in the next w, and its target above those: with
-- eight flags in bits 0 to 7, 8 to 15 and 16 to 31. Definitions, to be believed. Assumes nothing.
use Rattle.std.specs.Prelude.{◌≡◌, Bool, ◌&&◌, if◌then◌else◌, List, [], ℕ, suc, ◌+◌, ◌-◌, ◌*◌, ◌/◌, ◌%◌, ◌^◌, ◌≤◌, ◌<◌, eqb, ltb, length, get_or, take, drop}
use Rattle.std.specs.Int.Bits.{bit_and}

-- ---- an edge

abbrev pub present : ℕ → ℕ → ℕ
present w e = e % 2 ^ w

abbrev pub absent : ℕ → ℕ → ℕ
absent w e = e / 2 ^ w % 2 ^ w

abbrev pub target : ℕ → ℕ → ℕ
target w e = e / 2 ^ (w + w)

-- how many bits a target has
abbrev pub target_bits : ℕ
target_bits = 16

-- the edge with these parts
abbrev pub word : ℕ → ℕ → ℕ → ℕ → ℕ
word w p a t = p + a * 2 ^ w + t * 2 ^ (w + w)

-- the date has all flags that must be present and none that must be absent
abbrev pub allows : ℕ → ℕ → ℕ → Bool
allows w e d = eqb (bit_and d (present w e)) (present w e) && eqb (bit_and d (absent w e)) 0

-- ---- tables

pub record Tables : Type 0 where
  pub states : ℕ
  pub edge_count : ℕ
  pub starts : List ℕ
  pub accepts : List ℕ
  pub edges : List ℕ

-- tables as they are handed in
abbrev pub tables_of : ℕ → ℕ → List ℕ → List ℕ → List ℕ → Tables
tables_of n k s a e = record { states = n; edge_count = k; starts = s; accepts = a; edges = e }

-- row q is the edges from start q up to, not including, start (q + 1)
abbrev pub start : Tables → ℕ → ℕ
start t q = get_or t.starts q 0

abbrev pub edge : Tables → ℕ → ℕ
edge t i = get_or t.edges i 0

abbrev pub accepting : Tables → ℕ → Bool
accepting t q = eqb (get_or t.accepts q 0) 1

-- the edges of state q's row, and whether state q accepts: none, and no, for a number that is no state's
abbrev pub row_of : Tables → ℕ → List ℕ
row_of t q = if ltb q t.states then take (start t (suc q) - start t q) (drop (start t q) t.edges) else []

abbrev pub accepts : Tables → ℕ → Bool
accepts t q = ltb q t.states && accepting t q

-- what is not so makes tables bad (refusal 10); entries past the counts are not looked at
pub record Good (w : ℕ) (t : Tables) : Type 0 where
  pub some_state : 0 < t.states
  pub few_states : t.states ≤ 128
  pub starts_fit : t.states < length t.starts
  pub accepts_fit : t.states ≤ length t.accepts
  pub edges_fit : t.edge_count ≤ length t.edges
  pub first_start : start t 0 ≡ 0
  pub starts_rise : (q : ℕ) → q < t.states → start t q ≤ start t (suc q)
  pub few_edges : t.edge_count ≤ 8192
  pub last_start : start t t.states ≡ t.edge_count
  pub accept_bits : (q : ℕ) → q < t.states → get_or t.accepts q 0 ≤ 1
  pub fair_edges : (i : ℕ) → i < t.edge_count → bit_and (present w (edge t i)) (absent w (edge t i)) ≡ 0
  pub targets : (i : ℕ) → i < t.edge_count → target w (edge t i) < t.states
