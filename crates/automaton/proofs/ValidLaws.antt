-- The pieces of good tables, as functions that read only these ask for them. Assumes nothing.
use Rattle.std.specs.Prelude.{◌≡◌, refl, List, [], ◌∷◌, ℕ, suc, ◌+◌, ◌≤◌, ◌<◌, length, get_or}
use Rattle.std.proofs.Common.{subst, add-one, arith}
use Rattle.std.proofs.Math.Path.{subst⁻¹}
use Rattle.meaning.specs.Flags.{flags}
use Rattle.automaton.specs.Tables.{Tables, tables_of, Good}
use Rattle.automaton.proofs.TableLaws.{below_last}
use Rattle.automaton.specs.Walk.{moved, walked}
use Rattle.automaton.specs.Valid.{read_tables, row_tables, Leading, Rows}

-- the edge count of good tables is their last start
module _ (n k : ℕ) (s a e : List ℕ) (good : Good flags (tables_of n k s a e)) where
  pub good_read : Good flags (read_tables n s a e)
  good_read = subst⁻¹ (λ (i : ℕ). Good flags (tables_of n i s a e)) good.last_start good

  pub as_handed : (P : Tables → Type 0) → P (read_tables n s a e) → P (tables_of n k s a e)
  as_handed P p = subst (λ (i : ℕ). P (tables_of n i s a e)) good.last_start p

pub good_rows : (n k : ℕ) (s a e : List ℕ) → Good flags (tables_of n k s a e) → Rows n s e
good_rows n k s a e g = record {
  some_state = g.some_state;
  few_states = g.few_states;
  starts_fit = g.starts_fit;
  starts_rise = record { rise = g.starts_rise };
  edges_fit = omega (arith, g.last_start, g.edges_fit);
  leading = subst⁻¹ (λ (i : ℕ). Leading n i e) g.last_start (record { fair = g.fair_edges; states = g.targets });
}

-- a walk looks at no accept byte
pub walked_rows : (n k : ℕ) (s a e : List ℕ) (m : ℕ) (z : List ℕ) → walked flags (row_tables n s e) m z ≡ walked flags (tables_of n k s a e) m z
walked_rows n k s a e m [] = refl
walked_rows n k s a e m (d ∷ z) = walked_rows n k s a e (moved flags (row_tables n s e) m d) z

module _ (n : ℕ) (s e : List ℕ) (rows : Rows n s e) where
  -- a row's ends, as a program reads them, and its edges
  pub row_within : (q a b : ℕ) → q < n → a ≡ get_or s q 0 → b ≡ get_or s (q + 1) 0 → (a ≤ b) × (b ≤ length e) × Leading n b e
  row_within q a b h ea eb =
      let end : b ≡ get_or s (suc q) 0 = rw add-one at eb in
      let low : b ≤ get_or s n 0 = omega (arith, below_last n s rows.starts_rise (suc q) (omega arith)) in (
        omega (arith, rows.starts_rise.rise q h),
        omega (arith, rows.edges_fit),
        record { fair = λ i k. rows.leading.fair i (omega arith); states = λ i k. rows.leading.states i (omega arith) },
      )
