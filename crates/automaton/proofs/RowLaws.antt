-- A state's row as a list: its length, its edges, and the row's questions as questions to the list. Assumes nothing.
use Rattle.std.specs.Prelude.{◌≡◌, Bool, ◌||◌, [], ℕ, zero, suc, ◌+◌, ◌-◌, ◌≤◌, ◌<◌, length, get_or, take, drop}
use Rattle.std.specs.Int.Bits.{bit_and}
use Rattle.std.specs.List.{All, list_any}
use Rattle.std.proofs.Common.{sym, ap, ap₂, ◌∙◌, arith, le_refl, lt-ltb, le-ltb, length-drop}
use Rattle.std.proofs.lemmas.List.{get_or-drop, get_or-take, length-take-le}
use Rattle.std.proofs.Math.Seq.{take-length}
use Rattle.std.proofs.lemmas.List.Elements.{All-from_get_or}
use Rattle.std.proofs.lemmas.List.Folds.{list_any_more}
use Rattle.laws.specs.Ranges.{any_in, any_none, any_suc}
use Rattle.meaning.specs.Flags.{flags}
use Rattle.automaton.specs.Tables.{Tables, Good, start, edge, present, absent, target, accepting, row_of, accepts}
use Rattle.automaton.specs.Walk.{any_edge}
use Rattle.automaton.proofs.TableLaws.{start_below, row_below, target_below}

-- ---- a number that is no state's

module _ (t : Tables) (q : ℕ) (beyond : t.states ≤ q) where
  pub row_none : row_of t q ≡ []
  row_none = rw (le-ltb q t.states beyond)

-- ---- a state's

pub accepts_state : (t : Tables) (q : ℕ) → q < t.states → accepts t q ≡ accepting t q
accepts_state t q h = rw (lt-ltb q t.states h)

module _ (t : Tables) (good : Good flags t) (q : ℕ) (h : q < t.states) where
  -- how many edges the row has
  abbrev pub row_size : ℕ
  row_size = start t (suc q) - start t q

  pub row_part : row_of t q ≡ take row_size (drop (start t q) t.edges)
  row_part = rw (lt-ltb q t.states h)

  pub row_rises : start t q ≤ start t (suc q)
  row_rises = good.starts_rise q h

  pub row_end : start t q + row_size ≡ start t (suc q)
  row_end = omega (arith, row_rises)

  pub row_length : length (row_of t q) ≡ row_size
  row_length = ap length row_part ∙ length-take-le row_size (drop (start t q) t.edges)
      (omega (arith, length-drop (start t q) t.edges, start_below flags t good (suc q) h, good.edges_fit))

  pub row_edge : (k : ℕ) → k < row_size → get_or (row_of t q) k 0 ≡ edge t (start t q + k)
  row_edge k l =
      ap (λ x. get_or x k 0) row_part ∙ get_or-take row_size (drop (start t q) t.edges) k 0 l ∙ get_or-drop (start t q) t.edges k 0

  -- each edge of the row is fair and leads to a state
  row_here : (k : ℕ) → k < length (row_of t q) → (get_or (row_of t q) k 0 ≡ edge t (start t q + k)) × (start t q + k < start t (suc q))
  row_here k l =
      let within : k < row_size = omega (arith, row_length) in
      (row_edge k within, omega (arith, row_rises))

  pub row_fair : All (λ e. bit_and (present flags e) (absent flags e) ≡ 0) (row_of t q)
  row_fair = All-from_get_or (λ e. bit_and (present flags e) (absent flags e) ≡ 0) (row_of t q) 0 (λ k l.
      let (same, below) = row_here k l in rw same (good.fair_edges (start t q + k) (row_below flags t good q (start t q + k) h below)))

  pub row_leading : All (λ e. target flags e < t.states) (row_of t q)
  row_leading = All-from_get_or (λ e. target flags e < t.states) (row_of t q) 0 (λ k l.
      let (same, below) = row_here k l in rw same (target_below flags t good q (start t q + k) h below))

  -- whether some edge of the row passes: of its first k, and of all
  pub row_any_before : (f : ℕ → Bool) (k : ℕ) → k ≤ row_size → any_in (start t q) (start t q + k) (λ i. f (edge t i)) ≡ list_any f (take k (row_of t q))
  row_any_before f zero l = any_none (start t q) (start t q + 0) (λ i. f (edge t i)) (omega arith)
  row_any_before f (suc k) l =
      let past : start t q + suc k ≡ suc (start t q + k) = omega arith in
      let next : k + 1 ≡ suc k = omega arith in
      ap (λ b. any_in (start t q) b (λ i. f (edge t i))) past ∙ any_suc (start t q) (start t q + k) (λ i. f (edge t i)) (omega arith)
      ∙ ap₂ ◌||◌ (row_any_before f k (omega arith)) (ap f (sym (row_edge k l)))
      ∙ sym (list_any_more f (row_of t q) k 0 (omega (arith, row_length))) ∙ ap (λ n. list_any f (take n (row_of t q))) next

  pub row_any : (f : ℕ → Bool) → any_edge t q f ≡ list_any f (row_of t q)
  row_any f =
      ap (λ b. any_in (start t q) b (λ i. f (edge t i))) (sym row_end) ∙ row_any_before f row_size (le_refl row_size)
      ∙ ap (λ n. list_any f (take n (row_of t q))) (sym row_length) ∙ ap (list_any f) (take-length (row_of t q))
