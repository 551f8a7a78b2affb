-- The parts of good tables, as the test asks for them. Assumes nothing.
use Rattle.std.specs.Prelude.{◌≡◌, Bool, true, false, List, ℕ, suc, ◌+◌, ◌<◌, length, get_or, take}
use Rattle.std.specs.Bool.{MatchBool}
use Rattle.std.specs.List.Sorted.{IsNonDecreasing}
use Rattle.std.proofs.Common.{sym, ap, ◌∙◌, arith}
use Rattle.std.proofs.lemmas.List.{get_or-take, length-take-le}
use Rattle.laws.specs.Decided.{Decides}
use Rattle.automaton.specs.Tables.{Tables}
use Rattle.automaton.specs.Valid.{Spanning}

-- whether the starts, from 0 to the number of edges, are sorted
module _ (t : Tables) (starts : List ℕ) (part : starts ≡ take (t.states + 1) t.starts) (room : t.states < length t.starts) where
  long : length starts ≡ t.states + 1
  long = ap length part ∙ length-take-le (t.states + 1) t.starts (omega arith)

  same : (q : ℕ) → q < t.states + 1 → get_or starts q 0 ≡ get_or t.starts q 0
  same q h = ap (λ s. get_or s q 0) part ∙ get_or-take (t.states + 1) t.starts q 0 h

  pub spanning_sorted : (sorted : Bool) → get_or starts 0 0 ≡ 0 → get_or starts t.states 0 ≡ t.edge_count
      → MatchBool sorted (IsNonDecreasing starts) ((k : ℕ) × (k + 1 < length starts) × ((d : ℕ) → get_or starts (k + 1) d < get_or starts k d))
      → Decides sorted (Spanning t)
  spanning_sorted true first last up = record {
    first_start = sym (same 0 (omega arith)) ∙ first;
    rising = record { rise = λ q h. omega (arith, up q (suc q) 0 (omega arith) (omega (arith, long)), same q (omega arith), same (suc q) (omega arith)) };
    last_start = sym (same t.states (omega arith)) ∙ last;
  }
  spanning_sorted false first last (k, h, down) = λ s.
      let inside : k < t.states = omega (arith, long) in
      let next : k + 1 ≡ suc k = omega arith in
      omega (arith, s.rising.rise k inside, rw next at (down 0), same k (omega arith), same (suc k) (omega arith))
