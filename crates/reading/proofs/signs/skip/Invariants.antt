use mathlib.Core.Path.{◌≡◌}
use lib.ListN.{get_or}
use Prim.Native.Nat.{ℕ, ◌≤◌, ◌<◌}
use Rattle.reading.proofs.signs.skip.Given as goal

abbrev pub invariant-loop-place : goal.invariant-loop-place
invariant-loop-place l = (i : ℕ) → l.at ≤ i → i < l.place → get_or l.text i 0 ≡ 32
