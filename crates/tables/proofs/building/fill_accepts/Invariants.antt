use Rattle.std.proofs.Common.{ℕ, ◌≡◌, eqb, length, take}
use Rattle.std.specs.Prelude.{map}
use Rattle.std.specs.Int.Bits.{bit_and}
use Rattle.laws.specs.Ranges.{one}
use Rattle.tables.specs.Building.{laid}
use Rattle.tables.proofs.building.fill_accepts.Given as goal

abbrev pub invariant-loop-state : goal.invariant-loop-state
invariant-loop-state l = (length l.accepts ≡ length l.initial.accepts)
    × (l.accepts ≡ laid 128 (map (λ (m : ℕ). one (eqb (bit_and l.ends m) m)) (take l.state l.masks)) l.initial.accepts)
