use Rattle.std.proofs.Common.{ℕ, Bool, true, false, ◌≡◌, eqb, refl, arith, length-set, ◌∙◌}
use Rattle.std.specs.Int.{from_bool}
use Rattle.std.specs.Int.Bits.{bit_and}
use Rattle.laws.specs.Ranges.{one}
use Rattle.tables.specs.Laying.{laid_map_more}
use Rattle.tables.proofs.building.fill_accepts.Goals as goal

byte_is : (b : Bool) → from_bool b ≡ one b
byte_is true = refl
byte_is false = refl

pub loop-state-preserved : goal.loop-state-preserved
loop-state-preserved c = (
  simp length-set (omega arith),
  laid_map_more 128 (λ (m : ℕ). one (eqb (bit_and c.args.ends m) m)) c.args.masks.now _ _ _ _ (omega arith) (omega arith) (c.from.ensures ∙ byte_is _) c.loop-state.invariant.1,
)
