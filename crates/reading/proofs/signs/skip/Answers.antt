use mathlib.Core.Path.{◌≡◌}
use lib.ListN.{length}
use native.Mathlib.Omega.{arith}
use Rattle.reading.specs.Parts.{skips_past, no_blank_here, no_blank_end}
use Rattle.reading.proofs.signs.skip.Goals as goal

pub returns-then-text-place-ne32 : goal.returns-then-text-place-ne32
returns-then-text-place-ne32 c =
    let text = c.args.text.now in
    skips_past text c.args.at c.loop-place.place (omega arith) (omega arith) c.loop-place.invariant
    (no_blank_here text c.loop-place.place (omega arith) c.if-text-place-ne32.true)

pub returns : goal.returns
returns c =
    let text = c.args.text.now in
    let e : c.loop-place.place ≡ length text = omega arith in
    rw e at (skips_past text c.args.at c.loop-place.place (omega arith) (omega arith) c.loop-place.invariant (no_blank_end text c.loop-place.place (omega arith)))
