use Rattle.std.specs.Prelude.{[], ◌∷◌, take}
use Rattle.std.proofs.Common.{sym, ap₂, arith, length-take}
use Rattle.walking.specs.SeriesLaws.{series_length}
use Rattle.walking.proofs.AddingLaws.{adds_as, adds_date}
use Rattle.walking.proofs.texts.Text.add_series.Goals as goal

pub add-requires : goal.add-requires
add-requires c =
    let w = c.loop-date.invariant.written in
    let l = series_length (take c.loop-date.date-index c.args.series.now) in
    omega (arith, length-take c.loop-date.date-index c.args.series.now)

pub loop-date-preserved : goal.loop-date-preserved
loop-date-preserved c =
    adds_date c.args.series.now c.loop-date.date-index (omega arith) c.loop-date.invariant
    (adds_as (ap₂ (λ x y. x ∷ y ∷ []) (sym c.hex_digit.ensures) (sym c.hex_digit-in-loop-date.ensures)) c.add.ensures)
