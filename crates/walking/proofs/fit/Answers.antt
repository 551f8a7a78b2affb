use mathlib.Core.Path.{refl}
use Rattle.std.specs.Prelude.{None}
use native.Mathlib.Omega.{arith}
use Rattle.automaton.specs.Handed.{seen}
use Rattle.walking.proofs.Choices.{found_none, found_few, found_dates, found_told}
use Rattle.walking.proofs.fit.Goals as goal

pub returns-then-count : goal.returns-then-count
returns-then-count c =
    let (good, room, filled) = c.in_ok-fewest.ensures.told in
    rw (← c.in_ok-good.ensures.found.1)
    (record { told = (c.if-out-lt-DATES.false, good, (None, found_none (seen c.in_ok-good.good.tables) good _ filled.column c.if-count.true, refl)) })

pub write_fit-requires : goal.write_fit-requires
write_fit-requires c =
    let (good, room, filled) = c.in_ok-fewest.ensures.told in
    let few = found_few (seen c.in_ok-good.good.tables) good _ filled.column c.if-count.false in
    let dates = c.from-dates.ensures in
    let room = c.if-out-lt-DATES.false in
    (omega (arith, good.few_states, filled.long), omega arith, omega arith, rw dates (found_dates (seen c.in_ok-good.good.tables) good _ filled.column c.if-count.false))

pub returns : goal.returns
returns c =
    let (good, room, filled) = c.in_ok-fewest.ensures.told in
    let dates = c.from-dates.ensures in
    rw (← c.in_ok-good.ensures.found.1, dates)
    (record { told = found_told (seen c.in_ok-good.good.tables) good _ filled.column c.if-count.false _ _ c.if-out-lt-DATES.false (rw dates at c.write_fit.ensures) })
