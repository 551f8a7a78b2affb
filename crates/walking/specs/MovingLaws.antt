-- A walk's states, gone through one by one, lie below the count. Assumes nothing.
use Rattle.std.specs.Prelude.{ℕ, ◌/◌, ◌%◌, ◌^◌, ◌<◌}
use Rattle.std.proofs.Common.{eqb-true}
use Rattle.laws.specs.Masks.{below_iff}
use Rattle.walking.specs.declared.Walk.{Walk}
use Rattle.walking.specs.Walks.{mask, GoodWalk}
use Rattle.walking.specs.Moving.{Next, Stands}

pub good_small : (n : ℕ) (m : Walk) → GoodWalk n m → mask m < 2 ^ n
good_small n m g = (below_iff n (mask m)).1 g.below

pub small_good : (n : ℕ) (m : Walk) → mask m < 2 ^ n → GoodWalk n m
small_good n m h = record { below = (below_iff n (mask m)).0 h }

pub stands_below : (n q : ℕ) (m : Walk) → GoodWalk n m → q < 128 → Stands (mask m) 128 q → q < n
stands_below n q m g h s = g.below q (eqb-true (mask m / 2 ^ q % 2) 1 (s.here h))

pub next_stands : (m a e r : ℕ) → Next m a e r → Stands m e r
next_stands m a e r n = record { within = n.within; here = n.found }
