-- Walks as they are handed in, and the tables' answer for a series. Definitions, to be believed. Assumes nothing.
use Rattle.std.specs.Prelude.{List, ℕ, ◌+◌, ◌*◌, ◌/◌, ◌%◌, ◌^◌, ◌<◌, T}
use Rattle.laws.specs.Masks.{has}
use Rattle.meaning.specs.Flags.{flags}
use Rattle.automaton.specs.Tables.{Tables}
use Rattle.automaton.specs.Walk.{walked, begun, answer}
use Rattle.walking.specs.declared.Walk.{Walk}

-- the set of states of a walk, and the walk that is a set
abbrev pub mask : Walk → ℕ
mask m = m.high * 2 ^ 64 + m.low

abbrev pub walk_of : ℕ → Walk
walk_of s = record { low = s % 2 ^ 64; high = s / 2 ^ 64 }

-- a walk is good when it holds no state number at or above the count
pub record GoodWalk (n : ℕ) (m : Walk) : Type 0 where
  pub below : (q : ℕ) → has (mask m) q → q < n

-- the tables answer yes to a series: a walk that is begun and moved by each of its dates ends with a state that accepts
abbrev pub Accepted : Tables → List ℕ → Type 0
Accepted t s = T (answer t (walked flags t begun s))
