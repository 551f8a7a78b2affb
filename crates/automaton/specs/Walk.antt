-- What the automaton that tables describe accepts, and the walk over it: a set of states, as a mask. Definitions, to be believed. Assumes nothing.
use Rattle.std.specs.Prelude.{Bool, ◌&&◌, List, [], ◌∷◌, ℕ, suc, T, eqb}
use Rattle.laws.specs.Ranges.{any_in, SomeIn}
use Rattle.laws.specs.Masks.{bit, mask_of}
use Rattle.automaton.specs.Tables.{Tables, start, edge, target, allows, accepting}

-- ---- what a state accepts

-- some edge of row q has P
abbrev pub SomeEdge : Tables → ℕ → (ℕ → Type 0) → Type 0
SomeEdge t q P = SomeIn (start t q) (start t (suc q)) (λ i. P (edge t i))

-- state q accepts a series
abbrev pub Accepts : ℕ → Tables → ℕ → List ℕ → Type 0
Accepts w t q [] = T (accepting t q)
Accepts w t q (d ∷ s) = SomeEdge t q (λ e. T (allows w e d) × Accepts w t (target w e) s)

-- ---- the walk

abbrev pub any_edge : Tables → ℕ → (ℕ → Bool) → Bool
any_edge t q f = any_in (start t q) (start t (suc q)) (λ i. f (edge t i))

-- some state of m that passes f
abbrev pub any_state : Tables → ℕ → (ℕ → Bool) → Bool
any_state t m f = any_in 0 t.states (λ q. bit m q && f q)

-- date d moves a state of m to state r
abbrev pub moves : ℕ → Tables → ℕ → ℕ → ℕ → Bool
moves w t m d r = any_state t m (λ q. any_edge t q (λ e. allows w e d && eqb (target w e) r))

-- a date moves a walk along every edge that the date allows
abbrev pub moved : ℕ → Tables → ℕ → ℕ → ℕ
moved w t m d = mask_of t.states (moves w t m d)

-- the walk after a series
abbrev pub walked : ℕ → Tables → ℕ → List ℕ → ℕ
walked w t m [] = m
walked w t m (d ∷ s) = walked w t (moved w t m d) s

-- a walk begins with state 0 alone
abbrev pub begun : ℕ
begun = 1

-- one of its states accepts
abbrev pub answer : Tables → ℕ → Bool
answer t m = any_state t m (accepting t)

-- no state is left
abbrev pub closed : ℕ → Bool
closed m = eqb m 0
