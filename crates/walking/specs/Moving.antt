-- How a walk is gone through and moved, step by step. Contracts of inner functions. Assumes nothing.
use Rattle.std.specs.Prelude.{◌≡◌, Bool, true, false, ◌&&◌, ◌||◌, List, ℕ, ◌-◌, ◌^◌, ◌≤◌, ◌<◌, eqb, take, Option, Some, None}
use Rattle.std.specs.List.{list_any}
use Rattle.laws.specs.Ranges.{any_in}
use Rattle.laws.specs.Masks.{bit}
use Rattle.meaning.specs.Flags.{flags}
use Rattle.automaton.specs.Tables.{Tables, allows, target, word}
use Rattle.automaton.specs.Walk.{any_edge}
use Rattle.automaton.specs.declared.StateNo.{StateNo}
use Rattle.walking.specs.declared.sets.States.{States}
use Rattle.walking.specs.Walks.{mask}

-- r is the first member of m from a on; e where there is none before e
pub record Next (m a e r : ℕ) : Type 0 where
  pub from : a ≤ r
  pub within : r ≤ e
  pub none : (q : ℕ) → a ≤ q → q < r → bit m q ≡ false
  pub found : r < e → bit m r ≡ true

-- r is the lowest member of m, all of which are below e, and is taken out
pub record Lowest (e m r left : ℕ) : Type 0 where
  pub few : r < e
  pub here : bit m r ≡ true
  pub lower : (q : ℕ) → q < r → bit m q ≡ false
  pub gone : (q : ℕ) → q ≤ r → bit left q ≡ false
  pub others : (q : ℕ) → r < q → bit left q ≡ bit m q
  pub less : left < m

-- the lowest state that is left is given, where one is
abbrev pub GivesLowest : States → Option StateNo → States → Type 0
GivesLowest s None t = mask s.left ≡ 0
GivesLowest s (Some q) t = Lowest 128 (mask s.left) q.0 (mask t.left)

-- edge e moves to state r on date d
abbrev pub leads : ℕ → ℕ → ℕ → Bool
leads d r e = allows flags e d && eqb (target flags e) r

-- the flags for which date d bars an edge: those that d lacks, where an edge has what must be present, and above them those of d, where it has what must be absent
abbrev pub barred_by : ℕ → ℕ
barred_by d = word flags (2 ^ flags - 1 - d) d 0

-- out is m and what the first k edges of a row add
pub record Added (n : ℕ) (row : List ℕ) (d m k out : ℕ) : Type 0 where
  pub small : out < 2 ^ n
  pub members : (r : ℕ) → bit out r ≡ (bit m r || list_any (leads d r) (take k row))

-- out is what the states of m below q move to on date d
pub record Moved (t : Tables) (d m q out : ℕ) : Type 0 where
  pub small : out < 2 ^ t.states
  pub members : (r : ℕ) → bit out r ≡ any_in 0 q (λ p. bit m p && any_edge t p (leads d r))

-- q is a member of m, or the end
pub record Stands (m e q : ℕ) : Type 0 where
  pub within : q ≤ e
  pub here : q < e → bit m q ≡ true
