-- What the program's functions hand to one another. Assumes nothing.
use Rattle.std.specs.Prelude.{◌≡◌, List, ℕ, ◌+◌, ◌≤◌, ◌<◌, Result, Ok, length}
use Rattle.std.proofs.Common.{refl, subst, arith}
use Rattle.answers.specs.declared.Refusal.{Refusal}
use Rattle.answers.specs.Refusals.{outcome}
use Rattle.automaton.specs.Tables.{Tables, Good}
use Rattle.meaning.specs.Flags.{flags}
use Rattle.meaning.specs.Formula.{Formula as Tree}
use Rattle.meaning.specs.Syntax.{nnf}
use Rattle.reading.specs.declared.Refusal.{Refusal as ReadingRefusal}
use Rattle.reading.specs.Outcomes.{read_known}
use Rattle.reading.specs.Promise.{Reads}
use Rattle.rule.specs.Numbering.{IsRule, Numbers}
use Rattle.rule.specs.declared.Rule.{Rule}
use Rattle.tables.specs.declared.Counts.{Counts}
use Rattle.tables.specs.Building.{Answer, counts, Slices, Builds, not_a_rule, short_slice, too_much, tables, made_of}
use Rattle.tables.specs.Described.{build_agrees}
use Rattle.walking.specs.declared.lines.Progress.{Progress}
use Rattle.walking.specs.Walks.{Accepted}
use Rattle.walking.specs.Promises.{Tells, Takes, Answering}
use Rattle.walking.specs.PromisesLaws.{takes_within, takes_moves, takes_counted}

-- lines that are answered: the place stays within the bytes, it moves where there is an answer, and each line has a byte at least
pub record Onward (long : ℕ) (from to : Progress) : Type 0 where
  pub within : to.at ≤ long
  pub moves : from.end < to.end → from.at < to.at
  pub counted : to.number + from.at ≤ from.number + to.at

pub onward : (t : Tables) (bytes : List ℕ) (from : Progress) (before : List ℕ) (r : Result Progress Refusal) (to : Progress) (after : List ℕ) → r ≡ Ok to
    → from.at ≤ length bytes → Answering t bytes from before r after → Onward (length bytes) from to
onward t bytes from before r to after e h a =
    let takes : Takes (Accepted t) bytes from before to after = (subst (λ x. Tells t bytes from before after (outcome x)) e a.told).1 in record {
      within = takes_within _ _ _ _ _ _ takes h;
      moves = takes_moves _ _ _ _ _ _ takes h;
      counted = takes_counted _ _ _ _ _ _ takes;
    }

-- what is read is a rule
pub read_rule : (profile : ℕ) (text : List ℕ) (r : Result Rule ReadingRefusal) {rule : Rule} → Reads profile text r → r ≡ Ok rule → IsRule rule
read_rule profile text r x e = let (π, n, read) = read_known profile text r x e in (nnf read.tree, read.numbers)

-- where a build gives tables, its rule is one
built_rule : (rule : Rule) (s u : Slices) (a : Answer) (n k : ℕ) → Builds rule s a u → a ≡ counts n k → (φ : Tree) × Numbers rule φ
built_rule rule s u a n k (not_a_rule none) e = absurd (let z : ◌≡◌ {A = ℕ} 0 1 = cc in omega arith)
built_rule rule s u a n k (short_slice is short) e = absurd (let z : ◌≡◌ {A = ℕ} 0 1 = cc in omega arith)
built_rule rule s u a n k (too_much φ is long much) e = absurd (let z : ◌≡◌ {A = ℕ} 0 1 = cc in omega arith)
built_rule rule s u a n k (tables φ is long few) e = (φ, is)

-- so they are good
pub built_good : (rule : Rule) (s u : Slices) (r : Result Counts Refusal) (made : Counts) → r ≡ Ok made → Builds rule s (outcome r) u
    → Good flags (made_of made.states made.edges u)
built_good rule s u r made e b =
    let b' = subst (λ x. Builds rule s (outcome x) u) e b in
    let (φ, is) = built_rule rule s u (counts made.states made.edges) made.states made.edges b' refl in
    (build_agrees rule s u made.states made.edges b' φ is).good
