-- A judge that says one thing always is wrong, and so is one that takes the first date and no other: tables on which each goes wrong. Assumes nothing.
use Rattle.std.specs.Prelude.{◌≡◌, Bool, true, false, List, [], ◌∷◌, ℕ, Result, Ok, Err}
use Rattle.std.proofs.Common.{sym, ap, ◌∙◌, arith}
use Rattle.meaning.specs.Flags.{flags}
use Rattle.automaton.specs.Tables.{Tables, Good, word}
use Rattle.automaton.specs.Walk.{moved, begun}
use Rattle.automaton.proofs.TableLaws.{good_test, good_means}
use Rattle.answers.specs.declared.Refusal.{Refusal}
use Rattle.walking.specs.declared.Walk.{Walk}
use Rattle.walking.specs.Walks.{mask, walk_of}
use Rattle.walking.specs.Answers.{Along, Judged}

-- one state and no edge, with this accept byte
unfoldable pub lone : ℕ → Tables
lone accept = record { states = 1; edge_count = 0; starts = 0 ∷ 0 ∷ []; accepts = accept ∷ []; edges = [] }

lone_good : Good flags (lone 0)
unfolding good_test lone
lone_good = (good_means flags (lone 0)).0 tt

pub always_yes_wrong : Judged (lone 0) [] (Ok true) → ⊥
unfolding lone
always_yes_wrong j = j.told.1

pub always_no_wrong : Judged (lone 1) [] (Ok false) → ⊥
unfolding lone
always_no_wrong j = j.told.1 tt

pub always_refused_wrong : (s : List ℕ) (f : Refusal) → Judged (lone 0) s (Err f) → ⊥
always_refused_wrong s f j = j.told.2 lone_good

-- from state 0 to 1 and from 1 to 2 on any date; 2 alone accepts
unfoldable pub chain : Tables
chain = record {
  states = 3;
  edge_count = 2;
  starts = 0 ∷ 1 ∷ 2 ∷ 2 ∷ [];
  accepts = 0 ∷ 0 ∷ 1 ∷ [];
  edges = word flags 0 0 1 ∷ word flags 0 0 2 ∷ [];
}

chain_good : Good flags chain
unfolding good_test chain
chain_good = (good_means flags chain).0 tt

-- no answer is right after one date and after two: whoever stands still after the first date is wrong
pub stands_still_wrong : (r : Result Bool Refusal) → Judged chain (0 ∷ []) r → Judged chain (0 ∷ 0 ∷ []) r → ⊥
unfolding chain
stands_still_wrong (Ok true) j k = j.told.1
stands_still_wrong (Ok false) j k = k.told.1 tt
stands_still_wrong (Err f) j k = j.told.2 chain_good

-- and no walk is the one after one date and after two
pub walk_still_wrong : (m : Walk) → Along chain (walk_of begun) (0 ∷ []) m → Along chain (walk_of begun) (0 ∷ 0 ∷ []) m → ⊥
unfolding chain
walk_still_wrong m (a, p, e) (b, q, (c, r, f)) =
    let first : mask m ≡ 2 = ap mask (sym e ∙ p.told.1) in
    let then : mask m ≡ 4 = ap mask (sym f ∙ r.told.1) ∙ ap (λ (w : Walk). mask (walk_of (moved flags chain (mask w) 0))) q.told.1 in
    omega arith
