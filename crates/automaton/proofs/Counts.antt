-- How the counts are filled in, entry by entry and round by round. Assumes nothing.
use Rattle.std.specs.Prelude.{◌≡◌, refl, cond, Bool, true, false, T, ◌&&◌, List, ℕ, suc, ◌+◌, ◌≤◌, ◌<◌, eqb, length, get_or}
use Rattle.std.specs.List.{list_any}
use borrow.Author.Count.{below_more}
use Rattle.std.proofs.lemmas.List.{get_or-set_same, get_or-set_other}
use Rattle.std.proofs.Common.{sym, ap, ap₂, ◌∙◌, add-one, eqb→eq, arith}
use Rattle.std.proofs.Math.ListN.{set}
use Rattle.std.proofs.Math.Logic.{by_cases}
use Rattle.std.proofs.Math.Decide.{dec_lt}
use Rattle.std.proofs.lemmas.Grind.{same_number_lists}
use Rattle.laws.specs.Ranges.{list_of, length_list_of, get_d_list_of, any_same}
use Rattle.meaning.specs.Flags.{flags}
use Rattle.automaton.specs.Tables.{Tables, Good, start, edge, target, row_of}
use Rattle.automaton.specs.Column.{never}
use Rattle.automaton.specs.Rounds.{next_entry}
use Rattle.automaton.proofs.RoundsLaws.{in_place}
use Rattle.automaton.proofs.RowLaws.{row_any}

-- a list with these entries, and no other, is the list of them
pub is_list_of : (xs : List ℕ) (n : ℕ) (f : ℕ → ℕ) → length xs ≡ n → ((k : ℕ) → k < n → get_or xs k 0 ≡ f k) → xs ≡ list_of n f
is_list_of xs n f long entries = same_number_lists xs (list_of n f) (long ∙ sym (length_list_of n f))
    (λ k h. let below : k < n = omega arith in entries k below ∙ sym (get_d_list_of n f k 0 below))

-- the first k counts are those after round r, and the others those before it
pub record Rounded (t : Tables) (r k : ℕ) (old new : List ℕ) : Type 0 where
  pub done : (q : ℕ) → q < k → get_or new q 0 ≡ next_entry flags t r old q
  pub rest : (q : ℕ) → k ≤ q → get_or new q 0 ≡ get_or old q 0

module _ (t : Tables) (r : ℕ) (old new : List ℕ) (small : r < never) (k : ℕ) (x : Rounded t r k old new) where
  -- the round's question has the same answer before and after an entry is laid in
  same_asked : (p : ℕ) → eqb (get_or new p 0) r ≡ eqb (get_or old p 0) r
  same_asked p = by_cases (dec_lt p k)
      (λ l. ap (λ v. eqb v r) (x.done p l) ∙ in_place flags t r old p small)
      (λ l. ap (λ v. eqb v r) (x.rest p (omega arith)))

  same_next : next_entry flags t r new k ≡ next_entry flags t r old k
  same_next =
      ap₂ (λ (v : ℕ) (b : Bool). cond (eqb v never && b) (suc r) v) (x.rest k (omega arith))
      (any_same (start t k) (start t (suc k)) (λ i. eqb (get_or new (target flags (edge t i)) 0) r) (λ i. eqb (get_or old (target flags (edge t i)) 0) r)
      (λ i a b. same_asked (target flags (edge t i))))

  pub rounded_more : (v : ℕ) → k < length new → v ≡ next_entry flags t r new k → Rounded t r (k + 1) old (set new k v)
  rounded_more v fits e = record {
    done = below_more _ k (λ p h. get_or-set_other new k p v 0 (λ e. omega arith) ∙ x.done p h) (get_or-set_same new k v 0 fits ∙ e ∙ same_next);
    rest = λ p h. get_or-set_other new k p v 0 (λ e. omega arith) ∙ x.rest p (omega arith);
  }

-- one state's count, as the code asks for it
module _ (t : Tables) (good : Good flags t) (r : ℕ) (col : List ℕ) (q : ℕ) (h : q < t.states) where
  -- whether an edge of its row leads to a state with the count r
  abbrev leads : Bool
  leads = list_any (λ e. eqb (get_or col (target flags e) 0) r) (row_of t q)

  next_told : next_entry flags t r col q ≡ cond (eqb (get_or col q 0) never && leads) (suc r) (get_or col q 0)
  next_told = ap (λ (b : Bool). cond (eqb (get_or col q 0) never && b) (suc r) (get_or col q 0)) (row_any t good q h (λ e. eqb (get_or col (target flags e) 0) r))

  pub next_given : get_or col q 0 ≡ never → true ≡ leads → r + 1 ≡ next_entry flags t r col q
  next_given e l = rw (next_told, e, ← l) (add-one r)

  pub next_kept : (get_or col q 0 ≡ never → false ≡ leads) → get_or col q 0 ≡ next_entry flags t r col q
  next_kept f = go (eqb (get_or col q 0) never) leads (λ u. f (eqb→eq (get_or col q 0) never u)) ∙ sym next_told
    where
      go : (x y : Bool) → (T x → false ≡ y) → get_or col q 0 ≡ cond (x && y) (suc r) (get_or col q 0)
      go false y e = refl
      go true y e = rw (← e tt)
