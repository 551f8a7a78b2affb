-- The automaton that a build's slices describe: it is good, and its state i accepts what state i of the rule's automaton accepts. Assumes nothing.
use Rattle.std.specs.Prelude.{ℕ, zero, suc, ◌+◌, ◌-◌, ◌*◌, ◌≤◌, ◌<◌, ◌≡◌, refl, Bool, true, false, ◌↔◌, ◌⊎◌, ltb, get_or, take, drop}
use Rattle.std.proofs.Common.{suc-le-suc, zero-le, le_of_suc-le-suc, not-suc-le-zero, arith, sym, ap, ap₂, ◌∙◌, subst, inl, inr, ⊎_elim, length-append, take-append-drop, get_or-append-add, drop-cons, take-suc, lt-ltb}
use Rattle.std.proofs.Math.Decide.{dec_lt}
use Rattle.std.proofs.Math.Path.{subst⁻¹}
use Rattle.std.proofs.Math.Logic.Iff
use mathlib.Core.List.{List, [], ◌∷◌, ◌++◌, append-nil, append_assoc}
use Rattle.std.specs.Int.Bits.{bit_and}
use Rattle.std.proofs.Math.Dec.{T, eqb}
use Rattle.std.proofs.Math.ListN.{length, get_or-append}
use Rattle.std.proofs.lemmas.List.{length-map}
use Rattle.std.proofs.Math.Seq.{take-length}
use Rattle.laws.specs.Decided.{eq_means, T-or, tested}
use Rattle.laws.specs.Lists.{Some, All, In, in_at, at_in, at_map, all_at, some_map, keep, all_distinct, all_front}
use Rattle.laws.specs.Masks.{has}
use Rattle.laws.specs.Places.{place, place_found}
use Rattle.laws.specs.Ranges.{one, length_list_of, get_d_list_of}
use Rattle.meaning.specs.Flags.{flags}
use Rattle.meaning.specs.Formula.{Formula as Tree, Series}
use Rattle.meaning.specs.Syntax.{Syntax, nnf}
use Rattle.meaning.specs.Dialect.{AnswersYes, TextAnswersYes}
use Rattle.meaning.proofs.DialectLaws.{nnf_answers}
use Rattle.meaning.specs.declared.Profile.{Profile}
use Rattle.rule.specs.Numbering.{Numbers}
use Rattle.rule.proofs.ListingLaws.{rule_one}
use Rattle.rule.specs.declared.Rule.{Rule}
use Rattle.automaton.specs.Tables.{Tables, Good, present, absent, target, allows, start as start_at, edge as edge_at}
use Rattle.automaton.proofs.TableLaws.{allows_means}
use Rattle.automaton.specs.Walk.{Accepts, walked, begun, answer as walk_answer}
use Rattle.automaton.proofs.WalkLaws.{walk_answers}
use Rattle.automaton.specs.Exploration.{Reached, at_start, explored}
use Rattle.automaton.proofs.ExplorationLaws.{Numbered, explored_closed, numbering_explored, numbering_numbered}
use Rattle.tables.specs.declared.Choice.{Choice}
use Rattle.tables.specs.Choices.{free, state_choices}
use Rattle.tables.specs.Tables.{consistent, same_choice, edges_of, word, edges, targets, accepting, start, TooMuch, states, rows_of, start_of, start_entries, accept_entries, edge_entries}
use Rattle.tables.specs.Building.{Answer, counts, Slices, Long, filled, Builds, not_a_rule, short_slice, too_much, tables, made_of}
use Rattle.tables.specs.Laying.{laid_at, laid_length}
use Rattle.tables.specs.Bounds.{Bounded, edges_within}
use Rattle.tables.specs.Outcome.{same_counts}
use Rattle.tables.specs.Words.{word_present, word_absent, word_target}
use Rattle.tables.specs.Fitting.{Allows}
use Rattle.tables.specs.Agreement.{AcceptsFrom, start_accepts}
use Rattle.tables.specs.RowLaws.{get_d_any, states_few}

-- the automaton of the slices after a build
abbrev pub described : Profile → Tree → Slices → Tables
described π φ s = record {
  states = length (states π φ);
  edge_count = length (edge_entries π φ);
  starts = (filled π φ s).starts;
  accepts = (filled π φ s).accepts;
  edges = (filled π φ s).edges;
}

-- ---- rows by index

some_at : (P : Choice → Type 0) (l : List Choice) → Some P l ↔ ((j : ℕ) × (j < length l) × P (get_or l j free))
some_at P [] = (λ h. absurd h, λ (j, h, p). absurd (not-suc-le-zero h))
some_at P (c ∷ l) = (
  ⊎_elim (λ p. (0, suc-le-suc zero-le, p)) (λ h. let (j, k, p) = (some_at P l).0 h in (suc j, suc-le-suc k, p)),
  λ (j, h, p). back (some_at P l).1 j h p,
)
  where
    back : (((j : ℕ) × (j < length l) × P (get_or l j free)) → Some P l) → (j : ℕ) → j < length (c ∷ l) → P (get_or (c ∷ l) j free) → Some P (c ∷ l)
    back f zero h p = inl p
    back f (suc j) h p = inr (f (j, le_of_suc-le-suc h, p))

one_bit : (b : Bool) → (eqb (one b) 1 ≡ b) × (one b ≤ 1)
one_bit true = (refl, omega arith)
one_bit false = (refl, omega arith)

module _ (π : Profile) (φ : Tree) where
  rows_append : (l k : List ℕ) → rows_of π φ (l ++ k) ≡ rows_of π φ l ++ rows_of π φ k
  rows_append [] k = refl
  rows_append (m ∷ l) k = ap (λ (r : List Choice). edges π φ m ++ r) (rows_append l k) ∙ sym (append_assoc (edges π φ m) (rows_of π φ l) (rows_of π φ k))

  -- row i stands behind the rows before it
  rows_split : (l : List ℕ) (i : ℕ) → i < length l → rows_of π φ l ≡ rows_of π φ (take i l) ++ (edges π φ (get_or l i 0) ++ rows_of π φ (drop (suc i) l))
  rows_split l i h =
      ap (rows_of π φ) (sym (take-append-drop i l)) ∙ rows_append (take i l) (drop i l) ∙ ap (λ (r : List ℕ). rows_of π φ (take i l) ++ rows_of π φ r) (drop-cons l i 0 h)

  row_edge : (l : List ℕ) (i j : ℕ) → i < length l → j < length (edges π φ (get_or l i 0)) → get_or (rows_of π φ l) (start_of π φ l i + j) free ≡ get_or (edges π φ (get_or l i 0)) j free
  row_edge l i j h k =
      ap (λ (r : List Choice). get_or r (start_of π φ l i + j) free) (rows_split l i h)
      ∙ get_or-append-add (rows_of π φ (take i l)) (edges π φ (get_or l i 0) ++ rows_of π φ (drop (suc i) l)) j free
      ∙ get_or-append (edges π φ (get_or l i 0)) (rows_of π φ (drop (suc i) l)) free j k

  next_start : (l : List ℕ) (i : ℕ) → i < length l → start_of π φ l (suc i) ≡ start_of π φ l i + length (edges π φ (get_or l i 0))
  next_start l i h =
      ap (λ (r : List ℕ). length (rows_of π φ r)) (take-suc l i 0 h) ∙ ap length (rows_append (take i l) (get_or l i 0 ∷ []))
      ∙ length-append (rows_of π φ (take i l)) (rows_of π φ (get_or l i 0 ∷ []))
      ∙ ap (λ (r : List Choice). start_of π φ l i + length r) (append-nil (edges π φ (get_or l i 0)))

  start_all : (l : List ℕ) (i : ℕ) → i < length l → start_of π φ l i + length (edges π φ (get_or l i 0)) ≤ length (rows_of π φ l)
  start_all l i h =
      omega (
        arith,
        ap length (rows_split l i h),
        length-append (rows_of π φ (take i l)) (edges π φ (get_or l i 0) ++ rows_of π φ (drop (suc i) l)),
        length-append (edges π φ (get_or l i 0)) (rows_of π φ (drop (suc i) l)),
      )

-- edges are consistent
edges_consistent : (cs : List Choice) → All (λ c. T (consistent c)) (edges_of cs)
unfolding edges_of
edges_consistent cs = all_distinct (λ c. T (consistent c)) same_choice (keep consistent cs) (go cs)
  where
    go : (l : List Choice) → All (λ c. T (consistent c)) (keep consistent l)
    go [] = tt
    go (c ∷ l) = front (tested (consistent c)) (go l)
      where
        front : T (consistent c) ⊎ (T (consistent c) → ⊥) → All (λ c. T (consistent c)) (keep consistent l) → All (λ c. T (consistent c)) (keep consistent (c ∷ l))
        front (inl u) h = (all_front (λ c. T (consistent c)) (consistent c) c (keep consistent l)).1 (λ t. u, h)
        front (inr u) h = (all_front (λ c. T (consistent c)) (consistent c) c (keep consistent l)).1 (λ t. t, h)

module _ (rule : Rule) (φ : Tree) (num : Numbers rule φ) (s : Slices) (long : Long s) (fine : ¬ TooMuch rule.profile φ) where
  abbrev t : Tables
  t = described rule.profile φ s

  abbrev S : List ℕ
  S = states rule.profile φ

  abbrev R : List Choice
  R = rows_of rule.profile φ S

  few : length S ≤ 128
  few = states_few rule.profile φ fine

  -- ---- the states are closed under edges

  closed : (i : ℕ) → i < length S → (b : ℕ) → In b (targets rule.profile φ (get_or S i 0)) → In b S
  unfolding states
  closed i h b p = explored_closed eqb eq_means (targets rule.profile φ) (start rule.profile φ) 128 few_now (get_or S i 0) b (in_at S i 0 h) p
    where
      few_now : length (explored eqb (targets rule.profile φ) (start rule.profile φ) 128) ≤ 128
      few_now = few

  edge_target : (i : ℕ) → i < length S → (c : Choice) → In c (edges rule.profile φ (get_or S i 0)) → In c.target S
  edge_target i h c p = closed i h c.target ((some_map (λ (y : ℕ). c.target ≡ y) (λ (x : Choice). x.target) (edges rule.profile φ (get_or S i 0))).1 (go (edges rule.profile φ (get_or S i 0)) p))
    where
      go : (l : List Choice) → In c l → Some (λ (x : Choice). c.target ≡ x.target) l
      go [] h = h
      go (x ∷ l) (inl e) = inl (ap (λ (y : Choice). y.target) e)
      go (x ∷ l) (inr h) = inr (go l h)

  -- ---- what the slices hold

  start_is : (i : ℕ) → i ≤ length S → start_at t i ≡ start_of rule.profile φ S i
  start_is i h =
      let inside : i < length (start_entries rule.profile φ) = omega (arith, length_list_of (suc (length S)) (start_of rule.profile φ S)) in
      laid_at 129 (start_entries rule.profile φ) s.starts i 0 inside ∙ get_d_list_of (suc (length S)) (start_of rule.profile φ S) i 0 (omega arith)

  accept_is : (i : ℕ) → i < length S → get_or t.accepts i 0 ≡ one (accepting rule.profile φ (get_or S i 0))
  accept_is i h =
      let inside : i < length (accept_entries rule.profile φ) = omega (arith, length-map S (λ (m : ℕ). one (accepting rule.profile φ m))) in
      laid_at 128 (accept_entries rule.profile φ) s.accepts i 0 inside ∙ at_map (λ (m : ℕ). one (accepting rule.profile φ m)) S i 0 0 h

  edge_is : (j : ℕ) → j < length R → edge_at t j ≡ word S (get_or R j free)
  edge_is j h =
      let inside : j < length (edge_entries rule.profile φ) = omega (arith, length-map R (word S)) in
      laid_at 8192 (edge_entries rule.profile φ) s.edges j 0 inside ∙ at_map (word S) R j free 0 h

  row_edge_is : (i j : ℕ) → i < length S → j < length (edges rule.profile φ (get_or S i 0)) → edge_at t (start_of rule.profile φ S i + j) ≡ word S (get_or (edges rule.profile φ (get_or S i 0)) j free)
  row_edge_is i j h k = edge_is (start_of rule.profile φ S i + j) (omega (arith, start_all rule.profile φ S i h)) ∙ ap (word S) (row_edge rule.profile φ S i j h k)

  edge_bounded : (i : ℕ) (c : Choice) → In c (edges rule.profile φ (get_or S i 0)) → Bounded flags c
  edge_bounded i c p = all_at (Bounded flags) (edges rule.profile φ (get_or S i 0)) (edges_within rule φ num (get_or S i 0)) c p

  -- ---- what the states accept

  allows_is : (i : ℕ) (c : Choice) (d : ℕ) → In c (edges rule.profile φ (get_or S i 0)) → T (allows flags (word S c) d) ↔ Allows c d
  allows_is i c d p =
      let b = edge_bounded i c p in
      subst (λ (x : ℕ). T (allows flags (word S c) d) ↔ (((k : ℕ) → has x k → has d k) × ((k : ℕ) → has c.absent k → ¬ has d k))) (word_present S c b)
      (subst (λ (x : ℕ). T (allows flags (word S c) d) ↔ (((k : ℕ) → has (present flags (word S c)) k → has d k) × ((k : ℕ) → has x k → ¬ has d k))) (word_absent S c b)
      (allows_means flags (word S c) d))

  abbrev Says : Series → ℕ → Type 0
  Says z i = Accepts flags t i z ↔ AcceptsFrom (edges rule.profile φ) (accepting rule.profile φ) (get_or S i 0) z

  -- one date, where the states say the same of the rest
  module _ (d : ℕ) (z : Series) (rest : (q : ℕ) → q < length S → Says z q) (i : ℕ) (h : i < length S) where
    abbrev row : List Choice
    row = edges rule.profile φ (get_or S i 0)

    -- an edge of the row, as a word and as a choice
    edge_says : (j : ℕ) → j < length row
        → (T (allows flags (edge_at t (start_of rule.profile φ S i + j)) d) × Accepts flags t (target flags (edge_at t (start_of rule.profile φ S i + j))) z)
        ↔ (Allows (get_or row j free) d × AcceptsFrom (edges rule.profile φ) (accepting rule.profile φ) (get_or row j free).target z)
    edge_says j k =
        let c = get_or row j free in
        let p : In c row = in_at row j free k in
        let (q, f) = place_found eqb eq_means c.target S 0 (edge_target i h c p) in
        subst⁻¹ (λ (x : ℕ). (T (allows flags x d) × Accepts flags t (target flags x) z) ↔ (Allows c d × AcceptsFrom (edges rule.profile φ) (accepting rule.profile φ) c.target z)) (row_edge_is i j h k)
        (Iff.and (allows_is i c d p)
        (subst⁻¹ (λ (x : ℕ). Accepts flags t x z ↔ AcceptsFrom (edges rule.profile φ) (accepting rule.profile φ) c.target z) (word_target S c (edge_bounded i c p))
        (subst (λ (x : ℕ). Accepts flags t (place eqb c.target S) z ↔ AcceptsFrom (edges rule.profile φ) (accepting rule.profile φ) x z) f (rest (place eqb c.target S) q))))

    abbrev ByIndex : Type 0
    ByIndex = (j : ℕ) × (j < length row) × (Allows (get_or row j free) d × AcceptsFrom (edges rule.profile φ) (accepting rule.profile φ) (get_or row j free).target z)

    first_is : start_at t i ≡ start_of rule.profile φ S i
    first_is = start_is i (omega arith)

    last_is : start_at t (suc i) ≡ start_of rule.profile φ S i + length row
    last_is = start_is (suc i) h ∙ next_start rule.profile φ S i h

    there : Accepts flags t i (d ∷ z) → ByIndex
    there (x, lo, hi, p) =
        let e : x ≡ start_of rule.profile φ S i + (x - start_of rule.profile φ S i) = omega (arith, first_is) in
        let k : x - start_of rule.profile φ S i < length row = omega (arith, first_is, last_is) in
        (x - start_of rule.profile φ S i, k, (edge_says (x - start_of rule.profile φ S i) k).0 (subst (λ (y : ℕ). T (allows flags (edge_at t y) d) × Accepts flags t (target flags (edge_at t y)) z) e p))

    back : ByIndex → Accepts flags t i (d ∷ z)
    back (j, k, p) = (start_of rule.profile φ S i + j, omega (arith, first_is), omega (arith, last_is), (edge_says j k).1 p)

    row_says : Says (d ∷ z) i
    unfolding AcceptsFrom
    row_says = Iff.trans (there, back) (Iff.symm (some_at (λ (c : Choice). Allows c d × AcceptsFrom (edges rule.profile φ) (accepting rule.profile φ) c.target z) row))

  pub state_says : (z : Series) (i : ℕ) → i < length S → Says z i
  unfolding AcceptsFrom
  state_says [] i h = subst⁻¹ (λ (x : ℕ). T (eqb x 1) ↔ T (accepting rule.profile φ (get_or S i 0))) (accept_is i h)
      (subst⁻¹ (λ (b : Bool). T b ↔ T (accepting rule.profile φ (get_or S i 0))) (one_bit (accepting rule.profile φ (get_or S i 0))).0 Iff.rfl)
  state_says (d ∷ z) i h = row_says d z (state_says z) i h

  -- ---- state 0

  numbered : Numbered eqb (targets rule.profile φ) (start rule.profile φ) S
  unfolding states
  numbered = numbering_numbered eqb eq_means (targets rule.profile φ) (start rule.profile φ) (explored eqb (targets rule.profile φ) (start rule.profile φ) 128) (numbering_explored eqb eq_means (targets rule.profile φ) (start rule.profile φ) 128 few)

  some_state : 0 < length S
  some_state = let (i, h, e) = at_in (start rule.profile φ) S 0 ((numbered.holds (start rule.profile φ)).1 at_start) in omega arith

  first_state : get_or S 0 0 ≡ start rule.profile φ
  first_state = get_d_any S 0 0 (start rule.profile φ) some_state ∙ numbered.first

  -- the tables say what the formula says, of every series
  pub tables_agree : (z : Series) → Accepts flags t 0 z ↔ AnswersYes rule.profile φ z
  tables_agree z =
      Iff.trans (state_says z 0 some_state)
      (subst⁻¹ (λ (m : ℕ). AcceptsFrom (edges rule.profile φ) (accepting rule.profile φ) m z ↔ AnswersYes rule.profile φ z) first_state (start_accepts rule.profile φ num.fits.few z))

  -- ---- the tables are good

  row_small : (i : ℕ) → i < length S → length (edges rule.profile φ (get_or S i 0)) ≤ 64
  row_small i h = go (dec_lt 64 (length (edges rule.profile φ (get_or S i 0))))
    where
      reached : Reached (targets rule.profile φ) (start rule.profile φ) (get_or S i 0)
      reached = (numbered.holds (get_or S i 0)).0 (in_at S i 0 h)

      go : Dec (64 < length (edges rule.profile φ (get_or S i 0))) → length (edges rule.profile φ (get_or S i 0)) ≤ 64
      go (yes l) = absurd (fine (inr (
        get_or S i 0,
        reached,
        (T-or (ltb 1024 (length (state_choices rule.profile φ (get_or S i 0)))) (ltb 64 (length (edges rule.profile φ (get_or S i 0))))).1 (inr (rw (lt-ltb 64 (length (edges rule.profile φ (get_or S i 0))) l) tt)),
      )))
      go (no l) = omega arith

  starts_small : (i : ℕ) → i ≤ length S → start_of rule.profile φ S i ≤ 64 * i
  starts_small zero h = zero-le
  starts_small (suc i) h = omega (arith, starts_small i (omega arith), next_start rule.profile φ S i h, row_small i h)

  start_end : start_of rule.profile φ S (length S) ≡ length R
  start_end = ap (λ (l : List ℕ). length (rows_of rule.profile φ l)) (take-length S)

  edges_few : length R ≤ 8192
  edges_few = omega (arith, start_end, starts_small (length S) (omega arith), few)

  -- each edge stands in a row
  edge_row : (l : List ℕ) (j : ℕ) → j < length (rows_of rule.profile φ l) → (m : ℕ) × In m l × In (get_or (rows_of rule.profile φ l) j free) (edges rule.profile φ m)
  edge_row [] j h = absurd (not-suc-le-zero h)
  edge_row (m ∷ l) j h = go (dec_lt j (length (edges rule.profile φ m))) (edge_row l)
    where
      go : Dec (j < length (edges rule.profile φ m)) → ((k : ℕ) → k < length (rows_of rule.profile φ l) → (x : ℕ) × In x l × In (get_or (rows_of rule.profile φ l) k free) (edges rule.profile φ x))
          → (x : ℕ) × In x (m ∷ l) × In (get_or (edges rule.profile φ m ++ rows_of rule.profile φ l) j free) (edges rule.profile φ x)
      go (yes k) f = (m, inl refl, subst⁻¹ (λ (c : Choice). In c (edges rule.profile φ m)) (get_or-append (edges rule.profile φ m) (rows_of rule.profile φ l) free j k) (in_at (edges rule.profile φ m) j free k))
      go (no k) f =
          let e : j ≡ length (edges rule.profile φ m) + (j - length (edges rule.profile φ m)) = omega arith in
          let (x, i, p) = f (j - length (edges rule.profile φ m)) (omega (arith, length-append (edges rule.profile φ m) (rows_of rule.profile φ l))) in
          (x, inr i, subst⁻¹ (λ (c : Choice). In c (edges rule.profile φ x)) (ap (λ (y : ℕ). get_or (edges rule.profile φ m ++ rows_of rule.profile φ l) y free) e ∙ get_or-append-add (edges rule.profile φ m) (rows_of rule.profile φ l) (j - length (edges rule.profile φ m)) free) p)

  -- what is so of the edges of every state is so of each entry
  entry_of : (P : Choice → Type 0) → ((i : ℕ) → i < length S → (c : Choice) → In c (edges rule.profile φ (get_or S i 0)) → P c) → (j : ℕ) → j < length R → P (get_or R j free)
  entry_of P f j h =
      let (m, i, p) = edge_row S j h in
      let (k, l, e) = at_in m S 0 i in
      f k l (get_or R j free) (subst⁻¹ (λ (x : ℕ). In (get_or R j free) (edges rule.profile φ x)) e p)

  edge_count_lem : (j : ℕ) → j < length (edge_entries rule.profile φ) → j < length R
  edge_count_lem j h = omega (arith, length-map R (word S))

  pub described_good : Good flags t
  described_good = record {
    some_state = some_state;
    few_states = few;
    starts_fit = omega (arith, few, long.starts_long, laid_length 129 (start_entries rule.profile φ) s.starts (omega (arith, length_list_of (suc (length S)) (start_of rule.profile φ S), few)) long.starts_long);
    accepts_fit = omega (arith, few, long.accepts_long, laid_length 128 (accept_entries rule.profile φ) s.accepts (omega (arith, length-map S (λ (m : ℕ). one (accepting rule.profile φ m)), few)) long.accepts_long);
    edges_fit = omega (arith, edges_few, length-map R (word S), long.edges_long, laid_length 8192 (edge_entries rule.profile φ) s.edges (omega (arith, edges_few, length-map R (word S))) long.edges_long);
    first_start = start_is 0 zero-le;
    starts_rise = λ q h. omega (arith, start_is q (omega arith), start_is (suc q) h, next_start rule.profile φ S q h);
    few_edges = omega (arith, edges_few, length-map R (word S));
    last_start = start_is (length S) (omega arith) ∙ start_end ∙ sym (length-map R (word S));
    accept_bits = λ q h. subst⁻¹ (λ (x : ℕ). x ≤ 1) (accept_is q h) (one_bit (accepting rule.profile φ (get_or S q 0))).1;
    fair_edges = λ j h.
        subst⁻¹ (λ (x : ℕ). bit_and (present flags x) (absent flags x) ≡ 0) (edge_is j (edge_count_lem j h)) (entry_of (λ c. bit_and (present flags (word S c)) (absent flags (word S c)) ≡ 0)
        (λ i l c p. let b = edge_bounded i c p in
        ap₂ bit_and (word_present S c b) (word_absent S c b)
        ∙ (eq_means (bit_and c.present c.absent) 0).0 (all_at (λ c. T (consistent c)) (edges rule.profile φ (get_or S i 0)) (edges_consistent (state_choices rule.profile φ (get_or S i 0))) c p)) j (edge_count_lem j h));
    targets = λ j h.
        subst⁻¹ (λ (x : ℕ). target flags x < length S) (edge_is j (edge_count_lem j h)) (entry_of (λ c. target flags (word S c) < length S)
        (λ i l c p. subst⁻¹ (λ (x : ℕ). x < length S) (word_target S c (edge_bounded i c p)) (place_found eqb eq_means c.target S 0 (edge_target i l c p)).0) j (edge_count_lem j h));
  }

  -- so does a walk by them, from state 0
  pub walk_agrees : (z : Series) → T (walk_answer t (walked flags t begun z)) ↔ AnswersYes rule.profile φ z
  walk_agrees z = Iff.trans (walk_answers flags t described_good z) (tables_agree z)

-- ---- of what a build made

pub record Made (rule : Rule) (φ : Tree) (t : Tables) : Type 0 where
  pub good : Good flags t
  pub agrees : (z : Series) → Accepts flags t 0 z ↔ AnswersYes rule.profile φ z
  pub walks : (z : Series) → T (walk_answer t (walked flags t begun z)) ↔ AnswersYes rule.profile φ z

made_by : (rule : Rule) (s u : Slices) (a : Answer) → Builds rule s a u → (n k : ℕ) → a ≡ counts n k → (φ : Tree) → Numbers rule φ → Made rule φ (made_of n k u)
made_by rule s u a (not_a_rule x) n k e φ num = absurd (x (φ, num))
made_by rule s u a (short_slice x y) n k e φ num = let z : ◌≡◌ {A = ℕ} 0 1 = cc in absurd (omega arith)
made_by rule s u a (too_much ψ m l x) n k e φ num = let z : ◌≡◌ {A = ℕ} 0 1 = cc in absurd (omega arith)
made_by rule s u a (tables ψ m l x) n k e φ num =
    let (p, q) = same_counts (length (states rule.profile ψ)) (length (edge_entries rule.profile ψ)) n k e in
    subst (λ (χ : Tree). Made rule χ (made_of n k (filled rule.profile ψ s))) (rule_one rule ψ φ m num)
    (subst (λ (y : ℕ). Made rule ψ (made_of n y (filled rule.profile ψ s))) q
    (subst (λ (y : ℕ). Made rule ψ (made_of y (length (edge_entries rule.profile ψ)) (filled rule.profile ψ s))) p (record {
      good = described_good rule ψ m s l x;
      agrees = tables_agree rule ψ m s l x;
      walks = walk_agrees rule ψ m s l x;
    })))

-- tables that a build made of a rule are good, and they and a walk by them say yes exactly where the rule answers yes
pub build_agrees : (rule : Rule) (s u : Slices) (n k : ℕ) → Builds rule s (counts n k) u → (φ : Tree) → Numbers rule φ → Made rule φ (made_of n k u)
build_agrees rule s u n k b = made_by rule s u (counts n k) b n k refl

-- and of a rule that is read from a text, exactly where the text's tree, as it is written, answers yes
pub build_means : (rule : Rule) (s u : Slices) (n k : ℕ) → Builds rule s (counts n k) u → (p : Syntax) → Numbers rule (nnf p)
    → (z : Series) → Accepts flags (made_of n k u) 0 z ↔ TextAnswersYes rule.profile p z
build_means rule s u n k b p num z = Iff.trans ((build_agrees rule s u n k b (nnf p) num).agrees z) (Iff.symm (nnf_answers rule.profile p z))
