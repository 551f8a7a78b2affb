-- From row to row: what is met and laid after each choice, and what an excess shows. Assumes nothing.
use Rattle.std.specs.Prelude.{ℕ, zero, suc, ◌+◌, ◌-◌, ◌^◌, ◌≤◌, ◌<◌, ◌≡◌, refl, Bool, true, false, cond, ◌⊎◌, None, List, [], ◌∷◌, ◌++◌, map, T, ltb, length, get_or, set, take, drop}
use Rattle.std.proofs.Common.{suc-le-suc, zero-le, le_of_suc-le-suc, not-suc-le-zero, eq-or-lt_of_le, add-one, arith, sym, ap, ap₂, ◌∙◌, subst, inl, inr, ⊎_elim, append-nil, append_assoc, length-append, take-append-drop, take-suc, take_all, lt-ltb, le-ltb}
use Rattle.std.proofs.Math.Path.{subst⁻¹}
use Rattle.std.specs.Int.Bits.{bit_or}
use Rattle.std.proofs.Math.Dec.{eqb}
use Rattle.std.proofs.lemmas.List.{length-map, take-append-le}
use Rattle.std.proofs.Math.Seq.{take-length}
use Rattle.laws.specs.Decided.{eq_means, T_true, T-or}
use Rattle.laws.specs.Lists.{Some, All, In, in_at, at_in, some_map}
use Rattle.laws.specs.Places.{Grows, grows_in, grows_at, grows_longer, is_in, is_in_means}
use Rattle.laws.specs.Ranges.{list_of, length_list_of}
use Rattle.meaning.specs.Flags.{flags}
use Rattle.meaning.specs.Formula.{Formula as Tree}
use Rattle.meaning.specs.Dialect.{dialect}
use Rattle.meaning.specs.declared.Profile.{Profile}
use Rattle.rule.specs.Numbering.{number, Numbers}
use Rattle.rule.proofs.Ordering.{number_whole}
use Rattle.rule.proofs.ListingLaws.{rule_count}
use Rattle.rule.specs.declared.Rule.{Rule}
use Rattle.tables.specs.declared.Choice.{Choice}
use Rattle.tables.specs.Choices.{free, state_choices}
use Rattle.automaton.specs.Exploration.{Reached, onward, Sound, meet, meet_all, explored}
use Rattle.automaton.proofs.ExplorationLaws.{meet_all_snoc, meet_all_in, sound_meet_all, visit_row, explored_sound, explored_grows, explored_stop, built_or_refused, built_not_refused}
use Rattle.tables.specs.Tables.{consistent, same_choice, edges_of, word, edges, targets, start, overfull, TooMuch, states, rows_of, start_of}
use Rattle.tables.specs.Building.{laid}
use Rattle.tables.specs.Laying.{laid_at, laid_set}
use Rattle.tables.specs.EdgeLaws.{added, same_choice_means, edges_snoc, edges_grow}
use Rattle.tables.specs.Bounds.{Bounded}
use Rattle.tables.specs.Progress.{up_to, Lies, meets, AddsTo, after, row_mask, rows_before, Begun, AtRow, kept_of, found_of, InRow, EndsAs, Fresh}

-- ---- lists

pub get_d_any : (l : List ℕ) (i a b : ℕ) → i < length l → get_or l i a ≡ get_or l i b
get_d_any [] i a b h = absurd (not-suc-le-zero h)
get_d_any (x ∷ l) zero a b h = refl
get_d_any (x ∷ l) (suc i) a b h = get_d_any l i a b (le_of_suc-le-suc h)

pub list_of_last : (n : ℕ) (f : ℕ → ℕ) → list_of (suc n) f ≡ list_of n f ++ (f n ∷ [])
list_of_last zero f = refl
list_of_last (suc n) f = ap (λ (l : List ℕ). f 0 ∷ l) (list_of_last n (λ q. f (suc q)))

list_of_same : (n : ℕ) (f g : ℕ → ℕ) → ((i : ℕ) → i < n → f i ≡ g i) → list_of n f ≡ list_of n g
list_of_same zero f g h = refl
list_of_same (suc n) f g h =
    ap₂ (λ (x : ℕ) (l : List ℕ). x ∷ l) (h 0 (suc-le-suc zero-le)) (list_of_same n (λ q. f (suc q)) (λ q. g (suc q)) (λ i l. h (suc i) (suc-le-suc l)))

abbrev target_of : Choice → ℕ
target_of c = c.target

map_last : (xs : List Choice) (x : Choice) → map target_of (xs ++ (x ∷ [])) ≡ map target_of xs ++ (x.target ∷ [])
map_last [] x = refl
map_last (y ∷ xs) x = ap (λ (r : List ℕ). y.target ∷ r) (map_last xs x)

-- the states met by a row's edges, with one choice more
meets_added : (found : List ℕ) (kept : List Choice) (c : Choice)
    → meet_all eqb found (map target_of (added kept c)) ≡ meets (meet_all eqb found (map target_of kept)) c
meets_added found kept c = go (consistent c) (is_in same_choice c kept) refl
  where
    now : List ℕ
    now = meet_all eqb found (map target_of kept)

    go : (a b : Bool) → is_in same_choice c kept ≡ b
        → meet_all eqb found (map target_of (cond a (cond b kept (kept ++ (c ∷ []))) kept)) ≡ cond a (meet eqb now c.target) now
    go true true h =
        let i : In c kept = (is_in_means same_choice same_choice_means c kept).0 (rw h tt) in
        let t : In c.target now =
        meet_all_in eqb eq_means found (map target_of kept) c.target ((some_map (λ (y : ℕ). c.target ≡ y) target_of kept).1 (some_at i)) in
        sym (ap (λ (x : Bool). cond x now (now ++ (c.target ∷ []))) (T_true {b = is_in eqb c.target now} ((is_in_means eqb eq_means c.target now).1 t)))
      where
        some_at : In c kept → Some (λ (x : Choice). c.target ≡ x.target) kept
        some_at = some_to_target kept
          where
            some_to_target : (l : List Choice) → In c l → Some (λ (x : Choice). c.target ≡ x.target) l
            some_to_target [] h = h
            some_to_target (x ∷ l) (inl e) = inl (ap target_of e)
            some_to_target (x ∷ l) (inr h) = inr (some_to_target l h)
    go true false h = ap (meet_all eqb found) (map_last kept c) ∙ meet_all_snoc eqb eq_means found (map target_of kept) c.target
    go false b h = refl

module _ (π : Profile) (φ : Tree) where
  rows_last : (l : List ℕ) (m : ℕ) → rows_of π φ (l ++ (m ∷ [])) ≡ rows_of π φ l ++ edges π φ m
  rows_last [] m = append-nil (edges π φ m)
  rows_last (x ∷ l) m = ap (λ (r : List Choice). edges π φ x ++ r) (rows_last l m) ∙ sym (append_assoc (edges π φ x) (rows_of π φ l) (edges π φ m))

  -- ---- this row

  abbrev choices_of_row : ℕ → List Choice
  choices_of_row row = state_choices π φ (row_mask π φ row)

  next_choice : (row j : ℕ) → j < length (choices_of_row row) → kept_of π φ row (suc j) ≡ added (kept_of π φ row j) (get_or (choices_of_row row) j free)
  next_choice row j h = ap edges_of (take-suc (choices_of_row row) j free h) ∙ edges_snoc (take j (choices_of_row row)) (get_or (choices_of_row row) j free)

  next_found : (row j : ℕ) → j < length (choices_of_row row) → found_of π φ row (suc j) ≡ meets (found_of π φ row j) (get_or (choices_of_row row) j free)
  next_found row j h =
      ap (λ (l : List Choice). meet_all eqb (after π φ row) (map target_of l)) (next_choice row j h) ∙ meets_added (after π φ row) (kept_of π φ row j) (get_or (choices_of_row row) j free)

  -- the edges of some choices are edges of the row
  kept_grows : (row j : ℕ) → Grows (kept_of π φ row j) (edges π φ (row_mask π φ row))
  kept_grows row j =
      subst (λ (l : List Choice). Grows (kept_of π φ row j) (edges_of l)) (take-append-drop j (choices_of_row row)) (edges_grow (take j (choices_of_row row)) (drop j (choices_of_row row)))

  row_reached : (row : ℕ) → row < length (after π φ row) → Reached (targets π φ) (start π φ) (row_mask π φ row)
  row_reached row h =
      (explored_sound eqb eq_means (targets π φ) (start π φ) row).reached (row_mask π φ row) (in_at (after π φ row) row (start π φ) h)

  target_reached : (row : ℕ) → row < length (after π φ row) → (c : Choice) → In c (edges π φ (row_mask π φ row)) → Reached (targets π φ) (start π φ) c.target
  target_reached row h c i = onward (row_reached row h) ((some_map (λ (y : ℕ). c.target ≡ y) target_of (edges π φ (row_mask π φ row))).1 (go (edges π φ (row_mask π φ row)) i))
    where
      go : (l : List Choice) → In c l → Some (λ (x : Choice). c.target ≡ x.target) l
      go [] h = h
      go (x ∷ l) (inl e) = inl (ap target_of e)
      go (x ∷ l) (inr h) = inr (go l h)

  found_sound : (row j : ℕ) → row < length (after π φ row) → Sound (targets π φ) (start π φ) (found_of π φ row j)
  found_sound row j h =
      sound_meet_all eqb eq_means (targets π φ) (start π φ) (after π φ row) (map target_of (kept_of π φ row j)) (explored_sound eqb eq_means (targets π φ) (start π φ) row)
      (λ a i. go a (kept_of π φ row j) (λ c k. target_reached row h c (grows_in c (kept_grows row j) k)) i)
    where
      go : (a : ℕ) (l : List Choice) → ((c : Choice) → In c l → Reached (targets π φ) (start π φ) c.target) → In a (map target_of l) → Reached (targets π φ) (start π φ) a
      go a [] f i = absurd i
      go a (c ∷ l) f (inl e) = subst⁻¹ (Reached (targets π φ) (start π φ)) e (f c (inl refl))
      go a (c ∷ l) f (inr i) = go a l (λ d k. f d (inr k)) i

  -- ---- excess

  overfull_reached : (row : ℕ) → row < length (after π φ row) → (1024 < length (choices_of_row row)) ⊎ (64 < length (edges π φ (row_mask π φ row))) → TooMuch π φ
  overfull_reached row h o = inr (
    row_mask π φ row,
    row_reached row h,
    (T-or (ltb 1024 (length (choices_of_row row))) (ltb 64 (length (edges π φ (row_mask π φ row))))).1
        (⊎_elim (λ l. inl (rw (lt-ltb 1024 (length (choices_of_row row)) l) tt)) (λ l. inr (rw (lt-ltb 64 (length (edges π φ (row_mask π φ row))) l) tt)) o),
  )

  -- a choice too many of a row's edges or of the states
  full_excess : (row j : ℕ) → row < length (after π φ row) → j < length (choices_of_row row)
      → (128 < length (meets (found_of π φ row j) (get_or (choices_of_row row) j free))) ⊎ (64 < length (added (kept_of π φ row j) (get_or (choices_of_row row) j free))) → TooMuch π φ
  full_excess row j h l (inl o) = inl (found_of π φ row (suc j), subst⁻¹ (λ (x : List ℕ). 128 < length x) (next_found row j l) o, found_sound row (suc j) h)
  full_excess row j h l (inr o) = overfull_reached row h (inr (omega (arith, ap length (next_choice row j l), grows_longer (kept_grows row (suc j)))))

-- ---- from step to step, for the formula that a rule numbers; m, s and e are the slices of the start

module _ (rule : Rule) (φ : Tree) (num : Numbers rule φ) (m s e : List ℕ) where
  -- before row 0
  pub fresh_row : Fresh rule m s e → AtRow rule.profile φ m s e 0 1 0 m s e
  fresh_row f = record {
    lies = record {
      masks_are = f.masks_fresh ∙ ap (λ (x : ℕ). laid 128 (bit_or (2 ^ x) (dialect rule.profile).mark ∷ []) m) (sym whole);
      edges_are = f.edges_fresh;
      count_is = refl;
      first_is = refl;
      filled_is = refl;
      met = tt;
      bounded = tt;
    };
    starts_are = f.starts_fresh;
    row_in = zero-le;
    few = omega arith;
    begun = record { few_edges = zero-le; fair = λ i h. absurd (not-suc-le-zero h) };
  }
    where
      whole : number φ φ ≡ rule.count - 1
      whole = omega (arith, rule_count rule φ num, number_whole φ)

  module _ (row count filled : ℕ) (masks starts edges' : List ℕ) (a : AtRow rule.profile φ m s e row count filled masks starts edges') where
    pub row_inside : (row ≡ count → ⊥) → row < length (after rule.profile φ row)
    row_inside d = let l = a.lies.count_is in let r = a.row_in in omega arith

    -- the mask that the code reads
    pub mask_is : row < length (after rule.profile φ row) → get_or masks row 0 ≡ row_mask rule.profile φ row
    mask_is h =
        ap (λ (l : List ℕ). get_or l row 0) a.lies.masks_are ∙ laid_at 128 (after rule.profile φ row) m row 0 h ∙ get_d_any (after rule.profile φ row) row 0 (start rule.profile φ) h

    -- the start of the row, and of the one after the last, is entered
    pub starts_entered : set starts row filled ≡ laid 129 (list_of (suc row) (start_of rule.profile φ (after rule.profile φ row))) s
    starts_entered =
        let long : length (list_of row (start_of rule.profile φ (after rule.profile φ row))) ≡ row = length_list_of row (start_of rule.profile φ (after rule.profile φ row)) in
        ap₂ (λ (x : List ℕ) (y : ℕ). set x y filled) a.starts_are (sym long)
        ∙ laid_set 129 (list_of row (start_of rule.profile φ (after rule.profile φ row))) s filled (omega (arith, a.row_in, a.few))
        ∙ ap (λ (x : List ℕ). laid 129 x s)
        (ap (λ (x : ℕ). list_of row (start_of rule.profile φ (after rule.profile φ row)) ++ (x ∷ [])) a.lies.first_is ∙ sym (list_of_last row (start_of rule.profile φ (after rule.profile φ row))))

    pub row_entered : row < length (after rule.profile φ row) → length (choices_of_row rule.profile φ row) ≤ 1024 → InRow rule.profile φ m s e row filled 0 count filled masks (set starts row filled) edges'
    unfolding edges_of
    row_entered h k = record {
      lies = a.lies;
      starts_are = starts_entered;
      row_in = h;
      few = a.few;
      few_kept = zero-le;
      few_choices = k;
      begun = a.begun;
    }

    -- over 1,024 choices
    pub count_excess : row < length (after rule.profile φ row) → 1024 < length (choices_of_row rule.profile φ row) → TooMuch rule.profile φ
    count_excess h k = overfull_reached rule.profile φ row h (inl k)

    module _ (last : row ≡ count) where
      ended : length (after rule.profile φ row) ≡ row
      ended = sym a.lies.count_is ∙ sym last

      all_states : states rule.profile φ ≡ after rule.profile φ row
      unfolding states
      all_states = explored_stop eqb eq_means (targets rule.profile φ) (start rule.profile φ) row 128 (omega (arith, ended, a.few)) (omega (arith, ended))

      all_rows : rows_before rule.profile φ row ≡ rows_of rule.profile φ (states rule.profile φ)
      all_rows = ap (rows_of rule.profile φ) (take_all row (after rule.profile φ row) (omega (arith, ended)) ∙ sym all_states)

      fine : ¬ TooMuch rule.profile φ
      fine = built_not_refused eqb eq_means (targets rule.profile φ) (start rule.profile φ) 128 (overfull rule.profile φ) (
        subst (λ (l : List ℕ). length l ≤ 128) (sym same) a.few,
        λ x i o.
            let (k, l, is) = at_in x (after rule.profile φ row) (start rule.profile φ) (subst (In x) same i) in
            a.begun.fair k (omega (arith, ended)) (subst⁻¹ (λ y. T (overfull rule.profile φ y)) is o),
      )
        where
          same : explored eqb (targets rule.profile φ) (start rule.profile φ) 128 ≡ after rule.profile φ row
          same = explored_stop eqb eq_means (targets rule.profile φ) (start rule.profile φ) row 128 (omega (arith, ended, a.few)) (omega (arith, ended))

      pub row_last : EndsAs rule.profile φ m s e masks (set starts row filled) edges' (up_to count filled)
      row_last = (
        fine,
        a.lies.count_is ∙ ap length (sym all_states),
        a.lies.first_is ∙ ap length all_rows ∙ sym (length-map (rows_of rule.profile φ (states rule.profile φ)) (word (states rule.profile φ))),
        a.lies.masks_are ∙ ap (λ (l : List ℕ). laid 128 l m) (sym all_states),
        starts_entered ∙ ap (λ (l : List ℕ). laid 129 l s) (ap (λ (k : ℕ). list_of (suc k) (start_of rule.profile φ (after rule.profile φ row))) (sym ended) ∙ ap (λ (l : List ℕ). list_of (suc (length l)) (start_of rule.profile φ l)) (sym all_states)),
        a.lies.edges_are ∙ ap (λ (l : List ℕ). laid 8192 l e)
            (ap (map (word (after rule.profile φ row))) (append-nil (rows_before rule.profile φ row) ∙ all_rows) ∙ ap (λ (l : List ℕ). map (word l) (rows_of rule.profile φ (states rule.profile φ))) (sym all_states)),
      )

  module _ (row first number count filled : ℕ) (masks starts edges' : List ℕ) (i : InRow rule.profile φ m s e row first number count filled masks starts edges') where
    -- one choice more
    pub choice_added : number < length (choices_of_row rule.profile φ row) → (masks'' edges'' : List ℕ) (x y : ℕ)
        → AddsTo (found_of rule.profile φ row number) (rows_before rule.profile φ row) (kept_of rule.profile φ row number) m e first (get_or (choices_of_row rule.profile φ row) number free) masks edges' masks'' edges'' (up_to x y)
        → InRow rule.profile φ m s e row first (number + 1) x y masks'' starts edges''
    choice_added h masks'' edges'' x y (l, f, k) = subst⁻¹ (λ (j : ℕ). InRow rule.profile φ m s e row first j x y masks'' starts edges'') (add-one number) (record {
      lies = subst⁻¹ (λ (z : List ℕ). Lies z (rows_before rule.profile φ row) (kept_of rule.profile φ row (suc number)) m e masks'' edges'' x first y) (next_found rule.profile φ row number h)
          (subst⁻¹ (λ (z : List Choice). Lies (meets (found_of rule.profile φ row number) (get_or (choices_of_row rule.profile φ row) number free)) (rows_before rule.profile φ row) z m e masks'' edges'' x first y) (next_choice rule.profile φ row number h) l);
      starts_are = i.starts_are;
      row_in = i.row_in;
      few = subst⁻¹ (λ (z : List ℕ). length z ≤ 128) (next_found rule.profile φ row number h) f;
      few_kept = subst⁻¹ (λ (z : List Choice). length z ≤ 64) (next_choice rule.profile φ row number h) k;
      few_choices = i.few_choices;
      begun = i.begun;
    })

    -- a choice too many
    pub choice_excess : number < length (choices_of_row rule.profile φ row) → (masks'' edges'' : List ℕ)
        → AddsTo (found_of rule.profile φ row number) (rows_before rule.profile φ row) (kept_of rule.profile φ row number) m e first (get_or (choices_of_row rule.profile φ row) number free) masks edges' masks'' edges'' None
        → TooMuch rule.profile φ
    choice_excess h masks'' edges'' (o, p, q) = full_excess rule.profile φ row number i.row_in h o

    -- the row is done
    module _ (all : number ≡ length (choices_of_row rule.profile φ row)) where
      kept_all : kept_of rule.profile φ row number ≡ edges rule.profile φ (row_mask rule.profile φ row)
      kept_all = ap edges_of (ap (λ (j : ℕ). take j (choices_of_row rule.profile φ row)) all ∙ take-length (choices_of_row rule.profile φ row))

      found_all : found_of rule.profile φ row number ≡ after rule.profile φ (suc row)
      found_all =
          ap (λ (l : List Choice). meet_all eqb (after rule.profile φ row) (map target_of l)) kept_all
          ∙ sym (visit_row eqb eq_means (targets rule.profile φ) (start rule.profile φ) row (after rule.profile φ row) i.row_in)

      grows : Grows (after rule.profile φ row) (after rule.profile φ (suc row))
      grows = explored_grows eqb eq_means (targets rule.profile φ) (start rule.profile φ) row

      -- what was met stays in front
      front : (k : ℕ) → k ≤ length (after rule.profile φ row) → take k (after rule.profile φ (suc row)) ≡ take k (after rule.profile φ row)
      front k h = ap (take k) grows.grown ∙ take-append-le k (after rule.profile φ row) grows.rest h

      rows_all : rows_before rule.profile φ (suc row) ≡ rows_before rule.profile φ row ++ kept_of rule.profile φ row number
      rows_all =
          ap (rows_of rule.profile φ) (front (suc row) i.row_in ∙ take-suc (after rule.profile φ row) row (start rule.profile φ) i.row_in)
          ∙ rows_last rule.profile φ (take row (after rule.profile φ row)) (row_mask rule.profile φ row) ∙ ap (λ (l : List Choice). rows_before rule.profile φ row ++ l) (sym kept_all)

      fair_here : T (overfull rule.profile φ (row_mask rule.profile φ row)) → ⊥
      fair_here o = ⊎_elim
          (λ u. subst T (le-ltb 1024 (length (choices_of_row rule.profile φ row)) i.few_choices) u)
          (λ u. subst T (le-ltb 64 (length (edges rule.profile φ (row_mask rule.profile φ row))) (subst (λ (l : List Choice). length l ≤ 64) kept_all i.few_kept)) u)
          ((T-or (ltb 1024 (length (choices_of_row rule.profile φ row))) (ltb 64 (length (edges rule.profile φ (row_mask rule.profile φ row))))).0 o)

      begun_next : Begun rule.profile φ (suc row)
      begun_next = record {
        few_edges = omega (arith, ap length rows_all, length-append (rows_before rule.profile φ row) (kept_of rule.profile φ row number), i.few_kept, i.begun.few_edges);
        fair = λ k h o. ⊎_elim
            (λ eq. fair_here (subst (λ (x : ℕ). T (overfull rule.profile φ x)) (ap (λ (j : ℕ). get_or (after rule.profile φ (suc row)) j (start rule.profile φ)) eq ∙ grows_at row (start rule.profile φ) grows i.row_in) o))
            (λ l. i.begun.fair k l (subst (λ (x : ℕ). T (overfull rule.profile φ x)) (grows_at k (start rule.profile φ) grows (omega (arith, i.row_in))) o))
            (eq-or-lt_of_le (le_of_suc-le-suc h));
      }

      pub row_done : AtRow rule.profile φ m s e (row + 1) count filled masks starts edges'
      row_done = subst⁻¹ (λ (r : ℕ). AtRow rule.profile φ m s e r count filled masks starts edges') (add-one row) (record {
        lies = lies_next;
        starts_are = i.starts_are ∙ ap (λ (l : List ℕ). laid 129 l s) (list_of_same (suc row) (start_of rule.profile φ (after rule.profile φ row)) (start_of rule.profile φ (after rule.profile φ (suc row)))
            (λ k h. ap (λ (l : List ℕ). length (rows_of rule.profile φ l)) (sym (front k (omega (arith, i.row_in))))));
        row_in = omega (arith, i.row_in, grows_longer grows);
        few = subst (λ (l : List ℕ). length l ≤ 128) found_all i.few;
        begun = begun_next;
      })
        where
          whole : rows_before rule.profile φ row ++ kept_of rule.profile φ row number ≡ rows_before rule.profile φ (suc row) ++ []
          whole = sym (append-nil (rows_before rule.profile φ (suc row)) ∙ rows_all)

          lies_next : Lies (after rule.profile φ (suc row)) (rows_before rule.profile φ (suc row)) [] m e masks edges' count filled filled
          lies_next = record {
            masks_are = i.lies.masks_are ∙ ap (λ (l : List ℕ). laid 128 l m) found_all;
            edges_are = i.lies.edges_are ∙ ap₂ (λ (f : List ℕ) (l : List Choice). laid 8192 (map (word f) l) e) found_all whole;
            count_is = i.lies.count_is ∙ ap length found_all;
            first_is = i.lies.filled_is ∙ sym (ap length rows_all ∙ length-append (rows_before rule.profile φ row) (kept_of rule.profile φ row number));
            filled_is = i.lies.filled_is ∙ sym (ap length rows_all ∙ length-append (rows_before rule.profile φ row) (kept_of rule.profile φ row number)) ∙ omega arith;
            met = subst (λ (f : List ℕ). All (λ (c : Choice). In c.target f) (rows_before rule.profile φ (suc row) ++ [])) found_all
                (subst (All (λ (c : Choice). In c.target (found_of rule.profile φ row number))) whole i.lies.met);
            bounded = subst (All (Bounded flags)) whole i.lies.bounded;
          }

-- where nothing is too much, there are no more than 128 states
pub states_few : (π : Profile) (φ : Tree) → ¬ TooMuch π φ → length (states π φ) ≤ 128
unfolding states
states_few π φ n = ⊎_elim (λ b. b.0) (λ r. absurd (n r)) (built_or_refused eqb eq_means (targets π φ) (start π φ) 128 (overfull π φ))
