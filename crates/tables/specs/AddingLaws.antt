-- One choice added to a row: what each way of the code comes to. Assumes nothing.
use Rattle.std.specs.Prelude.{ℕ, suc, ◌+◌, ◌-◌, ◌≤◌, ◌<◌, ◌≡◌, refl, Bool, true, false, cond, ◌⊎◌, None, List, [], ◌∷◌, ◌++◌, map, T, eqb, length, get_or, set, take}
use Rattle.std.proofs.Common.{arith, sym, ap, ap₂, ◌∙◌, subst, inl, inr, append_assoc, length-append, get_or-append-add}
use Rattle.std.proofs.Math.Path.{subst⁻¹}
use Rattle.std.proofs.lemmas.List.{length-map}
use Rattle.laws.specs.Decided.{eq_means, tested, T_true, T_false, T-same}
use Rattle.laws.specs.Lists.{All, In, in_at, at_in, at_map, all_append, all_to, all_at}
use Rattle.laws.specs.Places.{grows_in, is_in, is_in_means, place, place_found, place_new, same_other}
use Rattle.laws.specs.Ranges.{any_in, any→, →any}
use Rattle.meaning.specs.Flags.{flags}
use Rattle.automaton.specs.Tables.{word as edge_word}
use Rattle.automaton.specs.Exploration.{meet}
use Rattle.automaton.proofs.ExplorationLaws.{meet_grows, meet_in}
use Rattle.tables.specs.declared.Choice.{Choice}
use Rattle.tables.specs.Choices.{free}
use Rattle.tables.specs.Tables.{consistent, same_choice, word}
use Rattle.tables.specs.Building.{laid}
use Rattle.tables.specs.Laying.{laid_at, laid_set, laid_take}
use Rattle.tables.specs.EdgeLaws.{added, same_choice_means}
use Rattle.tables.specs.Bounds.{Bounded}
use Rattle.tables.specs.Words.{same_word, word_grows, words_grow}
use Rattle.tables.specs.Progress.{up_to, Lies, meets, AddsTo}

-- what is not there has the length for its place
place_none : (a : ℕ) (l : List ℕ) → ¬ In a l → place eqb a l ≡ length l
place_none a [] h = refl
place_none a (x ∷ l) h = rw (same_other eqb eq_means a x (λ e. h (inl e))) (ap suc (place_none a l (λ k. h (inr k))))

-- a target that was met is met again, and one that was not comes last
meet_old : (found : List ℕ) (t : ℕ) → In t found → meet eqb found t ≡ found
meet_old found t h = ap (λ (b : Bool). cond b found (found ++ (t ∷ []))) (T_true {b = is_in eqb t found} ((is_in_means eqb eq_means t found).1 h))

meet_new : (found : List ℕ) (t : ℕ) → ¬ In t found → meet eqb found t ≡ found ++ (t ∷ [])
meet_new found t h = ap (λ (b : Bool). cond b found (found ++ (t ∷ []))) (T_false {b = is_in eqb t found} (λ u. h ((is_in_means eqb eq_means t found).0 u)))

module _ (found : List ℕ) (before kept : List Choice) (m e masks edges : List ℕ) (count first filled : ℕ)
    (l : Lies found before kept m e masks edges count first filled) (c : Choice) (b : Bounded flags c) where
  abbrev t : ℕ
  t = c.target

  abbrev more : List ℕ
  more = meet eqb found t

  -- ---- what the code finds

  -- the masks up to the count are the states met
  pub found_is : take count masks ≡ found
  found_is = ap₂ take l.count_is l.masks_are ∙ laid_take 128 found m

  pub place_is : place eqb t (take count masks) ≡ place eqb t found
  place_is = ap (place eqb t) found_is

  -- the place where it stands, or where it comes to stand
  place_more : place eqb t found ≡ place eqb t more
  place_more = go (tested (is_in eqb t found))
    where
      go : T (is_in eqb t found) ⊎ (T (is_in eqb t found) → ⊥) → place eqb t found ≡ place eqb t more
      go (inl u) = ap (place eqb t) (sym (meet_old found t ((is_in_means eqb eq_means t found).0 u)))
      go (inr u) =
          let h : ¬ In t found = λ x. u ((is_in_means eqb eq_means t found).1 x) in
          place_none t found h ∙ sym (ap (place eqb t) (meet_new found t h) ∙ place_new eqb eq_means t found h)

  pub word_is : (edge p : ℕ) → edge ≡ edge_word flags c.present c.absent p → p ≡ place eqb t (take count masks) → edge ≡ word more c
  word_is edge p h k = h ∙ ap (edge_word flags c.present c.absent) (k ∙ place_is ∙ place_more)

  edge_at : (i : ℕ) → i < length kept → get_or edges (length before + i) 0 ≡ word found (get_or kept i free)
  edge_at i h =
      let all = map (word found) (before ++ kept) in
      let inside : length before + i < length (before ++ kept) = omega (arith, length-append before kept) in
      ap (λ (x : List ℕ). get_or x (length before + i) 0) l.edges_are
      ∙ laid_at 8192 all e (length before + i) 0 (rw length-map inside)
      ∙ at_map (word found) (before ++ kept) (length before + i) free 0 inside ∙ ap (word found) (get_or-append-add before kept i free)

  -- the row has the word exactly when it has the edge
  pub repeats_is : (edge : ℕ) → edge ≡ word more c → any_in first filled (λ i. eqb (get_or edges i 0) edge) ≡ is_in same_choice c kept
  repeats_is edge w = T-same there back
    where
      kept_met : All (λ (x : Choice). In x.target found) kept
      kept_met = ((all_append (λ (x : Choice). In x.target found) before kept).0 l.met).1

      kept_bounded : All (Bounded flags) kept
      kept_bounded = ((all_append (Bounded flags) before kept).0 l.bounded).1

      there : T (any_in first filled (λ i. eqb (get_or edges i 0) edge)) → T (is_in same_choice c kept)
      there u =
          let (i, lo, hi, p) = any→ first filled (λ i. eqb (get_or edges i 0) edge) u in
          let j : i ≡ length before + (i - length before) = omega (arith, l.first_is) in
          let inside : i - length before < length kept = omega (arith, l.first_is, l.filled_is) in
          let x = get_or kept (i - length before) free in
          let at : In x kept = in_at kept (i - length before) free inside in
          let same : word found x ≡ edge =
          sym (edge_at (i - length before) inside) ∙ ap (λ (y : ℕ). get_or edges y 0) (sym j) ∙ (eq_means (get_or edges i 0) edge).0 p in
          let x-met : In x.target found = all_at (λ (y : Choice). In y.target found) kept kept_met x at in
          let is : c ≡ x = same_word more c x b (all_at (Bounded flags) kept kept_bounded x at) (meet_in eqb eq_means found t)
          (grows_in x.target (meet_grows eqb eq_means found t) x-met)
          (sym w ∙ sym same ∙ sym (word_grows found more x (meet_grows eqb eq_means found t) x-met)) in
          (is_in_means same_choice same_choice_means c kept).1 (subst⁻¹ (λ y. In y kept) is at)

      back : T (is_in same_choice c kept) → T (any_in first filled (λ i. eqb (get_or edges i 0) edge))
      back u =
          let (j, inside, is) = at_in c kept free ((is_in_means same_choice same_choice_means c kept).0 u) in
          let c_met : In t found = subst (λ (y : Choice). In y.target found) is (all_at (λ (y : Choice). In y.target found) kept kept_met (get_or kept j free) (in_at kept j free inside)) in
          →any first filled (λ i. eqb (get_or edges i 0) edge) (
            length before + j,
            omega (arith, l.first_is),
            omega (arith, l.first_is, l.filled_is),
            (eq_means (get_or edges (length before + j) 0) edge).1
                (edge_at j inside ∙ ap (word found) is ∙ sym (word_grows found more c (meet_grows eqb eq_means found t) c_met) ∙ sym w),
          )

  -- new exactly when the place is the count
  pub new_is : (p : ℕ) → p ≡ place eqb t (take count masks) → p ≡ count → ¬ In t found
  new_is p h k i = let (s, f) = place_found eqb eq_means t found 0 i in omega (arith, s, h ∙ place_is, k, l.count_is)

  pub old_is : (p : ℕ) → p ≡ place eqb t (take count masks) → (p ≡ count → ⊥) → In t found
  old_is p h k = go (tested (is_in eqb t found))
    where
      go : T (is_in eqb t found) ⊎ (T (is_in eqb t found) → ⊥) → In t found
      go (inl u) = (is_in_means eqb eq_means t found).0 u
      go (inr u) = absurd (k (h ∙ place_is ∙ place_none t found (λ x. u ((is_in_means eqb eq_means t found).1 x)) ∙ sym l.count_is))

  -- ---- what it comes to

  module _ (few : count ≤ 128) (room : filled ≤ first + 64) where
    -- by the new states and edges, whatever the tests say
    came : (found' : List ℕ) (kept' : List Choice) → meets found c ≡ found' → added kept c ≡ kept' → (masks' edges' : List ℕ) (s f : ℕ)
        → Lies found' before kept' m e masks' edges' s first f → length found' ≤ 128 → length kept' ≤ 64
        → AddsTo found before kept m e first c masks edges masks' edges' (up_to s f)
    came found' kept' p q masks' edges' s f h x y = (
      subst⁻¹ (λ z. Lies z before (added kept c) m e masks' edges' s first f) p (subst⁻¹ (λ z. Lies found' before z m e masks' edges' s first f) q h),
      subst⁻¹ (λ (z : List ℕ). length z ≤ 128) p x,
      subst⁻¹ (λ (z : List Choice). length z ≤ 64) q y,
    )

    kept_few : length kept ≤ 64
    kept_few = omega (arith, l.first_is, l.filled_is)

    -- a choice that contradicts itself
    pub adds_none : consistent c ≡ false → AddsTo found before kept m e first c masks edges masks edges (up_to count filled)
    adds_none d =
        came found kept (ap (λ (x : Bool). cond x more found) d) (ap (λ (x : Bool). cond x (cond (is_in same_choice c kept) kept (kept ++ (c ∷ []))) kept) d)
        masks edges count filled l (omega (arith, l.count_is)) kept_few

    module _ (d : consistent c ≡ true) where
      meets_is : meets found c ≡ more
      meets_is = ap (λ (x : Bool). cond x more found) d

      added_is : (x : Bool) → is_in same_choice c kept ≡ x → added kept c ≡ cond x kept (kept ++ (c ∷ []))
      added_is x h =
          ap (λ (y : Bool). cond y (cond (is_in same_choice c kept) kept (kept ++ (c ∷ []))) kept) d ∙ ap (λ (y : Bool). cond y kept (kept ++ (c ∷ []))) h

      -- a repeat
      pub adds_again : is_in same_choice c kept ≡ true → AddsTo found before kept m e first c masks edges masks edges (up_to count filled)
      adds_again h =
          let i = (is_in_means same_choice same_choice_means c kept).0 (rw h tt) in
          let c_met : In t found = all_at (λ (y : Choice). In y.target found) kept ((all_append (λ (x : Choice). In x.target found) before kept).0 l.met).1 c i in
          came found kept (meets_is ∙ meet_old found t c_met) (added_is true h) masks edges count filled l (omega (arith, l.count_is)) kept_few

      module _ (h : is_in same_choice c kept ≡ false) where
        longer : length (added kept c) ≡ suc (length kept)
        longer = ap length (added_is false h) ∙ length-append kept (c ∷ []) ∙ omega arith

        -- no room for another edge
        pub full_row : filled - first ≡ 64 → AddsTo found before kept m e first c masks edges masks edges None
        full_row f = (inr (omega (arith, longer, l.first_is, l.filled_is)), refl, refl)

        -- no room for another state
        pub full_states : ¬ In t found → count ≡ 128 → AddsTo found before kept m e first c masks edges masks edges None
        full_states i f =
            (inl (omega (arith, ap length (meets_is ∙ meet_new found t i), length-append found (t ∷ []), l.count_is)), refl, refl)

        -- the edges with one more
        last_edges : (edge : ℕ) → edge ≡ word more c → filled < 8192 → set edges filled edge ≡ laid 8192 (map (word more) (before ++ (kept ++ (c ∷ [])))) e
        last_edges edge w s =
            let all = map (word found) (before ++ kept) in
            let long : length all ≡ filled = length-map (before ++ kept) (word found) ∙ length-append before kept ∙ sym l.filled_is in
            ap₂ (λ (x : List ℕ) (y : ℕ). set x y edge) l.edges_are (sym long) ∙ laid_set 8192 all e edge (omega arith)
            ∙ ap (λ (x : List ℕ). laid 8192 x e)
            (ap₂ (λ (x : List ℕ) (y : ℕ). x ++ (y ∷ [])) (sym (words_grow found more (before ++ kept) (meet_grows eqb eq_means found t) l.met)) w
            ∙ sym (map_last (word more) (before ++ kept) c) ∙ ap (map (word more)) (append_assoc before kept (c ∷ [])))
          where
            map_last : (f : Choice → ℕ) (xs : List Choice) (x : Choice) → map f (xs ++ (x ∷ [])) ≡ map f xs ++ (f x ∷ [])
            map_last f [] x = refl
            map_last f (y ∷ xs) x = ap (λ (r : List ℕ). f y ∷ r) (map_last f xs x)

        grown : (found' : List ℕ) → more ≡ found' → (masks' edges' : List ℕ) (s : ℕ) → masks' ≡ laid 128 found' m
            → edges' ≡ laid 8192 (map (word more) (before ++ (kept ++ (c ∷ [])))) e → s ≡ length found' → length found' ≤ 128 → filled < first + 64
            → AddsTo found before kept m e first c masks edges masks' edges' (up_to s (filled + 1))
        grown found' is masks' edges' s p q r x y =
            came found' (kept ++ (c ∷ [])) (meets_is ∙ is) (added_is false h) masks' edges' s (filled + 1) (record {
              masks_are = p;
              edges_are = q ∙ ap (λ (z : List ℕ). laid 8192 (map (word z) (before ++ (kept ++ (c ∷ [])))) e) is;
              count_is = r;
              first_is = l.first_is;
              filled_is = omega (arith, l.filled_is, length-append kept (c ∷ []));
              met = subst (λ (z : List Choice). All (λ (x : Choice). In x.target found') z) (append_assoc before kept (c ∷ []))
                  ((all_append (λ (x : Choice). In x.target found') (before ++ kept) (c ∷ [])).1 (
                    all_to (λ (x : Choice) k. subst (In x.target) is (grows_in x.target (meet_grows eqb eq_means found t) k)) (before ++ kept) l.met,
                    (subst (In t) is (meet_in eqb eq_means found t), tt),
                  ));
              bounded = subst (All (Bounded flags)) (append_assoc before kept (c ∷ []))
                  ((all_append (Bounded flags) (before ++ kept) (c ∷ [])).1 (l.bounded, (b, tt)));
            }) x (omega (arith, length-append kept (c ∷ []), l.first_is, l.filled_is))

        -- an edge to a state that was met
        pub adds_old : In t found → (edge : ℕ) → edge ≡ word more c → filled < first + 64 → filled < 8192
            → AddsTo found before kept m e first c masks edges masks (set edges filled edge) (up_to count (filled + 1))
        adds_old i edge w r s =
            grown found (meet_old found t i) masks (set edges filled edge) count l.masks_are (last_edges edge w s) l.count_is (omega (arith, l.count_is)) r

        -- an edge to a new state
        pub adds_new : ¬ In t found → (edge : ℕ) → edge ≡ word more c → count < 128 → filled < first + 64 → filled < 8192
            → AddsTo found before kept m e first c masks edges (set masks count t) (set edges filled edge) (up_to (count + 1) (filled + 1))
        adds_new i edge w q r s =
            let long : length (found ++ (t ∷ [])) ≡ count + 1 = length-append found (t ∷ []) ∙ ap (λ (x : ℕ). x + 1) (sym l.count_is) in
            grown (found ++ (t ∷ [])) (meet_new found t i) (set masks count t) (set edges filled edge) (count + 1)
            (ap₂ (λ (x : List ℕ) (y : ℕ). set x y t) l.masks_are l.count_is ∙ laid_set 128 found m t (omega (arith, l.count_is)))
            (last_edges edge w s) (sym long) (omega arith) r
