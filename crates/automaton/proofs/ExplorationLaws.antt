-- The exploration finds exactly what is reached, the limit is exact, and the numbering is one. Assumes nothing.
use Rattle.std.specs.Prelude.{◌≡◌, refl, ◌⊎◌, ◌↔◌, Bool, true, false, cond, List, [], ◌∷◌, ◌++◌, ℕ, zero, suc, ◌≤◌, ◌<◌, T, length, get_or}
use Rattle.std.proofs.Common.{sym, ap, ◌∙◌, subst, inl, inr, ⊎_elim, le_refl, le_of_eq, le_trans, not-suc-le-zero, le_of_suc-le-suc, eq-or-lt_of_le, arith, lt-ltb, le-ltb}
use Rattle.std.proofs.Math.Path.{subst⁻¹}
use Rattle.std.proofs.Math.Logic.{by_cases}
use Rattle.std.proofs.Math.Decide.{dec_le, dec_lt}
use Rattle.laws.specs.Decided.{tested}
use Rattle.laws.specs.Lists.{In, Once, in_at, at_in, some_append, last_once, no_longer, some_or_none}
use Rattle.laws.specs.Places.{Grows, grows_same, grows_on, grows_in, grows_at, grows_longer, is_in, is_in_means, place, place_found, place_stays}
use Rattle.automaton.specs.Exploration.{Reached, at_start, onward, Sound, Over, Refused, meet, meet_all, visit, explored}

module _ {A : Type 0} (same : A → A → Bool) (row : A → List A) (start : A) where
  -- the numbering that the exploration gives: every row of the list is visited, and no other
  pub record Numbering (found : List A) : Type 0 where
    pub visited : found ≡ explored same row start (length found)

  -- what a numbering is: exactly what is reached, once, from the start on, and each target of each row has its number
  pub record Numbered (found : List A) : Type 0 where
    pub no_repeat : Once found
    pub holds : (a : A) → In a found ↔ Reached row start a
    pub first : get_or found 0 start ≡ start
    pub targets : (i : ℕ) → i < length found → (b : A) → In b (row (get_or found i start))
        → (place same b found < length found) × (get_or found (place same b found) start ≡ b)

  -- what is built where nothing is refused
  abbrev pub Built : ℕ → (A → Bool) → Type 0
  Built limit bad = (length (explored same row start limit) ≤ limit) × ((a : A) → In a (explored same row start limit) → T (bad a) → ⊥)

module _ {A : Type 0} (same : A → A → Bool) (same_means : (a b : A) → T (same a b) ↔ (a ≡ b)) where
  -- a list only grows
  pub meet_grows : (found : List A) (a : A) → Grows found (meet same found a)
  meet_grows found a = go (is_in same a found)
    where
      go : (b : Bool) → Grows found (cond b found (found ++ a ∷ []))
      go true = grows_same found
      go false = record { rest = a ∷ []; grown = refl }

  pub meet_in : (found : List A) (a : A) → In a (meet same found a)
  meet_in found a = go (is_in same a found) refl
    where
      go : (b : Bool) → is_in same a found ≡ b → In a (cond b found (found ++ a ∷ []))
      go true e = (is_in_means same same_means a found).0 (rw e tt)
      go false e = (some_append (λ y. a ≡ y) found (a ∷ [])).1 (inr (inl refl))

  -- a row taken target by target
  pub meet_all_snoc : (found row : List A) (a : A) → meet_all same found (row ++ a ∷ []) ≡ meet same (meet_all same found row) a
  meet_all_snoc found [] a = refl
  meet_all_snoc found (x ∷ row) a = meet_all_snoc (meet same found x) row a

  pub place_grows : (a : A) (l m : List A) → Grows l m → In a l → place same a m ≡ place same a l
  place_grows a l m g h = ap (place same a) g.grown ∙ place_stays same same_means a l g.rest h

  pub meet_all_grows : (found row : List A) → Grows found (meet_all same found row)
  meet_all_grows found [] = grows_same found
  meet_all_grows found (a ∷ row) = grows_on (meet_grows found a) (meet_all_grows (meet same found a) row)

  pub meet_all_in : (found row : List A) (b : A) → In b row → In b (meet_all same found row)
  meet_all_in found [] b h = absurd h
  meet_all_in found (a ∷ row) b (inl e) =
      grows_in b (meet_all_grows (meet same found a) row) (subst⁻¹ (λ x. In x (meet same found a)) e (meet_in found a))
  meet_all_in found (a ∷ row) b (inr h) = meet_all_in (meet same found a) row b h

  module _ (row : A → List A) (start : A) where
    pub sound_meet : (found : List A) (a : A) → Sound row start found → Reached row start a → Sound row start (meet same found a)
    sound_meet found a s r = go (is_in same a found) refl
      where
        go : (b : Bool) → is_in same a found ≡ b → Sound row start (cond b found (found ++ a ∷ []))
        go true e = s
        go false e = record {
          no_repeat = last_once a found s.no_repeat (λ h. rw e at ((is_in_means same same_means a found).1 h));
          reached = λ b h. ⊎_elim (s.reached b) (⊎_elim (λ p. subst⁻¹ (Reached row start) p r) (λ z. absurd z)) ((some_append (λ y. b ≡ y) found (a ∷ [])).0 h);
        }

    pub sound_meet_all : (found r : List A) → Sound row start found → ((a : A) → In a r → Reached row start a) → Sound row start (meet_all same found r)
    sound_meet_all found [] s h = s
    sound_meet_all found (a ∷ r) s h = sound_meet_all (meet same found a) r (sound_meet found a s (h a (inl refl))) (λ b k. h b (inr k))

    abbrev E : ℕ → List A
    E k = explored same row start k

    -- a row that is there, and one that is not
    pub visit_row : (k : ℕ) (found : List A) → k < length found → visit same row start k found ≡ meet_all same found (row (get_or found k start))
    visit_row k found h = rw (lt-ltb k (length found) h)

    pub visit_none : (k : ℕ) (found : List A) → length found ≤ k → visit same row start k found ≡ found
    visit_none k found h = rw (le-ltb k (length found) h)

    visit_cases : (P : List A → Type 0) (k : ℕ) (found : List A) → (k < length found → P (meet_all same found (row (get_or found k start))))
        → (length found ≤ k → P found) → P (visit same row start k found)
    visit_cases P k found f g = by_cases (dec_lt k (length found))
        (λ h. subst⁻¹ P (visit_row k found h) (f h))
        (λ h. let h' : length found ≤ k = omega arith in subst⁻¹ P (visit_none k found h') (g h'))

    pub explored_sound : (k : ℕ) → Sound row start (E k)
    explored_sound zero = record { no_repeat = ((λ z. z), tt); reached = λ a. ⊎_elim (λ e. subst⁻¹ (Reached row start) e at_start) (λ z. absurd z) }
    explored_sound (suc k) = visit_cases (Sound row start) k (E k)
        (λ h. sound_meet_all (E k) (row (get_or (E k) k start)) (explored_sound k)
        (λ a p. onward ((explored_sound k).reached (get_or (E k) k start) (in_at (E k) k start h)) p))
        (λ h. explored_sound k)

    pub explored_grows : (k : ℕ) → Grows (E k) (E (suc k))
    explored_grows k = visit_cases (Grows (E k)) k (E k) (λ h. meet_all_grows (E k) (row (get_or (E k) k start))) (λ h. grows_same (E k))

    not_empty : (k : ℕ) → 0 < length (E k)
    not_empty zero = le_refl 1
    not_empty (suc k) = le_trans (not_empty k) (grows_longer (explored_grows k))

    first_start : (k : ℕ) → get_or (E k) 0 start ≡ start
    first_start zero = refl
    first_start (suc k) = grows_at 0 start (explored_grows k) (not_empty k) ∙ first_start k

    start_in : (k : ℕ) → In start (E k)
    start_in zero = inl refl
    start_in (suc k) = grows_in start (explored_grows k) (start_in k)

    -- once every row is visited, nothing more comes
    pub explored_stop : (k j : ℕ) → k ≤ j → length (E k) ≤ k → E j ≡ E k
    explored_stop k zero l h = let e : k ≡ 0 = omega arith in ap E (sym e)
    explored_stop k (suc j) l h = ⊎_elim
        (λ e. ap E (sym e))
        (λ l'. let same_yet = explored_stop k j (le_of_suc-le-suc l') h in
        visit_none j (E j) (subst⁻¹ (λ x. length x ≤ j) same_yet (omega arith)) ∙ same_yet)
        (eq-or-lt_of_le l)

    rows_in : (k i : ℕ) → i < k → i < length (E k) → (b : A) → In b (row (get_or (E k) i start)) → In b (E k)
    rows_in zero i l h b p = absurd (not-suc-le-zero l)
    rows_in (suc k) i l h b p = by_cases (dec_lt k (length (E k)))
        (λ y. ⊎_elim
        (λ e. subst⁻¹ (In b) (visit_row k (E k) y) (meet_all_in (E k) (row (get_or (E k) k start)) b
        (subst (λ x. In b (row x)) (ap (λ n. get_or (E (suc k)) n start) e ∙ grows_at k start (explored_grows k) y) p)))
        (λ l'. let k' : i < length (E k) = omega arith in
        grows_in b (explored_grows k) (rows_in k i l' k' b (subst (λ x. In b (row x)) (grows_at i start (explored_grows k) k') p)))
        (eq-or-lt_of_le (le_of_suc-le-suc l)))
        (λ n. let e = visit_none k (E k) (omega arith) in
        let h' = subst (λ x. i < length x) e h in
        subst⁻¹ (In b) e (rows_in k i (omega arith) h' b (subst (λ x. In b (row (get_or x i start))) e p)))

    module _ (k : ℕ) (ended : length (E k) ≤ k) where
      pub explored_closed : (a b : A) → In a (E k) → In b (row a) → In b (E k)
      explored_closed a b h p =
          let (i, l, e) = at_in a (E k) start h in
          rows_in k i (omega arith) l b (subst⁻¹ (λ x. In b (row x)) e p)

      pub explored_all : (a : A) → Reached row start a → In a (E k)
      explored_all a at_start = start_in k
      explored_all a (onward {a = x} r p) = explored_closed x a (explored_all x r) p

    -- ---- the limit, exactly

    pub over_means : (limit : ℕ) → (limit < length (E limit)) ↔ Over row start limit
    over_means limit = (
      (λ h. (E limit, h, explored_sound limit)),
      λ (l, h, s). by_cases (dec_le (length (E limit)) limit)
          (λ e. absurd (omega (arith, no_longer l (E limit) s.no_repeat (λ a p. explored_all limit e a (s.reached a p)))))
          (λ e. omega arith),
    )

    explored_longer : (j k : ℕ) → j ≤ k → length (E j) ≤ length (E k)
    explored_longer j zero l = let e : j ≡ 0 = omega arith in le_of_eq (ap (λ n. length (E n)) e)
    explored_longer j (suc k) l = ⊎_elim
        (λ e. le_of_eq (ap (λ n. length (E n)) e))
        (λ l'. le_trans (explored_longer j k (le_of_suc-le-suc l')) (grows_longer (explored_grows k)))
        (eq-or-lt_of_le l)

    pub numbering_explored : (k : ℕ) → length (E k) ≤ k → Numbering same row start (E k)
    numbering_explored k h = record { visited = explored_stop (length (E k)) k h (explored_longer (length (E k)) k h) }

    pub numbering_numbered : (found : List A) → Numbering same row start found → Numbered same row start found
    numbering_numbered found p = subst⁻¹ (Numbered same row start) p.visited (record {
      no_repeat = (explored_sound k).no_repeat;
      holds = λ a. ((explored_sound k).reached a, explored_all k ended a);
      first = first_start k;
      targets = λ i h b q. place_found same same_means b (E k) start (explored_closed k ended (get_or (E k) i start) b (in_at (E k) i start h) q);
    })
      where
        k : ℕ
        k = length found

        ended : length (E k) ≤ k
        ended = omega (arith, ap length p.visited)

    -- one of the two, and never both
    pub built_or_refused : (limit : ℕ) (bad : A → Bool) → Built same row start limit bad ⊎ Refused row start limit bad
    built_or_refused limit bad = by_cases (dec_le (length (E limit)) limit)
        (λ h. ⊎_elim (λ (a, p, b). inr (inr (a, (explored_sound limit).reached a p, b))) (λ n. inl (h, λ a p b. n a p b)) (some_or_none (λ a. T (bad a)) (λ a. tested (bad a)) (E limit)))
        (λ h. inr (inl ((over_means limit).0 (omega arith))))

    pub built_not_refused : (limit : ℕ) (bad : A → Bool) → Built same row start limit bad → Refused row start limit bad → ⊥
    built_not_refused limit bad b (inl o) = omega (arith, b.0, (over_means limit).1 o)
    built_not_refused limit bad b (inr (a, r, p)) = b.1 a (explored_all limit b.0 a r) p
