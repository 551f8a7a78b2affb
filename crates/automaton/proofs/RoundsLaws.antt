-- The rounds give the true counts. Assumes nothing.
use Rattle.std.specs.Prelude.{◌≡◌, ◌⊎◌, ◌↔◌, Bool, not, cond, ◌&&◌, ◌||◌, List, [], ◌∷◌, ℕ, zero, suc, ◌-◌, ◌≤◌, ◌<◌, eqb, length, get_or}
use Rattle.std.proofs.Math.Path.{refl, subst⁻¹}
use Rattle.std.proofs.Common.{sym, ◌∙◌, zero-le, suc-le-suc, le_of_eq, not-suc-le-zero, le_of_suc-le-suc, eq-or-lt_of_le, T_not, ne_eqb, eqb-true}
use Rattle.std.proofs.Math.Logic.{inl, inr, ⊎_elim, by_cases}
use Rattle.std.proofs.Math.Logic.Iff
use Rattle.std.proofs.Math.Bool.{true, false}
use Rattle.std.proofs.Math.Nat.{le_refl}
use Rattle.std.proofs.Math.Decide.{dec_le, dec_lt}
use native.Mathlib.Omega.{arith}
use Rattle.std.proofs.Math.Dec.{T, eqb→eq, not_T}
use Rattle.laws.specs.Decided.{eq_means, T_and, T-or, tested}
use Rattle.laws.specs.Ranges.{any_in, any→, →any, count, count_more, count_all, length_list_of, get_d_list_of}
use Rattle.automaton.specs.Tables.{Tables, Good, start, edge, present, target, accepting}
use Rattle.automaton.specs.Walk.{Accepts, SomeEdge, any_edge}
use Rattle.automaton.specs.Fit.{Fits}
use Rattle.automaton.specs.Column.{Fewest, never, TrueEntry, Column}
use Rattle.automaton.proofs.TableLaws.{present_below, allows_present, row_below, target_below}
use Rattle.automaton.proofs.WalkLaws.{edge_means}
use Rattle.automaton.specs.Rounds.{first_entry, next_entry, column_after, column}

-- a round may write its entries over the old ones as it goes: it asks only which entries are r, and it turns none into r, and none that is r
pub in_place : (w : ℕ) (t : Tables) (r : ℕ) (col : List ℕ) (q : ℕ) → r < never → eqb (next_entry w t r col q) r ≡ eqb (get_or col q 0) r
in_place w t r col q h = go (eqb (get_or col q 0) never) refl (any_edge t q (λ e. eqb (get_or col (target w e) 0) r))
  where
    go : (b : Bool) → eqb (get_or col q 0) never ≡ b → (c : Bool) → eqb (cond (b && c) (suc r) (get_or col q 0)) r ≡ eqb (get_or col q 0) r
    go true e true = ne_eqb (suc r) r (λ p. omega arith) ∙ sym (ne_eqb (get_or col q 0) r (λ p. omega (arith, eqb-true (get_or col q 0) never e)))
    go true e false = refl
    go false e c = refl

-- ---- state q accepts within r dates

abbrev pub near : ℕ → Tables → ℕ → ℕ → Bool
near w t zero q = accepting t q
near w t (suc r) q = near w t r q || any_edge t q (λ e. near w t r (target w e))

pub near_suc : (w : ℕ) (t : Tables) (r q : ℕ) → T (near w t (suc r) q) ↔ (T (near w t r q) ⊎ SomeEdge t q (λ e. T (near w t r (target w e))))
near_suc w t r q =
    let or = T-or (near w t r q) (any_edge t q (λ e. near w t r (target w e))) in
    let some = edge_means t q (λ e. near w t r (target w e)) (λ e. T (near w t r (target w e))) (λ i h. Iff.rfl) in
    (λ u. ⊎_elim inl (λ v. inr (some.0 v)) (or.0 u), λ p. or.1 (⊎_elim inl (λ v. inr (some.1 v)) p))

pub near← : (w : ℕ) (t : Tables) (r q : ℕ) (s : List ℕ) → length s ≤ r → Accepts w t q s → T (near w t r q)
near← w t zero q [] h u = u
near← w t zero q (d ∷ s) h u = absurd (not-suc-le-zero h)
near← w t (suc r) q [] h u = (near_suc w t r q).1 (inl (near← w t r q [] zero-le u))
near← w t (suc r) q (d ∷ s) h (i, a, b, (y, u)) = (near_suc w t r q).1 (inr (i, a, b, near← w t r (target w (edge t i)) s (le_of_suc-le-suc h) u))

pub near_mono : (w : ℕ) (t : Tables) (r k q : ℕ) → r ≤ k → T (near w t r q) → T (near w t k q)
near_mono w t r zero q h u = let e : r ≡ 0 = omega arith in rw e at u
near_mono w t r (suc k) q h u =
    ⊎_elim (λ e. rw e at u) (λ l. (near_suc w t k q).1 (inl (near_mono w t r k q (le_of_suc-le-suc l) u))) (eq-or-lt_of_le h)

-- v is what is known of state q after r rounds
unfoldable pub Known : ℕ → Tables → ℕ → ℕ → ℕ → Type 0
Known w t r q v = ((v ≡ never) × (T (near w t r q) → ⊥)) ⊎ ((v ≤ r) × T (near w t v q) × ((k : ℕ) → T (near w t k q) → v ≤ k))

module _ (w : ℕ) (t : Tables) (good : Good w t) where
  -- what the target of an edge accepts, the edge's least date in front
  pub fits_step : (q i : ℕ) (s : List ℕ) → q < t.states → start t q ≤ i → i < start t (suc q) → Fits w t (target w (edge t i)) s
      → Fits w t q (present w (edge t i) ∷ s)
  fits_step q i s h a b f = record {
    dates = (present_below w (edge t i), f.dates);
    accepted = (i, a, b, (allows_present w (edge t i) (good.fair_edges i (row_below w t good q i h b)), f.accepted));
  }

  pub near→ : (r q : ℕ) → q < t.states → T (near w t r q) → (s : List ℕ) × (length s ≤ r) × Fits w t q s
  near→ zero q h u = ([], zero-le, record { dates = tt; accepted = u })
  near→ (suc r) q h u = ⊎_elim
      (λ v. let (s, l, f) = near→ r q h v in (s, omega arith, f))
      (λ (i, a, b, p).
      let (s, l, f) = near→ r (target w (edge t i)) (target_below w t good q i h b) p in
      (present w (edge t i) ∷ s, suc-le-suc l, fits_step q i s h a b f))
      ((near_suc w t r q).0 u)

  -- ---- a round that adds nothing is the last

  abbrev pub Still : ℕ → Type 0
  Still r = (q : ℕ) → q < t.states → T (near w t (suc r) q) → T (near w t r q)

  still_next : (r : ℕ) → Still r → Still (suc r)
  still_next r h q k u = ⊎_elim (λ v. v)
      (λ (i, a, b, p). (near_suc w t r q).1 (inr (i, a, b, h (target w (edge t i)) (target_below w t good q i k b) p)))
      ((near_suc w t (suc r) q).0 u)

  pub still_from : (r k : ℕ) → r ≤ k → Still r → Still k
  still_from r zero l h = let e : r ≡ 0 = omega arith in rw e at h
  still_from r (suc k) l h = ⊎_elim (λ e. rw e at h) (λ j. still_next k (still_from r k (le_of_suc-le-suc j) h)) (eq-or-lt_of_le l)

  pub still_all : (r k q : ℕ) → Still r → q < t.states → T (near w t k q) → T (near w t r q)
  still_all r zero q h l u = near_mono w t 0 r q zero-le u
  still_all r (suc k) q h l u = by_cases (dec_le (suc k) r)
      (λ j. near_mono w t (suc k) r q j u)
      (λ j. still_all r k q h l (still_from r k (omega arith) h q l u))

  -- r rounds have reached more than r states, or nothing is added any more
  many_or_still : (r : ℕ) → (r < count t.states (near w t r)) ⊎ Still r
  many_or_still zero = by_cases (dec_lt 0 (count t.states (near w t 0))) inl
      (λ j. inr (λ q k u. ⊎_elim (λ v. v)
      (λ (i, a, b, p). absurd (omega (arith, count_more t.states (λ n. false) (near w t 0) (λ n l v. absurd v) (target w (edge t i)) (target_below w t good q i k b) p (λ v. v))))
      ((near_suc w t 0 q).0 u)))
  many_or_still (suc r) = ⊎_elim (λ c. more c (tested (any_in 0 t.states new))) (λ s. inr (still_next r s)) (many_or_still r)
    where
      new : ℕ → Bool
      new q = near w t (suc r) q && not (near w t r q)

      more : r < count t.states (near w t r) → T (any_in 0 t.states new) ⊎ (T (any_in 0 t.states new) → ⊥)
          → (suc r < count t.states (near w t (suc r))) ⊎ Still (suc r)
      more c (inl y) =
          let (q, l, k, p) = any→ 0 t.states new y in
          let (u, v) = (T_and (near w t (suc r) q) (not (near w t r q))).0 p in
          inl (omega (arith, count_more t.states (near w t r) (near w t (suc r)) (λ i h x. (near_suc w t r i).1 (inl x)) q k u (T_not (near w t r q) v)))
      more c (inr n) = inr (still_next r (λ q k u. ⊎_elim (λ v. v)
          (λ v. absurd (n (→any 0 t.states new (q, zero-le, k, (T_and (near w t (suc r) q) (not (near w t r q))).1 (u, not_T (near w t r q) v)))))
          (tested (near w t r q))))

  pub still_last : Still (t.states - 1)
  still_last = ⊎_elim
      (λ c q k u. count_all t.states (near w t (t.states - 1)) (omega arith) q k)
      (λ s. s)
      (many_or_still (t.states - 1))

  -- whatever is accepted at all, something of fewer dates than there are states is
  pub short_fit : (q : ℕ) (s : List ℕ) → q < t.states → Fits w t q s → (u : List ℕ) × (length u < t.states) × Fits w t q u
  short_fit q s h f =
      let (u, l, g) = near→ (t.states - 1) q h (still_all (t.states - 1) (length s) q still_last h (near← w t (length s) q s (le_refl (length s)) f.accepted)) in
      (u, omega arith, g)

  pub fewest_below : (q n : ℕ) → q < t.states → Fewest w t q n → n < t.states
  fewest_below q n h f = let (u, l, g) = short_fit q f.series h f.fits in omega (arith, f.least u g)

  -- ---- the rounds' column is the true one

  pub known_first : (q : ℕ) → Known w t 0 q (first_entry t q)
  unfolding Known
  known_first q = go (accepting t q) refl
    where
      go : (b : Bool) → accepting t q ≡ b → Known w t 0 q (cond b 0 never)
      go true e = inr (zero-le, rw e tt, λ k u. zero-le)
      go false e = inl (refl, λ u. rw e at u)

  known_next : (r q v : ℕ) (b : Bool) → r < never → Known w t r q v → (T b → SomeEdge t q (λ e. T (near w t r (target w e))))
      → ((T (near w t r q) → ⊥) → SomeEdge t q (λ e. T (near w t r (target w e))) → T b)
      → Known w t (suc r) q (cond (eqb v never && b) (suc r) v)
  unfolding Known
  known_next r q v b h (inl (e, n)) f g = rw e (go b f (g n))
    where
      go : (c : Bool) → (T c → SomeEdge t q (λ e. T (near w t r (target w e)))) → (SomeEdge t q (λ e. T (near w t r (target w e))) → T c)
          → Known w t (suc r) q (cond c (suc r) never)
      go true f' g' = inr (
        le_refl (suc r),
        (near_suc w t r q).1 (inr (f' tt)),
        λ k u. by_cases (dec_le (suc r) k) (λ l. l)
            (λ l. absurd (n (near_mono w t k r q (omega arith) u))),
      )
      go false f' g' = inl (refl, λ u. ⊎_elim n g' ((near_suc w t r q).0 u))
  known_next r q v b h (inr (l, u, least)) f g = rw (ne_eqb v never (λ e. omega arith)) (inr (omega arith, u, least))

  -- an entry r, and an edge to a state within r dates
  known_at : (r q v : ℕ) → r < never → Known w t r q v → T (eqb v r) → T (near w t r q)
  unfolding Known
  known_at r q v h (inl (e, n)) u = absurd (omega (arith, eqb→eq v r u))
  known_at r q v h (inr (l, p, least)) u = rw (eqb→eq v r u) at p

  known_behind : (r q i v : ℕ) → start t q ≤ i → i < start t (suc q) → (T (near w t r q) → ⊥) → Known w t r (target w (edge t i)) v
      → T (near w t r (target w (edge t i))) → T (eqb v r)
  unfolding Known
  known_behind r q i v a b n (inl (e, m)) u = absurd (m u)
  known_behind r q i v a b n (inr (l, p, least)) u =
      ⊎_elim (eq_means v r).1 (λ k. absurd (n (near_mono w t (suc v) r q k ((near_suc w t v q).1 (inr (i, a, b, p)))))) (eq-or-lt_of_le l)

  -- a round knows one date more
  pub round_known : (r : ℕ) (col : List ℕ) → r < never → ((q : ℕ) → q < t.states → Known w t r q (get_or col q 0))
      → (q : ℕ) → q < t.states → Known w t (suc r) q (next_entry w t r col q)
  round_known r col h known q k =
      known_next r q (get_or col q 0) (any_in (start t q) (start t (suc q)) with_r) h (known q k)
      (λ u. let (i, a, b, p) = any→ (start t q) (start t (suc q)) with_r u in
      (i, a, b, known_at r (target w (edge t i)) _ h (known (target w (edge t i)) (target_below w t good q i k b)) p))
      (λ n (i, a, b, p). →any (start t q) (start t (suc q)) with_r
      (i, a, b, known_behind r q i _ a b n (known (target w (edge t i)) (target_below w t good q i k b)) p))
    where
      with_r : ℕ → Bool
      with_r i = eqb (get_or col (target w (edge t i)) 0) r

  after_known : (r : ℕ) → r ≤ t.states → (q : ℕ) → q < t.states → Known w t r q (get_or (column_after w t r) q 0)
  after_known zero h q k = subst⁻¹ (Known w t 0 q) (get_d_list_of t.states (first_entry t) q 0 k) (known_first q)
  after_known (suc r) h q k =
      subst⁻¹ (Known w t (suc r) q) (get_d_list_of t.states (next_entry w t r (column_after w t r)) q 0 k)
      (round_known r (column_after w t r) (omega (arith, good.few_states)) (after_known r (omega arith)) q k)

  known_true : (r q v : ℕ) → Still r → q < t.states → Known w t r q v → TrueEntry w t q v
  unfolding Known
  known_true r q v st h (inl (e, n)) =
      inl (e, λ s f. n (still_all r (length s) q st h (near← w t (length s) q s (le_refl (length s)) f.accepted)))
  known_true r q v st h (inr (l, u, least)) =
      let (s, k, f) = near→ v q h u in
      inr (record {
        series = s;
        fits = f;
        long = omega (arith, least (length s) (near← w t (length s) q s (le_refl (length s)) f.accepted));
        least = λ s' f'. least (length s') (near← w t (length s') q s' (le_refl (length s')) f'.accepted);
      })

  -- what is known after as many rounds as there are states is true
  pub known_all : (q v : ℕ) → q < t.states → Known w t t.states q v → TrueEntry w t q v
  known_all q v = known_true t.states q v (still_from (t.states - 1) t.states (omega arith) still_last)

  pub column_long : (r : ℕ) → length (column_after w t r) ≡ t.states
  column_long zero = length_list_of t.states (first_entry t)
  column_long (suc r) = length_list_of t.states (next_entry w t r (column_after w t r))

  pub column_true : Column w t (column w t)
  column_true = record { room = le_of_eq (sym (column_long t.states)); true_entry = λ q h. known_all q (get_or (column w t) q 0) h (after_known t.states (le_refl t.states) q h) }

-- ---- tables have one true column

pub entry_unique : (w : ℕ) (t : Tables) (q u v : ℕ) → TrueEntry w t q u → TrueEntry w t q v → u ≡ v
entry_unique w t q u v (inl a) (inl b) = a.0 ∙ sym b.0
entry_unique w t q u v (inl a) (inr b) = absurd (a.1 b.series b.fits)
entry_unique w t q u v (inr a) (inl b) = absurd (b.1 a.series a.fits)
entry_unique w t q u v (inr a) (inr b) = omega (arith, a.least b.series b.fits, b.least a.series a.fits)
