-- The search finds the first of the shortest series that fit, and there is one only. Assumes nothing.
use Rattle.std.specs.Prelude.{◌≡◌, refl, ◌↔◌, cond, List, [], ◌∷◌, ℕ, zero, suc, ◌^◌, ◌≤◌, ◌<◌, T, eqb, length, get_or, Option, None, Some}
use Rattle.std.proofs.Common.{sym, ap, ap₂, ◌∙◌, subst, inl, inr, ⊎_elim, zero-le, le_of_suc-le-suc, le_refl, le_trans, lt_of_le_of_lt, eq-or-lt_of_le, arith, eqb→eq, ne_eqb}
use Rattle.std.proofs.Math.Path.{subst⁻¹}
use Rattle.std.proofs.Math.Nat.{suc_inj}
use Rattle.laws.specs.Decided.{eq_means}
use Rattle.laws.specs.Ranges.{least_le, least_found}
use Rattle.laws.specs.Masks.{bit}
use Rattle.automaton.specs.Tables.{Tables, Good, start, edge, present, target, allows}
use Rattle.automaton.specs.Walk.{SomeEdge, moved, begun}
use Rattle.automaton.specs.Fit.{Fits, NotAfter, FirstOf, FitOf, FirstFit}
use Rattle.automaton.proofs.TableLaws.{present_below, present_least, allows_present, row_below, target_below}
use Rattle.automaton.proofs.WalkLaws.{SomeState, moved_means, begun_only}
use Rattle.automaton.specs.Column.{Fewest, never, TrueEntry, Column}
use Rattle.automaton.specs.Rounds.{column}
use Rattle.automaton.proofs.RoundsLaws.{column_true, entry_unique, fits_step, short_fit, fewest_below}
use Rattle.automaton.specs.Search.{date_from, next_date, fit_from, fit}

-- ---- one outcome only

pub same_order : (s u : List ℕ) → NotAfter s u → NotAfter u s → s ≡ u
same_order [] [] p q = refl
same_order [] (b ∷ u) p q = absurd q
same_order (a ∷ s) [] p q = absurd p
same_order (a ∷ s) (b ∷ u) (inl p) (inl q) = absurd (omega arith)
same_order (a ∷ s) (b ∷ u) (inl p) (inr q) = absurd (omega (arith, q.0))
same_order (a ∷ s) (b ∷ u) (inr p) (inl q) = absurd (omega (arith, p.0))
same_order (a ∷ s) (b ∷ u) (inr p) (inr q) = ap₂ ◌∷◌ p.0 (same_order s u p.1 q.1)

pub fit_unique : (P : List ℕ → Type 0) (a b : Option (List ℕ)) → FitOf P a → FitOf P b → a ≡ b
fit_unique P None None p q = refl
fit_unique P None (Some u) p q = absurd (p u q.fits)
fit_unique P (Some s) None p q = absurd (q s p.fits)
fit_unique P (Some s) (Some u) p q =
    let same : length u ≡ length s = omega (arith, p.shortest u q.fits, q.shortest s p.fits) in
    ap Some (same_order s u (p.first u q.fits same) (q.first s p.fits (sym same)))

-- what fits by P and by Q alike has the same fit
pub fit_same : (P Q : List ℕ → Type 0) → ((u : List ℕ) → P u ↔ Q u) → (o : Option (List ℕ)) → FitOf P o → FitOf Q o
fit_same P Q e None h = λ u x. h u ((e u).1 x)
fit_same P Q e (Some s) h = record {
  fits = (e s).0 h.fits;
  shortest = λ u x. h.shortest u ((e u).1 x);
  first = λ u x. h.first u ((e u).1 x);
}

module _ (w : ℕ) (t : Tables) (good : Good w t) where
  pub fit_short : (s : List ℕ) → FirstOf (Fits w t 0) s → length s ≤ 127
  fit_short s f =
      let (u, l, g) = short_fit w t good 0 s good.some_state f.fits in
      omega (arith, f.shortest u g, good.few_states)

  -- an edge that begins a shortest series leads to a state that needs one date less
  pub target_fewest : (q i r : ℕ) (u : List ℕ) → q < t.states → start t q ≤ i → i < start t (suc q)
      → ((s : List ℕ) → Fits w t q s → suc r ≤ length s) → Fits w t (target w (edge t i)) u → length u ≡ r → Fewest w t (target w (edge t i)) r
  target_fewest q i r u h a b least g e = record {
    series = u;
    fits = g;
    long = e;
    least = λ s k. le_of_suc-le-suc (least (present w (edge t i) ∷ s) (fits_step w t good q i s h a b k));
  }

  pub first_edge : (q r : ℕ) → q < t.states → Fewest w t q (suc r) → SomeEdge t q (λ e. Fewest w t (target w e) r)
  first_edge q r h f = go f.series f.fits f.long
    where
      go : (s : List ℕ) → Fits w t q s → length s ≡ suc r → SomeEdge t q (λ e. Fewest w t (target w e) r)
      go [] g e = absurd (omega arith)
      go (d ∷ s) g e =
          let (i, a, b, (y, v)) = g.accepted in
          (i, a, b, target_fewest q i r s h a b f.least (record { dates = g.dates.1; accepted = v }) (suc_inj e))

  fits_empty : (q : ℕ) → Fewest w t q 0 → Fits w t q []
  fits_empty q f = go f.series f.fits f.long
    where
      go : (s : List ℕ) → Fits w t q s → length s ≡ 0 → Fits w t q []
      go [] g e = g
      go (d ∷ s) g e = absurd (omega arith)

  module _ (col : List ℕ) (true_col : Column w t col) where
    entry→ : (q r : ℕ) → q < t.states → r < never → get_or col q 0 ≡ r → Fewest w t q r
    entry→ q r h k e = ⊎_elim (λ (z, n). absurd (omega arith)) (λ f. rw e at f) (true_col.true_entry q h)

    entry← : (q r : ℕ) → q < t.states → Fewest w t q r → get_or col q 0 ≡ r
    entry← q r h f = entry_unique w t q (get_or col q 0) r (true_col.true_entry q h) (inr f)

    -- m needs r dates: a state of it does, and none needs fewer
    record Needs (r m : ℕ) : Type 0 where
      one : SomeState t m (λ q. Fewest w t q r)
      least : (q : ℕ) → q < t.states → T (bit m q) → (s : List ℕ) → Fits w t q s → r ≤ length s

    record FirstFrom (r m : ℕ) (s : List ℕ) : Type 0 where
      long : length s ≡ r
      fits : SomeState t m (λ q. Fits w t q s)
      first : (u : List ℕ) → length u ≡ r → SomeState t m (λ q. Fits w t q u) → NotAfter s u

    -- an edge from m to a state that needs r dates
    abbrev Onward : ℕ → ℕ → (ℕ → Type 0) → Type 0
    Onward r m P = SomeState t m (λ q. SomeEdge t q (λ e. (get_or col (target w e) 0 ≡ r) × P e))

    next_least : (r m d : ℕ) → Onward r m (λ e. present w e ≤ d) → next_date w t col r m ≤ d
    next_least r m d (q, l, h, (p, (i, a, b, (e, g)))) =
        le_trans (least_le 0 t.states (bit m) (date_from w t col r) (2 ^ w) q zero-le h p)
        (le_trans (least_le (start t q) (start t (suc q)) (λ j. eqb (get_or col (target w (edge t j)) 0) r) (λ j. present w (edge t j)) (2 ^ w) i a b ((eq_means _ r).1 e)) g)

    next_found : (r m : ℕ) → next_date w t col r m < 2 ^ w → Onward r m (λ e. present w e ≡ next_date w t col r m)
    next_found r m h =
        let (q, l, k, (p, e)) = least_found 0 t.states (bit m) (date_from w t col r) (2 ^ w) h in
        let (i, a, b, (u, e')) = least_found (start t q) (start t (suc q)) (λ j. eqb (get_or col (target w (edge t j)) 0) r) (λ j. present w (edge t j)) (2 ^ w) (rw e h) in
        (q, l, k, (p, (i, a, b, (eqb→eq (get_or col (target w (edge t i)) 0) r u, e' ∙ e))))

    next_small : (r m : ℕ) → Needs (suc r) m → next_date w t col r m < 2 ^ w
    next_small r m s =
        let (q, l, k, (p, f)) = s.one in
        let (i, a, b, g) = first_edge q r k f in
        let need = entry← (target w (edge t i)) r (target_below w t good q i k b) g in
        lt_of_le_of_lt (next_least r m (present w (edge t i)) (q, l, k, (p, (i, a, b, (need, le_refl (present w (edge t i))))))) (present_below w (edge t i))

    next_needs : (r m : ℕ) → r < never → Needs (suc r) m → Needs r (moved w t m (next_date w t col r m))
    next_needs r m h s =
        let d = next_date w t col r m in
        let (q, l, k, (p, (i, a, b, (e, same)))) = next_found r m (next_small r m s) in
        let below = target_below w t good q i k b in
        let allowed = subst (λ x. T (allows w (edge t i) x)) same (allows_present w (edge t i) (good.fair_edges i (row_below w t good q i k b))) in
        record {
          one = (target w (edge t i), zero-le, below, ((moved_means w t m d (target w (edge t i)) below).1 (q, l, k, (p, (i, a, b, (allowed, refl)))), entry→ (target w (edge t i)) r below h e));
          least = λ x g u v f.
              let (q', l', k', (p', (j, a', b', (y, e')))) = (moved_means w t m d x g).0 u in
              le_of_suc-le-suc (s.least q' k' p' (present w (edge t j) ∷ v) (fits_step w t good q' j v k' a' b' (rw e' f)));
        }

    first_step : (r m : ℕ) (s : List ℕ) → Needs (suc r) m → FirstFrom r (moved w t m (next_date w t col r m)) s
        → FirstFrom (suc r) m (next_date w t col r m ∷ s)
    first_step r m s needs ih = record { long = ap suc ih.long; fits = there ih.fits; first = first }
      where
        d : ℕ
        d = next_date w t col r m

        there : SomeState t (moved w t m d) (λ x. Fits w t x s) → SomeState t m (λ q. Fits w t q (d ∷ s))
        there (x, l, k, (u, g)) =
            let (q, l', k', (p, (i, a, b, (y, e)))) = (moved_means w t m d x k).0 u in
            (q, l', k', (p, record { dates = (next_small r m needs, g.dates); accepted = (i, a, b, (y, rw e g.accepted)) }))

        first : (u : List ℕ) → length u ≡ suc r → SomeState t m (λ q. Fits w t q u) → NotAfter (d ∷ s) u
        first [] e p = absurd (omega arith)
        first (b ∷ u) e (q, l, k, (p, g)) =
            let (i, a, c, (y, v)) = g.accepted in
            let x = target w (edge t i) in
            let below : x < t.states = target_below w t good q i k c in
            let fx : Fits w t x u = record { dates = g.dates.1; accepted = v } in
            let need : get_or col x 0 ≡ r = entry← x r below (target_fewest q i r u k a c (needs.least q k p) fx (suc_inj e)) in
            ⊎_elim
            (λ same. inr (
              same,
              ih.first u (suc_inj e) (
                x,
                zero-le,
                below,
                ((moved_means w t m d x below).1 (q, l, k, (p, (i, a, c, (subst⁻¹ (λ z. T (allows w (edge t i) z)) same y, refl)))), fx),
              ),
            ))
            inl
            (eq-or-lt_of_le (next_least r m b (q, l, k, (p, (i, a, c, (need, present_least w (edge t i) b y))))))

    first_from : (r m : ℕ) → r < never → Needs r m → FirstFrom r m (fit_from w t col r m)
    first_from zero m h s = record {
      long = refl;
      fits = (let (q, l, k, (p, f)) = s.one in (q, l, k, (p, fits_empty q f)));
      first = λ u e x. tt;
    }
    first_from (suc r) m h s =
        first_step r m (fit_from w t col r (moved w t m (next_date w t col r m))) s
        (first_from r (moved w t m (next_date w t col r m)) (omega arith) (next_needs r m (omega arith) s))

    pub fit_true : FirstFit w t (fit w t col)
    fit_true = go (get_or col 0 0) (true_col.true_entry 0 good.some_state)
      where
        go : (v : ℕ) → TrueEntry w t 0 v → FirstFit w t (cond (eqb v never) None (Some (fit_from w t col v begun)))
        go v (inl (e, n)) = rw e n
        go v (inr f) =
            let small : v < never = omega (arith, fewest_below w t good 0 v good.some_state f, good.few_states) in
            let from = first_from v begun small (record {
              one = (0, zero-le, good.some_state, (tt, f));
              least = λ q k u s g. f.least s (rw (begun_only q u) at g);
            }) in
            rw (ne_eqb v never (λ e. omega arith)) (record {
              fits = (let (q, l, k, (p, g)) = from.fits in rw (begun_only q p) at g);
              shortest = λ u g. omega (arith, from.long, f.least u g);
              first = λ u g e. from.first u (e ∙ from.long) (0, zero-le, good.some_state, (tt, g));
            })

  -- the search on tables alone
  pub search_true : FirstFit w t (fit w t (column w t))
  search_true = fit_true (column w t) (column_true w t good)
