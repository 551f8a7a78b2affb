-- The walk and what states accept: the walk from state 0 answers yes exactly when state 0 accepts. Assumes nothing.
use Rattle.std.specs.Prelude.{◌≡◌, refl, ◌↔◌, Bool, ◌&&◌, List, [], ◌∷◌, ℕ, suc, ◌^◌, ◌<◌, T, eqb}
use Rattle.std.proofs.Common.{ap, ◌∙◌, subst, zero-le, eqb→eq, pow_pos}
use Rattle.std.proofs.Math.Logic.Iff
use Rattle.laws.specs.Decided.{T-same, and_means, eq_means}
use Rattle.laws.specs.Ranges.{SomeIn, any_means}
use Rattle.laws.specs.Masks.{bit, bit_beyond, bit_mask, bit_power, mask_below, mask_ext}
use Rattle.automaton.specs.Tables.{Tables, Good, start, edge, target, allows, accepting}
use Rattle.automaton.specs.Walk.{SomeEdge, Accepts, any_edge, any_state, moves, moved, walked, begun, answer}
use Rattle.automaton.proofs.TableLaws.{target_below}

-- some state of m has P
abbrev pub SomeState : Tables → ℕ → (ℕ → Type 0) → Type 0
SomeState t m P = SomeIn 0 t.states (λ q. T (bit m q) × P q)

pub state_means : (t : Tables) (m : ℕ) (f : ℕ → Bool) (P : ℕ → Type 0) → ((q : ℕ) → q < t.states → T (f q) ↔ P q)
    → T (any_state t m f) ↔ SomeState t m P
state_means t m f P h =
    any_means 0 t.states (λ q. bit m q && f q) (λ q. T (bit m q) × P q) (λ q l k. and_means (bit m q) (f q) Iff.rfl (h q k))

pub edge_means : (t : Tables) (q : ℕ) (f : ℕ → Bool) (P : ℕ → Type 0) → ((i : ℕ) → i < start t (suc q) → T (f (edge t i)) ↔ P (edge t i))
    → T (any_edge t q f) ↔ SomeEdge t q P
edge_means t q f P h = any_means (start t q) (start t (suc q)) (λ i. f (edge t i)) (λ i. P (edge t i)) (λ i l k. h i k)

-- a walk keeps to the states
pub moved_below : (w : ℕ) (t : Tables) (m d : ℕ) → moved w t m d < 2 ^ t.states
moved_below w t m d = mask_below t.states (moves w t m d)

pub walked_below : (w : ℕ) (t : Tables) (m : ℕ) (s : List ℕ) → m < 2 ^ t.states → walked w t m s < 2 ^ t.states
walked_below w t m [] h = h
walked_below w t m (d ∷ s) h = walked_below w t (moved w t m d) s (moved_below w t m d)

-- a move, as a fact
pub moves_means : (w : ℕ) (t : Tables) (m d r : ℕ)
    → T (moves w t m d r) ↔ SomeState t m (λ q. SomeEdge t q (λ e. T (allows w e d) × (target w e ≡ r)))
moves_means w t m d r =
    state_means t m (λ q. any_edge t q go) _ (λ q k. edge_means t q go (λ e. T (allows w e d) × (target w e ≡ r)) (λ i h.
    and_means (allows w (edge t i) d) (eqb (target w (edge t i)) r) Iff.rfl (eq_means (target w (edge t i)) r)))
  where
    go : ℕ → Bool
    go e = allows w e d && eqb (target w e) r

pub moved_means : (w : ℕ) (t : Tables) (m d r : ℕ) → r < t.states
    → T (bit (moved w t m d) r) ↔ SomeState t m (λ q. SomeEdge t q (λ e. T (allows w e d) × (target w e ≡ r)))
moved_means w t m d r h = rw (bit_mask t.states (moves w t m d) r h) (moves_means w t m d r)

-- from no state no date leads anywhere
moved_none : (w : ℕ) (t : Tables) (d : ℕ) → moved w t 0 d ≡ 0
moved_none w t d = mask_ext t.states (moved w t 0 d) 0 (moved_below w t 0 d) (pow_pos t.states) (λ r h. T-same
    (λ u. let (q, l, k, (p, v)) = (moved_means w t 0 d r h).0 u in absurd (subst T (bit_beyond 0 0 q (pow_pos 0) zero-le) p))
    (λ u. absurd (subst T (bit_beyond 0 0 r (pow_pos 0) zero-le) u)))

pub walked_none : (w : ℕ) (t : Tables) (s : List ℕ) → walked w t 0 s ≡ 0
walked_none w t [] = refl
walked_none w t (d ∷ s) = ap (λ m. walked w t m s) (moved_none w t d) ∙ walked_none w t s

pub begun_only : (q : ℕ) → T (bit begun q) → q ≡ 0
begun_only q u = eqb→eq q 0 (rw (bit_power 0 q) at u)

module _ (w : ℕ) (t : Tables) (good : Good w t) where
  pub walk_law : (m : ℕ) (s : List ℕ) → T (answer t (walked w t m s)) ↔ SomeState t m (λ q. Accepts w t q s)
  walk_law m [] = state_means t m (accepting t) _ (λ q k. Iff.rfl)
  walk_law m (d ∷ s) = (λ u. there ((walk_law (moved w t m d) s).0 u), λ p. (walk_law (moved w t m d) s).1 (back p))
    where
      there : SomeState t (moved w t m d) (λ r. Accepts w t r s) → SomeState t m (λ q. Accepts w t q (d ∷ s))
      there (r, l, h, (u, v)) =
          let (q, l', h', (p, (i, a, b, (y, e)))) = (moved_means w t m d r h).0 u in
          (q, l', h', (p, (i, a, b, (y, rw e v))))

      back : SomeState t m (λ q. Accepts w t q (d ∷ s)) → SomeState t (moved w t m d) (λ r. Accepts w t r s)
      back (q, l, h, (p, (i, a, b, (y, v)))) =
          let r = target w (edge t i) in
          let k : r < t.states = target_below w t good q i h b in
          (r, zero-le, k, ((moved_means w t m d r k).1 (q, l, h, (p, (i, a, b, (y, refl)))), v))

  -- the walk from state 0 answers yes exactly when state 0 accepts
  pub walk_answers : (s : List ℕ) → T (answer t (walked w t begun s)) ↔ Accepts w t 0 s
  walk_answers s = (
    λ u. let (q, l, h, (p, v)) = (walk_law begun s).0 u in rw (begun_only q p) at v,
    λ v. (walk_law begun s).1 (0, zero-le, good.some_state, (tt, v)),
  )
