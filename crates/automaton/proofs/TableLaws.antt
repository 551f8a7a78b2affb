-- What edges and tables are, test by test. Assumes nothing.
use Rattle.std.specs.Prelude.{◌≡◌, ◌↔◌, Bool, ◌&&◌, List, ℕ, zero, suc, ◌+◌, ◌-◌, ◌*◌, ◌/◌, ◌%◌, ◌^◌, ◌≤◌, ◌<◌, T, leb, ltb, eqb, length, get_or}
use Rattle.std.proofs.Common.{sym, ap, ◌∙◌, zero-le, mod-lt, mod-eq_of_lt, zero-add, add_comm, add_assoc, add-mul, mul_assoc, arith, pow_pos, pow-add}
use Rattle.std.proofs.Math.Logic.Iff
use Rattle.std.proofs.Math.Nat.{div-eq_of_lt, add-mul-div_right, add-mul-mod_self_right, div-div-eq-div-mul}
use Rattle.std.specs.Int.Bits.{bit_and, and_self}
use Rattle.std.proofs.lemmas.Nat.{and_le_l}
use Rattle.laws.specs.Decided.{le_means, and_means, eq_means}
use Rattle.laws.specs.Ranges.{all_in, all_means}
use Rattle.laws.specs.Masks.{has, bit, bit_low, bit_high, covers_iff, apart_iff}
use Rattle.automaton.specs.Valid.{Rising}
use Rattle.automaton.specs.Tables.{present, absent, target, word, allows, Tables, start, edge, Good}

-- ---- an edge

-- what must be present is a date
pub present_below : (w e : ℕ) → present w e < 2 ^ w
present_below w e = mod-lt e (pow_pos w)

pub allows_tests : (w e d : ℕ) → T (allows w e d) ↔ ((bit_and d (present w e) ≡ present w e) × (bit_and d (absent w e) ≡ 0))
allows_tests w e d =
    and_means (eqb (bit_and d (present w e)) (present w e)) (eqb (bit_and d (absent w e)) 0) (eq_means _ (present w e)) (eq_means _ 0)

-- an edge allows a date exactly when each flag is as the edge wants it
pub allows_means : (w e d : ℕ) → T (allows w e d) ↔ (((k : ℕ) → has (present w e) k → has d k) × ((k : ℕ) → has (absent w e) k → ¬ has d k))
allows_means w e d = Iff.trans (allows_tests w e d) (Iff.and (covers_iff d (present w e)) (apart_iff d (absent w e)))

pub allows_present : (w e : ℕ) → bit_and (present w e) (absent w e) ≡ 0 → T (allows w e (present w e))
allows_present w e h = (allows_tests w e (present w e)).1 (and_self (present w e), h)

pub present_least : (w e d : ℕ) → T (allows w e d) → present w e ≤ d
present_least w e d u = omega (arith, and_le_l d (present w e), ((allows_tests w e d).0 u).0)

-- what is packed is read back, and stands in these bits
module _ (w p a t : ℕ) (small : p < 2 ^ w) (apart : a < 2 ^ w) where
  split : word w p a t ≡ p + (a + t * 2 ^ w) * 2 ^ w
  split =
      add_assoc p (a * 2 ^ w) (t * 2 ^ (w + w))
      ∙ ap (λ x. p + x) (ap (λ x. a * 2 ^ w + x) (ap (λ x. t * x) (pow-add 2 w w) ∙ sym (mul_assoc t (2 ^ w) (2 ^ w))) ∙ sym (add-mul a (t * 2 ^ w) (2 ^ w)))

  above : word w p a t / 2 ^ w ≡ a + t * 2 ^ w
  above =
      ap (λ x. x / 2 ^ w) split ∙ add-mul-div_right p (a + t * 2 ^ w) (pow_pos w)
      ∙ ap (λ x. x + (a + t * 2 ^ w)) (div-eq_of_lt small) ∙ zero-add (a + t * 2 ^ w)

  pub word_present : present w (word w p a t) ≡ p
  word_present = ap (λ x. x % 2 ^ w) split ∙ add-mul-mod_self_right p (a + t * 2 ^ w) (2 ^ w) ∙ mod-eq_of_lt small

  pub word_absent : absent w (word w p a t) ≡ a
  word_absent = ap (λ x. x % 2 ^ w) above ∙ add-mul-mod_self_right a t (2 ^ w) ∙ mod-eq_of_lt apart

  pub word_target : target w (word w p a t) ≡ t
  word_target =
      ap (λ x. word w p a t / x) (pow-add 2 w w) ∙ sym (div-div-eq-div-mul (word w p a t) (2 ^ w) (2 ^ w)) ∙ ap (λ x. x / 2 ^ w) above
      ∙ add-mul-div_right a t (pow_pos w) ∙ ap (λ x. x + t) (div-eq_of_lt apart) ∙ zero-add t

  bits : (q : ℕ) → bit (word w p a t) q ≡ bit ((t * 2 ^ w + a) * 2 ^ w + p) q
  bits q = ap (λ x. bit x q) (split ∙ add_comm p ((a + t * 2 ^ w) * 2 ^ w) ∙ ap (λ x. x * 2 ^ w + p) (add_comm a (t * 2 ^ w)))

  pub bits_present : (q : ℕ) → q < w → bit (word w p a t) q ≡ bit p q
  bits_present q h = bits q ∙ bit_low w p (t * 2 ^ w + a) q h

  beyond : (q : ℕ) → bit (word w p a t) (w + q) ≡ bit (t * 2 ^ w + a) q
  beyond q =
      let there : w + q - w ≡ q = omega arith in
      bits (w + q) ∙ bit_high w p (t * 2 ^ w + a) (w + q) small (omega arith) ∙ ap (bit (t * 2 ^ w + a)) there

  pub bits_absent : (q : ℕ) → q < w → bit (word w p a t) (w + q) ≡ bit a q
  bits_absent q h = beyond q ∙ bit_low w a t q h

  pub bits_target : (q : ℕ) → bit (word w p a t) (w + (w + q)) ≡ bit t q
  bits_target q =
      let there : w + q - w ≡ q = omega arith in
      beyond (w + q) ∙ bit_high w a t (w + q) apart (omega arith) ∙ ap (bit t) there

-- ---- good tables, as a test

unfoldable pub good_test : ℕ → Tables → Bool
good_test w t =
    ltb 0 t.states && (leb t.states 128
    && (ltb t.states (length t.starts) && (leb t.states (length t.accepts) && (leb t.edge_count (length t.edges)
    && (eqb (start t 0) 0 && (all_in 0 t.states (λ q. leb (start t q) (start t (suc q)))
    && (leb t.edge_count 8192 && (eqb (start t t.states) t.edge_count
    && (all_in 0 t.states (λ q. leb (get_or t.accepts q 0) 1)
    && (all_in 0 t.edge_count (λ i. eqb (bit_and (present w (edge t i)) (absent w (edge t i))) 0)
    && all_in 0 t.edge_count (λ i. ltb (target w (edge t i)) t.states)))))))))))

pub good_means : (w : ℕ) (t : Tables) → T (good_test w t) ↔ Good w t
unfolding good_test
good_means w t =
    Iff.trans
    (and_means (ltb 0 t.states) _ (le_means 1 t.states)
    (and_means (leb t.states 128) _ (le_means t.states 128)
    (and_means (ltb t.states (length t.starts)) _ (le_means (suc t.states) (length t.starts))
    (and_means (leb t.states (length t.accepts)) _ (le_means t.states (length t.accepts))
    (and_means (leb t.edge_count (length t.edges)) _ (le_means t.edge_count (length t.edges))
    (and_means (eqb (start t 0) 0) _ (eq_means (start t 0) 0)
    (and_means (all_in 0 t.states (λ q. leb (start t q) (start t (suc q)))) _
    (all_means 0 t.states (λ q. leb (start t q) (start t (suc q))) (λ q. start t q ≤ start t (suc q)) (λ q l k. le_means (start t q) (start t (suc q))))
    (and_means (leb t.edge_count 8192) _ (le_means t.edge_count 8192)
    (and_means (eqb (start t t.states) t.edge_count) _ (eq_means (start t t.states) t.edge_count)
    (and_means (all_in 0 t.states (λ q. leb (get_or t.accepts q 0) 1)) _
    (all_means 0 t.states (λ q. leb (get_or t.accepts q 0) 1) (λ q. get_or t.accepts q 0 ≤ 1) (λ q l k. le_means (get_or t.accepts q 0) 1))
    (and_means (all_in 0 t.edge_count (λ i. eqb (bit_and (present w (edge t i)) (absent w (edge t i))) 0)) _
    (all_means 0 t.edge_count (λ i. eqb (bit_and (present w (edge t i)) (absent w (edge t i))) 0) (λ i. bit_and (present w (edge t i)) (absent w (edge t i)) ≡ 0)
    (λ i l k. eq_means (bit_and (present w (edge t i)) (absent w (edge t i))) 0))
    (all_means 0 t.edge_count (λ i. ltb (target w (edge t i)) t.states) (λ i. target w (edge t i) < t.states)
    (λ i l k. le_means (suc (target w (edge t i))) t.states))))))))))))) (
      (λ (a, (b, (c, (d, (e, (f, (g, (h, (i, (j, (k, l))))))))))). record {
        some_state = a;
        few_states = b;
        starts_fit = c;
        accepts_fit = d;
        edges_fit = e;
        first_start = f;
        starts_rise = λ q. g q zero-le;
        few_edges = h;
        last_start = i;
        accept_bits = λ q. j q zero-le;
        fair_edges = λ x. k x zero-le;
        targets = λ x. l x zero-le;
      }),
      λ z. (
        z.some_state,
        (
          z.few_states,
          (
            z.starts_fit,
            (
              z.accepts_fit,
              (
                z.edges_fit,
                (
                  z.first_start,
                  (
                    (λ q y. z.starts_rise q),
                    (z.few_edges, (z.last_start, ((λ q y. z.accept_bits q), ((λ x y. z.fair_edges x), λ x y. z.targets x)))),
                  ),
                ),
              ),
            ),
          ),
        ),
      ),
    )

-- ---- rows lie within the edges, and lead to states

module _ (n : ℕ) (starts : List ℕ) (rising : Rising n starts) where
  up : (k q : ℕ) → q + k ≡ n → get_or starts q 0 ≤ get_or starts n 0
  up zero q e = let same : q ≡ n = omega arith in rw same (omega arith)
  up (suc k) q e = omega (arith, rising.rise q (omega arith), up k (suc q) (omega arith))

  -- no start is above the last
  pub below_last : (q : ℕ) → q ≤ n → get_or starts q 0 ≤ get_or starts n 0
  below_last q h = up (n - q) q (omega arith)

module _ (w : ℕ) (t : Tables) (good : Good w t) where
  pub start_below : (q : ℕ) → q ≤ t.states → start t q ≤ t.edge_count
  start_below q h = omega (arith, good.last_start, below_last t.states t.starts (record { rise = good.starts_rise }) q h)

  pub row_below : (q i : ℕ) → q < t.states → i < start t (suc q) → i < t.edge_count
  row_below q i h k = omega (arith, start_below (suc q) h)

  pub target_below : (q i : ℕ) → q < t.states → i < start t (suc q) → target w (edge t i) < t.states
  target_below q i h k = good.targets i (row_below q i h k)
