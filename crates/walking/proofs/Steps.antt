-- How a walk grows, edge by edge and state by state. Assumes nothing.
use mathlib.Core.Path.{◌≡◌, refl, sym, ap, ap₂, ◌∙◌}
use mathlib.Core.Logic.{by_cases}
use mathlib.Core.Bool.{Bool, true, false, true≢false, cond, ◌&&◌, ◌||◌, or-false, or_assoc, and-false}
use mathlib.Core.List.{List, [], ◌∷◌}
use Prim.Native.Nat.{ℕ, zero, suc, ◌+◌, ◌^◌, ◌≤◌, ◌<◌, zero-le}
use native.Mathlib.Nat.{le_of_suc-le-suc, not-suc-le-zero}
use native.Mathlib.Numerals.{add-one}
use native.Mathlib.Decide.{dec_lt}
use native.Mathlib.Omega.{arith}
use lib.Bits.{bit_or, or_lt}
use lib.Dec.{eqb}
use lib.ListN.{length, get_or, take}
use lib.Seq.{take-length}
use lib.Pow.{pow-lt, pow_pos}
use Rattle.std.specs.List.{list_any}
use Rattle.std.proofs.lemmas.List.Folds.{list_any_more}
use Rattle.laws.specs.Decided.{T_true, T_and, eqb_sym}
use Rattle.laws.specs.Ranges.{any_in, →any, any_suc, any_stop}
use Rattle.laws.specs.Masks.{bit, bit_or_lem, bit_power, bit_beyond, bit_mask, mask_ext}
use Rattle.meaning.specs.Flags.{flags}
use Rattle.automaton.specs.Tables.{Tables, Good, allows, target, accepting, row_of, accepts}
use Rattle.automaton.specs.Walk.{any_edge, moves, moved, walked, answer}
use Rattle.automaton.proofs.WalkLaws.{moved_below}
use Rattle.automaton.proofs.RowLaws.{row_any, accepts_state}
use Rattle.walking.specs.Moving.{Next, Lowest, leads, Added, Moved}

module _ (n : ℕ) (row : List ℕ) (d m : ℕ) where
  pub added_none : m < 2 ^ n → Added n row d m 0 m
  added_none h = record { small = h; members = λ r. sym (or-false (bit m r)) }

  -- whether one edge more leads to r
  more : (k r : ℕ) → k < length row → list_any (leads d r) (take (k + 1) row) ≡ (list_any (leads d r) (take k row) || leads d r (get_or row k 0))
  more k r h = list_any_more (leads d r) row k 0 h

  added_no : (k out : ℕ) → k < length row → allows flags (get_or row k 0) d ≡ false → Added n row d m k out → Added n row d m (k + 1) out
  added_no k out l e s = record {
    small = s.small;
    members = λ r. rw (more k r l, e) (s.members r ∙ ap (λ x. bit m r || x) (sym (or-false _)));
  }

  added_yes : (k out q : ℕ) → k < length row → target flags (get_or row k 0) < n → allows flags (get_or row k 0) d ≡ true → q ≡ target flags (get_or row k 0)
      → Added n row d m k out → Added n row d m (k + 1) (bit_or out (2 ^ q))
  added_yes k out q l t e g s = rw g (record {
    small = or_lt n out (2 ^ target flags (get_or row k 0)) s.small (pow-lt t);
    members = λ r. rw (more k r l, e)
        (bit_or_lem out (2 ^ target flags (get_or row k 0)) r ∙ ap₂ ◌||◌ (s.members r) (bit_power (target flags (get_or row k 0)) r ∙ eqb_sym r (target flags (get_or row k 0)))
        ∙ or_assoc (bit m r) (list_any (leads d r) (take k row)) (eqb (target flags (get_or row k 0)) r));
  })

  pub added_more : (k out q new : ℕ) (b : Bool) → k < length row → target flags (get_or row k 0) < n → b ≡ allows flags (get_or row k 0) d
      → q ≡ target flags (get_or row k 0) → new ≡ cond b (bit_or out (2 ^ q)) out → Added n row d m k out → Added n row d m (k + 1) new
  added_more k out q new true l t e g f s = rw f (added_yes k out q l t (sym e) g s)
  added_more k out q new false l t e g f s = rw f (added_no k out l (sym e) s)

-- ---- state by state

-- `left` has the members of m from `at` on, and P says how far a program is that has gone through those below
pub record Upto (m left : ℕ) (P : ℕ → Type 0) : Type 0 where
  at : ℕ
  within : at ≤ 128
  gone : (q : ℕ) → q < at → bit left q ≡ false
  others : (q : ℕ) → at ≤ q → bit left q ≡ bit m q
  so_far : P at

pub upto_first : (m : ℕ) (P : ℕ → Type 0) → P 0 → Upto m m P
upto_first m P p = record { at = 0; within = omega arith; gone = λ q h. absurd (omega arith); others = λ q h. refl; so_far = p }

module _ (m left : ℕ) (P : ℕ → Type 0) (on : (q r : ℕ) → Next m q 128 r → P q → P r) (u : Upto m left P) where
  module _ (r rest : ℕ) (l : Lowest 128 left r rest) where
    from : u.at ≤ r
    from = by_cases (dec_lt r u.at) (λ h. absurd (true≢false (sym l.here ∙ u.gone r h))) (λ h. omega arith)

    pub upto_has : bit m r ≡ true
    upto_has = sym (u.others r from) ∙ l.here

    -- what holds before the state that comes
    pub upto_here : P r
    upto_here = on u.at r (record {
      from = from;
      within = omega (arith, l.few);
      none = λ q h k. sym (u.others q h) ∙ l.lower q k;
      found = λ h. upto_has;
    }) u.so_far

    pub upto_more : (Q : ℕ → Type 0) → Q (r + 1) → Upto m rest Q
    upto_more Q p = record {
      at = r + 1;
      within = omega (arith, l.few);
      gone = λ q h. l.gone q (omega arith);
      others = λ q h. l.others q (omega arith) ∙ u.others q (omega (arith, from));
      so_far = p;
    }

  pub upto_last : left ≡ 0 → P 128
  upto_last none = on u.at 128 (record {
    from = u.within;
    within = omega arith;
    none = λ q h k. sym (u.others q h) ∙ ap (λ x. bit x q) none ∙ bit_beyond 0 0 q (pow_pos 0) zero-le;
    found = λ h. absurd (omega arith);
  }) u.so_far

-- a member of a walk is a state of the tables
pub bit_small : (n m q : ℕ) → m < 2 ^ n → bit m q ≡ true → q < n
bit_small n m q h b = by_cases (dec_lt q n) (λ l. l) (λ l. absurd (true≢false (sym b ∙ bit_beyond n m q h (omega arith))))

-- ---- the walk that a date leaves

-- out is what the states of m that are not left move to on date d
abbrev pub MovedUpto : Tables → ℕ → ℕ → ℕ → ℕ → Type 0
MovedUpto t d m left out = Upto m left (λ q. Moved t d m q out)

module _ (t : Tables) (d m : ℕ) where
  pub moved_none : MovedUpto t d m m 0
  moved_none = upto_first m _ (record { small = pow_pos t.states; members = λ r. bit_beyond 0 0 r (pow_pos 0) zero-le })

  -- on to the next state of the walk
  moved_on : (out q r : ℕ) → Next m q 128 r → Moved t d m q out → Moved t d m r out
  moved_on out q r n s = record {
    small = s.small;
    members = λ x. s.members x ∙ sym (any_stop 0 q r (λ p. bit m p && any_edge t p (leads d x)) n.from
        (λ i k l. ap (λ b. b && any_edge t i (leads d x)) (n.none i k l)));
  }

  pub moved_small : (left out : ℕ) → MovedUpto t d m left out → out < 2 ^ t.states
  moved_small left out u = u.so_far.small

  module _ (good : Good flags t) (small : m < 2 ^ t.states) where
    pub moved_row : (left out r rest new : ℕ) → MovedUpto t d m left out → Lowest 128 left r rest
        → Added t.states (row_of t r) d out (length (row_of t r)) new → MovedUpto t d m rest new
    moved_row left out r rest new u l ad =
        let here = upto_here m left (λ q. Moved t d m q out) (moved_on out) u r rest l in
        let has = upto_has m left (λ q. Moved t d m q out) (moved_on out) u r rest l in
        let below : r < t.states = bit_small t.states m r small has in
        upto_more m left (λ q. Moved t d m q out) (moved_on out) u r rest l (λ q. Moved t d m q new) (record {
          small = ad.small;
          members = λ x. rw (add-one, any_suc 0 r (λ p. bit m p && any_edge t p (leads d x)) zero-le, has)
              (ad.members x ∙ ap₂ ◌||◌ (here.members x) (ap (list_any (leads d x)) (take-length (row_of t r)) ∙ sym (row_any t good r below (leads d x))));
        })

    pub moved_all : (left out : ℕ) → left ≡ 0 → MovedUpto t d m left out → out ≡ moved flags t m d
    moved_all left out none u =
        let s = upto_last m left (λ q. Moved t d m q out) (moved_on out) u none in
        mask_ext t.states out (moved flags t m d) s.small (moved_below flags t m d)
        (λ r l. s.members r
        ∙ any_stop 0 t.states 128 (λ p. bit m p && any_edge t p (leads d r)) good.few_states
        (λ i k j. ap (λ b. b && any_edge t i (leads d r)) (bit_beyond t.states m i small k))
        ∙ sym (bit_mask t.states (moves flags t m d) r l))

-- ---- whether a state accepts

-- state q of m accepts
abbrev pub says : Tables → ℕ → ℕ → Bool
says t m q = bit m q && accepting t q

-- none of the states of m that are not left accepts
abbrev pub NoneUpto : Tables → ℕ → ℕ → Type 0
NoneUpto t m left = Upto m left (λ q. any_in 0 q (says t m) ≡ false)

pub none_first : (t : Tables) (m : ℕ) → NoneUpto t m m
none_first t m = upto_first m _ refl

module _ (t : Tables) (good : Good flags t) (m : ℕ) (small : m < 2 ^ t.states) where
  none_on : (q r : ℕ) → Next m q 128 r → any_in 0 q (says t m) ≡ false → any_in 0 r (says t m) ≡ false
  none_on q r n u = any_stop 0 q r (says t m) n.from (λ i k l. ap (λ b. b && accepting t i) (n.none i k l)) ∙ u

  module _ (left r rest : ℕ) (u : NoneUpto t m left) (l : Lowest 128 left r rest) where
    there : bit m r ≡ true
    there = upto_has m left (λ q. any_in 0 q (says t m) ≡ false) none_on u r rest l

    below : r < t.states
    below = bit_small t.states m r small there

    pub none_more : accepts t r ≡ false → NoneUpto t m rest
    none_more e =
        let here = upto_here m left (λ q. any_in 0 q (says t m) ≡ false) none_on u r rest l in
        let not_it : says t m r ≡ false = ap (λ y. bit m r && y) (sym (accepts_state t r below) ∙ e) ∙ and-false (bit m r) in
        upto_more m left (λ q. any_in 0 q (says t m) ≡ false) none_on u r rest l (λ q. any_in 0 q (says t m) ≡ false)
        (ap (λ i. any_in 0 i (says t m)) (add-one r) ∙ any_suc 0 r (says t m) zero-le ∙ ap₂ ◌||◌ here not_it)

    pub accepted : accepts t r ≡ true → true ≡ answer t m
    accepted e =
        sym (T_true {b = answer t m} (→any 0 t.states (says t m) (
          r,
          zero-le,
          below,
          (T_and (bit m r) (accepting t r)).1 (rw there tt, rw (sym (accepts_state t r below) ∙ e) tt),
        )))

  pub not_accepted : (left : ℕ) → left ≡ 0 → NoneUpto t m left → false ≡ answer t m
  not_accepted left none u =
      sym (sym (any_stop 0 t.states 128 (says t m) good.few_states (λ i k j. ap (λ b. b && accepting t i) (bit_beyond t.states m i small k)))
      ∙ upto_last m left (λ q. any_in 0 q (says t m) ≡ false) none_on u none)

-- ---- date by date

pub walked_more : (t : Tables) (m : ℕ) (s : List ℕ) (k : ℕ) → k < length s
    → walked flags t m (take (k + 1) s) ≡ moved flags t (walked flags t m (take k s)) (get_or s k 0)
walked_more t m [] k h = absurd (not-suc-le-zero h)
walked_more t m (d ∷ s) zero h = refl
walked_more t m (d ∷ s) (suc k) h =
    let past : suc k + 1 ≡ suc (k + 1) = omega arith in
    ap (λ i. walked flags t m (take i (d ∷ s))) past ∙ walked_more t (moved flags t m d) s k (le_of_suc-le-suc h)
