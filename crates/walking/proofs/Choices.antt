-- How the dates of the fit are chosen and written. Assumes nothing.
use mathlib.Core.Path.{◌≡◌, refl, sym, ap, ap₂, ◌∙◌, subst, subst⁻¹}
use mathlib.Core.Bool.{Bool, cond}
use mathlib.Core.List.{List, [], ◌∷◌, ◌++◌, append-nil, append_assoc}
use Prim.Native.Nat.{ℕ, zero, suc, ◌+◌, ◌-◌, ◌^◌, ◌≤◌, ◌<◌, min, zero-le}
use native.Mathlib.Numerals.{add-one}
use native.Mathlib.Omega.{arith}
use borrow.Author.Tests.{eq-eqb, ne_eqb}
use lib.ListN.{length, get_or, set, take, drop, length-set, take-append-drop}
use lib.Seq.{take-suc-set}
use lib.Dec.{eqb}
use Rattle.laws.specs.Lists.{rest_more}
use Rattle.laws.specs.Ranges.{least_in, least_none, least_suc, least_stop}
use Rattle.laws.specs.Masks.{bit, bit_beyond}
use Rattle.answers.specs.Answers.{gives}
use Rattle.meaning.specs.Flags.{flags}
use Rattle.automaton.specs.Tables.{Tables, Good, start, edge, present, target, row_of}
use Rattle.automaton.specs.Walk.{moved, begun}
use Rattle.automaton.specs.Fit.{Dates, Fits, FirstOf, FirstFit}
use Rattle.automaton.specs.Column.{never, Column}
use Rattle.automaton.specs.Search.{date_from, next_date, fit_from}
use Rattle.automaton.proofs.SearchLaws.{fit_true, fit_short}
use Rattle.walking.specs.Moving.{Next, Lowest}
use Rattle.walking.proofs.Steps.{Upto, upto_first, upto_has, upto_here, upto_more, upto_last, bit_small}
use Rattle.automaton.proofs.RowLaws.{row_size, row_end, row_length, row_edge}
use Rattle.std.specs.Prelude.{Some, None}
use Rattle.walking.specs.FitAnswers.{room, Told}
use Rattle.walking.specs.Choosing.{leads_to, row_date, Chosen, Written}

-- ---- the least date, state by state

-- a range that begins higher
least_shift : (a k : ℕ) (f f' : ℕ → Bool) (g g' : ℕ → ℕ) (top : ℕ) → ((i : ℕ) → i < k → f (a + i) ≡ f' i) → ((i : ℕ) → i < k → g (a + i) ≡ g' i)
    → least_in a (a + k) f g top ≡ least_in 0 k f' g' top
least_shift a zero f f' g g' top p q = least_none a (a + 0) f g top (omega arith)
least_shift a (suc k) f f' g g' top p q =
    let past : a + suc k ≡ suc (a + k) = omega arith in
    ap (λ b. least_in a b f g top) past ∙ least_suc a (a + k) f g top (omega arith)
    ∙ ap₂ min (least_shift a k f f' g g' top (λ i h. p i (omega arith)) (λ i h. q i (omega arith)))
    (ap₂ (λ (b : Bool) (x : ℕ). cond b x top) (p k (omega arith)) (q k (omega arith)))
    ∙ sym (least_suc 0 k f' g' top zero-le)

-- the row as a list, and as a part of the edges
module _ (t : Tables) (good : Good flags t) (col : List ℕ) (r q : ℕ) (h : q < t.states) where
  row_least : row_date (row_of t q) col r (length (row_of t q)) ≡ date_from flags t col r q
  row_least =
      ap (row_date (row_of t q) col r) (row_length t good q h)
      ∙ sym (least_shift (start t q) (row_size t good q h) (λ i. eqb (get_or col (target flags (edge t i)) 0) r) (leads_to (row_of t q) col r)
      (λ i. present flags (edge t i)) (λ j. present flags (get_or (row_of t q) j 0)) (2 ^ flags)
      (λ i l. ap (λ e. eqb (get_or col (target flags e) 0) r) (sym (row_edge t good q h i l)))
      (λ i l. ap (present flags) (sym (row_edge t good q h i l))))
      ∙ ap (λ b. least_in (start t q) b (λ i. eqb (get_or col (target flags (edge t i)) 0) r) (λ i. present flags (edge t i)) (2 ^ flags)) (row_end t good q h)

-- `least` is the least date from the states of m below q, and from those that are not left
abbrev pub LeastBelow : Tables → List ℕ → ℕ → ℕ → ℕ → ℕ → Type 0
LeastBelow t col r m least q = least ≡ least_in 0 q (bit m) (date_from flags t col r) (2 ^ flags)

abbrev pub LeastUpto : Tables → List ℕ → ℕ → ℕ → ℕ → ℕ → Type 0
LeastUpto t col r m left least = Upto m left (LeastBelow t col r m least)

pub least_first : (t : Tables) (col : List ℕ) (r m : ℕ) → LeastUpto t col r m m (2 ^ flags)
least_first t col r m = upto_first m _ refl

module _ (t : Tables) (good : Good flags t) (col : List ℕ) (r m : ℕ) (small : m < 2 ^ t.states) where
  least_on : (least q n : ℕ) → Next m q 128 n → LeastBelow t col r m least q → LeastBelow t col r m least n
  least_on least q n h e = e ∙ sym (least_stop 0 q n (bit m) (date_from flags t col r) (2 ^ flags) h.from h.none)

  pub least_row : (left least q rest x new : ℕ) → LeastUpto t col r m left least → Lowest 128 left q rest
      → x ≡ row_date (row_of t q) col r (length (row_of t q)) → new ≡ min least x → LeastUpto t col r m rest new
  least_row left least q rest x new u l e k =
      let has = upto_has m left (LeastBelow t col r m least) (least_on least) u q rest l in
      upto_more m left (LeastBelow t col r m least) (least_on least) u q rest l (LeastBelow t col r m new)
      (k ∙ ap₂ min (upto_here m left (LeastBelow t col r m least) (least_on least) u q rest l)
      (e ∙ row_least t good col r q (bit_small t.states m q small has) ∙ sym (ap (λ (c : Bool). cond c (date_from flags t col r q) (2 ^ flags)) has))
      ∙ sym (ap (λ n. least_in 0 n (bit m) (date_from flags t col r) (2 ^ flags)) (add-one q) ∙ least_suc 0 q (bit m) (date_from flags t col r) (2 ^ flags) zero-le))

  pub least_all : (left least : ℕ) → left ≡ 0 → LeastUpto t col r m left least → least ≡ next_date flags t col r m
  least_all left least empty u =
      upto_last m left (LeastBelow t col r m least) (least_on least) u empty
      ∙ least_stop 0 t.states 128 (bit m) (date_from flags t col r) (2 ^ flags) good.few_states (λ i k j. bit_beyond t.states m i small k)

-- ---- the fit, date by date

pub length_from : (t : Tables) (col : List ℕ) (k m : ℕ) → length (fit_from flags t col k m) ≡ k
length_from t col zero m = refl
length_from t col (suc k) m = ap suc (length_from t col k (moved flags t m (next_date flags t col k m)))

module _ (t : Tables) (col : List ℕ) where
  abbrev from : ℕ → ℕ → List ℕ
  from = fit_from flags t col

  -- i dates of n stand at the front, and the walk after them is m
  pub record Underway (n : ℕ) (before : List ℕ) (i m : ℕ) (now : List ℕ) : Type 0 where
    pub long : length now ≡ length before
    dates : Dates flags (from (n - i) m)
    same : take i now ++ from (n - i) m ≡ from n begun
    rest : drop i now ≡ drop i before

  pub underway_first : (n : ℕ) (before : List ℕ) → Chosen t col n → Underway n before 0 begun before
  underway_first n before c =
      let all : n - 0 ≡ n = omega arith in
      record { long = refl; dates = subst⁻¹ (λ k. Dates flags (from k begun)) all c.dates; same = ap (λ k. from k begun) all; rest = refl }

  module _ (n : ℕ) (before : List ℕ) (i m : ℕ) (now : List ℕ) (h : i < n) (u : Underway n before i m now) where
    one_more : n - i ≡ suc (n - i - 1)
    one_more = omega arith

    pub next_is_date : next_date flags t col (n - i - 1) m < 2 ^ flags
    next_is_date = (subst (λ k. Dates flags (from k m)) one_more u.dates).0

    pub underway_more : (d m' : ℕ) → i < length now → d ≡ next_date flags t col (n - i - 1) m → m' ≡ moved flags t m d
        → Underway n before (i + 1) m' (set now i d)
    underway_more d m' fits e f =
        let k = n - i - 1 in
        let fewer : n - (i + 1) ≡ n - i - 1 = omega arith in
        let there : m' ≡ moved flags t m (next_date flags t col k m) = f ∙ ap (moved flags t m) e in
        record {
          long = length-set now i d ∙ u.long;
          dates = subst⁻¹ (λ x. Dates flags (from x m')) fewer (subst⁻¹ (λ x. Dates flags (from k x)) there (subst (λ x. Dates flags (from x m)) one_more u.dates).1);
          same = ap₂ ◌++◌ (ap (λ x. take x (set now i d)) (add-one i) ∙ take-suc-set now i d fits) (ap₂ from fewer there)
              ∙ append_assoc (take i now) (d ∷ []) (from k (moved flags t m (next_date flags t col k m)))
              ∙ ap (λ (l : List ℕ). take i now ++ l) (ap (λ x. x ∷ from k (moved flags t m (next_date flags t col k m))) e ∙ sym (ap (λ x. from x m) one_more))
              ∙ u.same;
          rest = rest_more before now i d u.rest;
        }

  pub underway_last : (n : ℕ) (before : List ℕ) (m : ℕ) (now : List ℕ) → Underway n before n m now → Written t col n before now
  underway_last n before m now u =
      let all_done : n - n ≡ 0 = omega arith in
      record {
        long = u.long;
        shown = sym (take-append-drop n now)
            ∙ ap₂ ◌++◌ (sym (append-nil (take n now)) ∙ ap (λ k. take n now ++ from k m) (sym all_done) ∙ u.same) u.rest;
      }

-- ---- what the count of state 0 tells

module _ (t : Tables) (good : Good flags t) (col : List ℕ) (counted : Column flags t col) where
  abbrev shown : List ℕ
  shown = fit_from flags t col (get_or col 0 0) begun

  found : FirstFit flags t (cond (eqb (get_or col 0 0) never) None (Some shown))
  found = fit_true flags t good col counted

  pub found_none : get_or col 0 0 ≡ never → FirstFit flags t None
  found_none c = subst (FirstFit flags t) (ap (λ (b : Bool). cond b None (Some shown)) (eq-eqb (get_or col 0 0) never c)) found

  module _ (some_fit : get_or col 0 0 ≡ never → ⊥) where
    found_first : FirstOf (Fits flags t 0) shown
    found_first = subst (FirstFit flags t) (ap (λ (b : Bool). cond b None (Some shown)) (ne_eqb (get_or col 0 0) never some_fit)) found

    pub found_few : get_or col 0 0 ≤ 127
    found_few = omega (arith, fit_short flags t good shown found_first, length_from t col (get_or col 0 0) begun)

    pub found_dates : Chosen t col (get_or col 0 0)
    found_dates = record { dates = found_first.fits.dates }

    pub found_told : (before after : List ℕ) → room ≤ length before → Written t col (get_or col 0 0) before after
        → Told t before after (gives (Some (get_or col 0 0)))
    found_told before after h w =
        (h, good, (Some shown, found_first, (length_from t col (get_or col 0 0) begun, found_few, w.shown)))
