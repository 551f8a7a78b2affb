-- The rows of the refusal table for the calls from C, from those of the library. Assumes nothing.
use Rattle.std.specs.Prelude.{◌≡◌, refl, ◌↔◌, Bool, true, false, cond, List, ℕ, ◌≤◌, ◌<◌, eqb, length, take, Option, None, Some, Ok, Err, Result}
use Rattle.std.proofs.Common.{sym, ap, ap₂, ◌∙◌, subst, inl, inr, ⊎_elim, arith}
use Rattle.std.proofs.Math.Path.{subst⁻¹}
use Rattle.std.proofs.Math.Logic.Iff
use Rattle.answers.specs.Answers.{Outcome, gives, refuses, number_in, value_or}
use Rattle.answers.specs.Refusals.{Answer, outcome}
use Rattle.meaning.specs.Flags.{flags}
use Rattle.meaning.specs.Formula.{Formula as Tree, Series}
use Rattle.meaning.specs.Dialect.{dialect, NoProfile}
use Rattle.meaning.specs.declared.Profile.{Profile}
use Rattle.rule.specs.Numbering.{Numbers, IsRule}
use Rattle.rule.specs.declared.Rule.{Rule}
use Rattle.reading.specs.declared.Wanted.{Wanted}
use Rattle.reading.specs.declared.Wanted.TheVariants.{Operand, Operator, Arrow}
use Rattle.reading.specs.declared.Refusal.{Refusal}
use Rattle.reading.specs.declared.Refusal.TheVariants as refusal
use Rattle.reading.specs.Grammar.{Wants, Refuses, TwoOrThree}
use Rattle.reading.specs.Promise.{number_of, place_of, wanted_of, wanted_number, Outcome as ReadOutcome, Reads}
use Rattle.reading.specs.Outcomes.{no_twelve}
use Rattle.printing.specs.Printing.{Excessive}
use Rattle.tables.specs.Building.{Slices, Long, zeroed}
use Rattle.tables.specs.declared.Counts.{Counts}
use Rattle.tables.specs.Tables.{TooMuch}
use Rattle.automaton.specs.Tables.{Tables, Good}
use Rattle.walking.specs.Answers.{Taken, Answered, Closed, Judged}
use Rattle.walking.specs.FitAnswers.{room}
use Rattle.calls.specs.ByteForm.{FromBytes, RuleIs, HasRule}
use Rattle.calls.specs.FormLaws.{encodes_one, empty_not, has_rule}
use Rattle.calls.specs.Answers.{Saying, said_number}
use Rattle.calls.specs.Promises.{JudgedPlainly, walk_at, ReadSlots, read_slots, read_number, read_left, ReadOf, NoRoom, ReadGives, ReadCall, fit_number, dates_left, FitCall, BuildCall, PrintCall}
use Rattle.demands.specs.RefusalTable.{Row, RowAt, RefusedAt, LongAt, FirstAt, ManyAt, RefusedFromC, ReadWithRoom, InBytes, RefusalTableFromC}
use Rattle.demands.specs.Demand1.{SaysWhatFromC}
use Rattle.demands.specs.DemandLaws.{wanted}
use Rattle.demands.specs.RefusalLaws.{row_fails, refusal_numbers, twelve, refused_due, long_row, first_row, many_row, print_6, print_8, print_7, plain_6, build_6, build_8, build_9, verdict_10, step_10, fit_8, fit_10}

-- ---- a row

-- the same row, by another number that is n where the first is, for what says the same, and what is then left
row_map : {m m' n : ℕ} {W W' L L' : Type 0} → (m' ≡ n) ↔ (m ≡ n) → W ↔ W' → (m ≡ n → L → L') → Row m n W L → Row m' n W' L'
row_map e w l r = record {
  exactly = Iff.trans e (Iff.trans r.exactly w);
  leaves = λ f. l (e.0 f) (r.leaves (e.0 f));
}

-- by an equal number
equal : {m m' n : ℕ} → m' ≡ m → (m' ≡ n) ↔ (m ≡ n)
equal e = (λ f. sym e ∙ f, λ f. e ∙ f)

-- a refusal gives no value
kept : {A : Type 0} (a : Outcome A (Unit {0})) (old : A) (n : ℕ) → 0 < n → number_in a ≡ n → value_or a old ≡ old
kept (gives x) old n h e = absurd (omega arith)
kept (refuses m l) old n h e = refl

-- yes and no are no refusals, and neither are a fit and none
said_refusal : (a : Outcome Bool (Unit {0})) (n : ℕ) → 1 < n → (said_number a ≡ n) ↔ (number_in a ≡ n)
said_refusal (gives true) n h = (λ e. absurd (omega arith), λ e. absurd (omega arith))
said_refusal (gives false) n h = (λ e. absurd (omega arith), λ e. absurd (omega arith))
said_refusal (refuses m l) n h = Iff.rfl

fit_refusal : (a : Outcome (Option ℕ) (Unit {0})) (n : ℕ) → 1 < n → (fit_number a ≡ n) ↔ (number_in a ≡ n)
fit_refusal (gives (Some k)) n h = (λ e. absurd (omega arith), λ e. absurd (omega arith))
fit_refusal (gives None) n h = (λ e. absurd (omega arith), λ e. absurd (omega arith))
fit_refusal (refuses m l) n h = Iff.rfl

dates_kept : (a : Outcome (Option ℕ) (Unit {0})) (dates n : ℕ) → 0 < n → number_in a ≡ n → dates_left a dates ≡ dates
dates_kept (gives (Some k)) dates n h e = absurd (omega arith)
dates_kept (gives None) dates n h e = refl
dates_kept (refuses m l) dates n h e = refl

module _ (profile count : ℕ) (bytes : List ℕ) where
  -- of the rule in the bytes, or of none
  in_bytes : (rule : Rule) → RuleIs profile count bytes rule → (Q : Rule → Tree → Type 0) → ((φ : Tree) × Numbers rule φ × Q rule φ) ↔ InBytes profile count bytes Q
  in_bytes rule is Q = go is.from
    where
      go : FromBytes profile count bytes rule → ((φ : Tree) × Numbers rule φ × Q rule φ) ↔ InBytes profile count bytes Q
      go (inl u) = (
        λ (φ, n, q). (rule, φ, u, n, q),
        λ (r, φ, v, n, q). subst (λ (z : Rule). (φ : Tree) × Numbers z φ × Q z φ) (encodes_one profile count bytes r rule v u) (φ, n, q),
      )
      go (inr u) = (λ (φ, n, q). absurd (empty_not (subst IsRule u.0 (φ, n))), λ (r, φ, v, n, q). absurd (u.1 r v))

  module _ (out : List ℕ) (size r : ℕ) (out' : List ℕ) (size' : ℕ) (x : PrintCall profile count bytes out size r out' size') where
    print_left : (n : ℕ) → 0 < n → number_in (outcome x.printed) ≡ n → out' ≡ out → (out' ≡ out) × (size' ≡ size)
    print_left n h e same = (same, x.left ∙ kept (outcome x.printed) size n h e)

    printed_6 : Row r 6 (¬ HasRule profile count bytes) ((out' ≡ out) × (size' ≡ size))
    printed_6 = row_map (equal x.number) (Iff.not (has_rule profile count bytes x.rule x.from)) (print_left 6 (omega arith))
        (print_6 x.rule out out' x.printed x.promised)

    printed_8 : Row r 8 (HasRule profile count bytes × (length out < 1024)) ((out' ≡ out) × (size' ≡ size))
    printed_8 = row_map (equal x.number) (Iff.and (has_rule profile count bytes x.rule x.from) Iff.rfl) (print_left 8 (omega arith))
        (print_8 x.rule out out' x.printed x.promised)

    printed_7 : Row r 7 ((1024 ≤ length out) × InBytes profile count bytes (λ rule φ. Excessive φ)) ((out' ≡ out) × (size' ≡ size))
    printed_7 = row_map (equal x.number) (Iff.and Iff.rfl (in_bytes x.rule x.from (λ rule φ. Excessive φ))) (print_left 7 (omega arith))
        (print_7 x.rule out out' x.printed x.promised)

  judged_6 : (s : Series) (r : ℕ) → JudgedPlainly profile count bytes s r → Row r 6 (¬ HasRule profile count bytes) Unit
  judged_6 s r x =
      row_map (Iff.trans (equal x.number) (said_refusal (outcome x.judged) 6 (omega arith))) (Iff.not (has_rule profile count bytes x.rule x.from)) (λ e u. u)
      (plain_6 x.rule s x.judged x.promised)

  module _ (lent : Slices) (states edges r : ℕ) (left : Slices) (states' edges' : ℕ) (x : BuildCall profile count bytes lent states edges r left states' edges') where
    build_left : (n : ℕ) (s : Slices) → 0 < n → number_in (outcome x.built) ≡ n → left ≡ s → (left ≡ s) × (states' ≡ states) × (edges' ≡ edges)
    build_left n s h e same =
        let c = x.counts ∙ kept (outcome x.built) (record { states = states; edges = edges }) n h e in
        (same, ap (λ (z : Counts). z.states) c, ap (λ (z : Counts). z.edges) c)

    built_6 : Row r 6 (¬ HasRule profile count bytes) ((left ≡ lent) × (states' ≡ states) × (edges' ≡ edges))
    built_6 = row_map (equal x.number) (Iff.not (has_rule profile count bytes x.rule x.from)) (build_left 6 lent (omega arith))
        (build_6 x.rule lent left x.built x.promised)

    built_8 : Row r 8 (HasRule profile count bytes × (¬ Long lent)) ((left ≡ lent) × (states' ≡ states) × (edges' ≡ edges))
    built_8 = row_map (equal x.number) (Iff.and (has_rule profile count bytes x.rule x.from) Iff.rfl) (build_left 8 lent (omega arith))
        (build_8 x.rule lent left x.built x.promised)

    built_9 : Row r 9 (Long lent × InBytes profile count bytes (λ rule φ. TooMuch rule.profile φ)) ((left ≡ zeroed lent) × (states' ≡ states) × (edges' ≡ edges))
    built_9 = row_map (equal x.number) (Iff.and Iff.rfl (in_bytes x.rule x.from (λ rule φ. TooMuch rule.profile φ))) (build_left 9 (zeroed lent) (omega arith))
        (build_9 x.rule lent left x.built x.promised)

-- ---- reading

no_eight : (f : Refusal) → number_of f ≡ 8 → ⊥
no_eight f e = ⊎_elim (λ (l, m). omega arith) (λ is. omega arith) (refusal_numbers f)

-- 1, 2 and 3 are what is wanted
wanted_by : ℕ → Option Wanted
wanted_by n = cond (eqb n 1) (Some Operand) (cond (eqb n 2) (Some Operator) (cond (eqb n 3) (Some Arrow) None))

wanted_back : (w : Option Wanted) → wanted_by (wanted_number w) ≡ w
unfolding wanted_by
wanted_back None = refl
wanted_back (Some Operand) = refl
wanted_back (Some Operator) = refl
wanted_back (Some Arrow) = refl

wanted_one : (v w : Option Wanted) → wanted_number v ≡ wanted_number w → v ≡ w
wanted_one v w e = sym (wanted_back v) ∙ ap wanted_by e ∙ wanted_back w

-- the other refusals say nothing
silent : (f : Refusal) → ¬ TwoOrThree (number_of f) → wanted_number (wanted_of f) ≡ 0
silent refusal.UnknownProfile h = refl
silent (refusal.TooLong p) h = refl
silent (refusal.Unexpected p w) h = absurd (h (inl refl))
silent (refusal.Ended p w) h = absurd (h (inr refl))
silent (refusal.TooDeep p) h = refl
silent (refusal.TooMany p) h = refl

module _ (profile : ℕ) (text : List ℕ) (lent : ReadSlots) (r : ℕ) (left : ReadSlots) where
  module _ (x : ReadOf profile text lent r left) where
    -- what the reading's refusal leaves
    refused_left : (f : Refusal) → x.reading ≡ Err f
        → (r ≡ number_of f) × (left ≡ read_slots lent.count lent.bytes (place_of f) (wanted_number (wanted_of f)))
    refused_left f e = (x.number ∙ ap read_number e, x.leaves ∙ ap (λ (a : Result Rule Refusal). read_left a lent) e)

    -- a number is that of a refusal
    refusal_of_lem : (n : ℕ) → 0 < n → r ≡ n → (f : Refusal) × (x.reading ≡ Err f) × (number_of f ≡ n)
    refusal_of_lem n h e = go x.reading refl
      where
        go : (a : Result Rule Refusal) → x.reading ≡ a → (f : Refusal) × (x.reading ≡ Err f) × (number_of f ≡ n)
        go (Ok rule) s = let z : r ≡ 0 = x.number ∙ ap read_number s in absurd (omega arith)
        go (Err f) s = (f, s, sym (x.number ∙ ap read_number s) ∙ e)

    -- refused from C by what the reading is refused by
    from_c : (n k : ℕ) → 0 < n → RefusedFromC r left n k ↔ RefusedAt x.reading n k
    from_c n k h = (
      λ (en, ek).
          let (f, e, m) = refusal_of_lem n h en in
          let (g, l) = refused_left f e in
          (f, e, m, sym (ap (λ (s : ReadSlots). s.place) l) ∙ ek),
      λ (f, e, m, k). let (g, l) = refused_left f e in (g ∙ m, ap (λ (s : ReadSlots). s.place) l ∙ k),
    )

    -- and the rule's count and bytes stay
    rule_stays : (n : ℕ) → 0 < n → r ≡ n → (left.count ≡ lent.count) × (left.bytes ≡ lent.bytes)
    rule_stays n h e =
        let (f, s, m) = refusal_of_lem n h e in
        let (g, l) = refused_left f s in
        (ap (λ (z : ReadSlots). z.count) l, ap (λ (z : ReadSlots). z.bytes) l)

    no_profile : (f : Refusal) → x.reading ≡ Err f → number_of f ≡ 12 → NoProfile profile
    no_profile f e m π p =
        no_twelve (subst (λ n. Refuses π text n (place_of f)) m (subst (ReadOutcome π text) e (x.promised.known π p).outcome).0)

    unknown_row : Row r 12 (NoProfile profile) (left ≡ read_slots lent.count lent.bytes 0 0)
    unknown_row = record {
      exactly = (
        λ e. let (f, s, m) = refusal_of_lem 12 (omega arith) e in no_profile f s m,
        λ u. (refused_left refusal.UnknownProfile (x.promised.unknown u)).0,
      );
      leaves = λ e.
          let (f, s, m) = refusal_of_lem 12 (omega arith) e in
          let (g, l) = refused_left f s in
          l ∙ ap₂ (read_slots lent.count lent.bytes) (twelve f m).0 (twelve f m).1;
    }

    not_eight : r ≡ 8 → ⊥
    not_eight e = let (f, s, m) = refusal_of_lem 8 (omega arith) e in no_eight f m

  read_12 : ReadCall profile text lent r left → Row r 12 (NoProfile profile) (left ≡ read_slots lent.count lent.bytes 0 0)
  read_12 x = go x.gives
    where
      go : ReadGives profile text lent r left → Row r 12 (NoProfile profile) (left ≡ read_slots lent.count lent.bytes 0 0)
      go (inl ((short, (π, p)), e, same)) = row_fails (λ f. omega arith) (λ u. u π p)
      go (inr (enough, y)) = unknown_row y

  read_8 : ReadCall profile text lent r left → Row r 8 (NoRoom profile (length lent.bytes)) (left ≡ lent)
  read_8 x = go x.gives
    where
      go : ReadGives profile text lent r left → Row r 8 (NoRoom profile (length lent.bytes)) (left ≡ lent)
      go (inl (short, e, same)) = record { exactly = (λ f. short, λ s. e); leaves = λ f. same }
      go (inr (enough, y)) = row_fails (not_eight y) enough

module _ (π : Profile) (text : List ℕ) (lent : ReadSlots) (r : ℕ) (left : ReadSlots) (x : ReadWithRoom π text lent r left) where
  -- there is room, so the text was read
  pub called : ReadOf (dialect π).number text lent r left
  called = go x.call.gives
    where
      go : ReadGives (dialect π).number text lent r left → ReadOf (dialect π).number text lent r left
      go (inl ((short, k), e, same)) = absurd (omega (arith, x.room))
      go (inr (enough, y)) = y

  -- a row of reading, by where its refusal is due
  read_row_from_c : (n : ℕ) (DueAt : ℕ → Type 0) → 0 < n → ((k : ℕ) → Refuses π text n k ↔ DueAt k)
      → RowAt (RefusedFromC r left) n DueAt ((left.count ≡ lent.count) × (left.bytes ≡ lent.bytes))
  read_row_from_c n DueAt h is = record {
    exactly = λ k. Iff.trans (from_c (dialect π).number text lent r left called n k h)
        (Iff.trans (refused_due π text called.reading called.promised n k) (is k));
    leaves = λ k (e, l). rule_stays (dialect π).number text lent r left called n h e;
  }

  -- what the refusal says is wanted
  pub wanted_from_c : 0 < r → SaysWhatFromC text r left
  wanted_from_c h =
      let (f, e, m) = refusal_of_lem (dialect π).number text lent r left called r h refl in
      let (g, l) = refused_left (dialect π).number text lent r left called f e in
      let at : left.place ≡ place_of f = ap (λ (s : ReadSlots). s.place) l in
      let says = wanted π text f (subst (Reads (dialect π).number text) e called.promised) in
      let same : left.wanted ≡ wanted_number (wanted_of f) = ap (λ (s : ReadSlots). s.wanted) l in
      let back : TwoOrThree r → TwoOrThree (number_of f) = subst TwoOrThree (sym m) in
      record {
        says = λ two w. (
          λ is. subst⁻¹ (λ k. Wants (take k text) w) at ((says.says w).0 (wanted_one (wanted_of f) (Some w) (sym same ∙ is))).1,
          λ wants. same ∙ ap wanted_number ((says.says w).1 (back two, subst (λ k. Wants (take k text) w) at wants)),
        );
        says_some = λ two. let (w, is) = says.says_some (back two) in (w, same ∙ ap wanted_number is);
        says_nothing = λ other. same ∙ silent f (λ two. other (subst TwoOrThree m two));
      }

-- ---- calls on tables

-- of a call that answers by a verdict
said_10 : (P : Answer Bool → Type 0) (taken : Type 0) → ((v : Answer Bool) → P v → Row (number_in (outcome v)) 10 (¬ taken) Unit) → (r : ℕ) → Saying P r → Row r 10 (¬ taken) Unit
said_10 P taken row r x =
    row_map (Iff.trans (equal x.number) (said_refusal (outcome x.verdict) 10 (omega arith))) Iff.rfl (λ e u. u) (row x.verdict x.promised)

module _ (t : Tables) (out : List ℕ) (dates r : ℕ) (out' : List ℕ) (dates' : ℕ) (x : FitCall t out dates r out' dates') where
  fit_number_lem : (n : ℕ) → 1 < n → (r ≡ n) ↔ (number_in (outcome x.fitted) ≡ n)
  fit_number_lem n h = Iff.trans (equal x.number) (fit_refusal (outcome x.fitted) n h)

  fit_left : (n : ℕ) → 0 < n → number_in (outcome x.fitted) ≡ n → out' ≡ out → (out' ≡ out) × (dates' ≡ dates)
  fit_left n h e same = (same, x.left ∙ dates_kept (outcome x.fitted) dates n h e)

  fitted_8 : Row r 8 (length out < room) ((out' ≡ out) × (dates' ≡ dates))
  fitted_8 = row_map (fit_number_lem 8 (omega arith)) Iff.rfl (fit_left 8 (omega arith)) (fit_8 t out out' x.fitted x.promised)

  fitted_10 : Row r 10 ((room ≤ length out) × (¬ Good flags t)) ((out' ≡ out) × (dates' ≡ dates))
  fitted_10 = row_map (fit_number_lem 10 (omega arith)) Iff.rfl (fit_left 10 (omega arith)) (fit_10 t out out' x.fitted x.promised)

pub refusals_from_c : RefusalTableFromC
refusals_from_c = record {
  row_1 = λ π text lent r left x. read_row_from_c π text lent r left x 1 (LongAt text) (omega arith) (long_row π text);
  row_2 = λ π text lent r left x. read_row_from_c π text lent r left x 2 (FirstAt 2 text) (omega arith) (λ k. first_row π text 2 k (omega arith) (omega arith));
  row_3 = λ π text lent r left x. read_row_from_c π text lent r left x 3 (FirstAt 3 text) (omega arith) (λ k. first_row π text 3 k (omega arith) (omega arith));
  row_4 = λ π text lent r left x. read_row_from_c π text lent r left x 4 (FirstAt 4 text) (omega arith) (λ k. first_row π text 4 k (omega arith) (omega arith));
  row_5 = λ π text lent r left x. read_row_from_c π text lent r left x 5 (ManyAt π text) (omega arith) (many_row π text);
  row_6 = λ profile count bytes. (printed_6 profile count bytes, judged_6 profile count bytes, built_6 profile count bytes);
  row_7 = printed_7;
  row_8 = (read_8, printed_8, built_8, fitted_8);
  row_9 = built_9;
  row_10 = λ t. (
    λ low high date r low' high' x.
        row_map (equal x.number) Iff.rfl (λ e same. same) (step_10 t (walk_at low high) (walk_at low' high') date x.stepped x.promised),
    λ m. said_10 (Answered t m) (Taken t m) (λ v y. verdict_10 _ _ v y.told),
    λ m. said_10 (Closed t m) (Taken t m) (λ v y. verdict_10 _ _ v y.told),
    λ s. said_10 (Judged t s) (Good flags t) (λ v y. verdict_10 _ _ v y.told),
    fitted_10 t,
  );
  row_12 = read_12;
}
