-- The rows of the refusal table, by what the library's calls promise. Assumes nothing.
use Rattle.std.specs.Prelude.{◌≡◌, refl, ◌↔◌, ◌⊎◌, List, ℕ, ◌≤◌, ◌<◌, length, Result, Ok, Err, Bool, None, Option, Some, false, true}
use Rattle.std.proofs.Common.{sym, ap, ◌∙◌, subst, subst₂, inl, inr, arith}
use Rattle.std.proofs.Math.Logic.Iff
use Rattle.laws.specs.Decided.{Decides}
use Rattle.answers.specs.Answers.{number_in}
use Rattle.answers.specs.Refusals.{number_of as refused_as, Answer, outcome}
use Rattle.answers.specs.Laws.Told.{refused_by}
use Rattle.answers.specs.declared.Refusal.{Refusal as Refused}
use Rattle.answers.specs.declared.Refusal.TheVariants.{NotARule, TooLong, ShortSlice, TooLarge}
use Rattle.meaning.specs.Flags.{flags}
use Rattle.meaning.specs.Formula.{Formula as Tree, Series}
use Rattle.meaning.specs.Dialect.{dialect, NoProfile}
use Rattle.meaning.specs.declared.Profile.{Profile}
use Rattle.rule.specs.Numbering.{Numbers, IsRule}
use Rattle.rule.specs.declared.Rule.{Rule}
use Rattle.reading.specs.declared.Refusal.{Refusal}
use Rattle.reading.specs.declared.Refusal.TheVariants as refusal
use Rattle.reading.specs.Grammar.{Due, no_text_goes_on, ends_too_soon, too_deep_lem, Refuses, too_long, not_sound, too_many}
use Rattle.reading.specs.Promise.{number_of, place_of, wanted_of, wanted_number, Outcome, ReadsUnder, Reads}
use Rattle.reading.specs.Outcomes.{no_twelve, refuses_one, read_not_refused}
use Rattle.printing.specs.Printing.{Excessive, Printing}
use Rattle.printing.specs.Printing as printing
use Rattle.printing.specs.Outcome.{printing_one}
use Rattle.plain.specs.Judging.{Judging}
use Rattle.plain.specs.Ends.{EndsOf}
use Rattle.tables.specs.Building as building
use Rattle.tables.specs.Building.{Slices, Long, zeroed, Builds}
use Rattle.tables.specs.declared.Counts.{Counts}
use Rattle.tables.specs.Tables.{TooMuch}
use Rattle.tables.specs.Outcome.{build_one}
use Rattle.automaton.specs.Tables.{Tables, Good}
use Rattle.walking.specs.Answers.{Taken, Told, Stepped}
use Rattle.walking.specs.declared.Walk.{Walk}
use Rattle.walking.specs.FitAnswers as fitting
use Rattle.walking.specs.FitAnswers.{Searched, room}
use Rattle.walking.specs.Promises.{Ready, Answering}
use Rattle.walking.specs.declared.lines.Progress.{Progress}
use Rattle.demands.specs.RefusalTable.{Row, RowAt, RefusedAt, LongAt, FirstAt, ManyAt, ReadRow}

-- ---- a row

-- it holds, or neither the number nor what the row says
row_holds : {m n : ℕ} {When Leaves : Type 0} → m ≡ n → When → Leaves → Row m n When Leaves
row_holds e w l = record { exactly = (λ x. w, λ x. e); leaves = λ x. l }

pub row_fails : {m n : ℕ} {When Leaves : Type 0} → (m ≡ n → ⊥) → (When → ⊥) → Row m n When Leaves
row_fails e w = record { exactly = (λ x. absurd (e x), λ x. absurd (w x)); leaves = λ x. absurd (e x) }

-- a refusal is due with `left` exactly where the row says so
module _ {A S : Type 0} (P : Answer A → S → Type 0) (one : (a b : Answer A) (s t : S) → P a s → P b t → (a ≡ b) × (s ≡ t)) where
  row_of : (f : Refused) (left : S) (When : Type 0) → (When → P (Err f) left) → ((s : S) → P (Err f) s → When)
      → (r : Answer A) (s : S) → P r s → Row (number_in (outcome r)) (refused_as f) When (s ≡ left)
  row_of f left When due why r s x = record {
    exactly = (there, λ w. ap (λ a. number_in (outcome a)) (one r (Err f) s left x (due w)).0);
    leaves = λ e. (one r (Err f) s left x (due (there e))).1;
  }
    where
      there : number_in (outcome r) ≡ refused_as f → When
      there e = why s (subst (λ a. P a s) (refused_by f r e) x)

-- ---- reading

-- a text is refused by 1 to 5, and a number by 12
pub refusal_numbers : (f : Refusal) → ((1 ≤ number_of f) × (number_of f ≤ 5)) ⊎ (number_of f ≡ 12)
refusal_numbers refusal.UnknownProfile = inr refl
refusal_numbers (refusal.TooLong p) = inl (omega arith, omega arith)
refusal_numbers (refusal.Unexpected p w) = inl (omega arith, omega arith)
refusal_numbers (refusal.Ended p w) = inl (omega arith, omega arith)
refusal_numbers (refusal.TooDeep p) = inl (omega arith, omega arith)
refusal_numbers (refusal.TooMany p) = inl (omega arith, omega arith)

-- 12 stands at place 0 and says nothing
pub twelve : (f : Refusal) → number_of f ≡ 12 → (place_of f ≡ 0) × (wanted_number (wanted_of f) ≡ 0)
twelve refusal.UnknownProfile e = (refl, refl)
twelve (refusal.TooLong p) e = absurd (omega arith)
twelve (refusal.Unexpected p w) e = absurd (omega arith)
twelve (refusal.Ended p w) e = absurd (omega arith)
twelve (refusal.TooDeep p) e = absurd (omega arith)
twelve (refusal.TooMany p) e = absurd (omega arith)

module _ (π : Profile) (text : List ℕ) where
  -- a text is refused by a number at a place exactly when that refusal is due
  refused_exactly : (r : Result Rule Refusal) → ReadsUnder π text r → (n k : ℕ) → RefusedAt r n k ↔ Refuses π text n k
  refused_exactly r x n k = (there, λ d. go d r refl x.outcome)
    where
      there : RefusedAt r n k → Refuses π text n k
      there (f, e, en, ek) = subst₂ (Refuses π text) en ek (subst (Outcome π text) e x.outcome).0

      go : Refuses π text n k → (a : Result Rule Refusal) → r ≡ a → Outcome π text a → RefusedAt r n k
      go d (Ok rule) e o = absurd (read_not_refused o d)
      go d (Err f) e o = let (en, ek) = refuses_one o.0 d in (f, e, en, ek)

  due_number : {n k : ℕ} → Due 32 text n k → (2 ≤ n) × (n ≤ 4)
  due_number (no_text_goes_on h g ng) = (omega arith, omega arith)
  due_number (ends_too_soon g ng) = (omega arith, omega arith)
  due_number (too_deep_lem token at g gb nb) = (omega arith, omega arith)

  refuses_first : {n k : ℕ} → Refuses π text n k → n ≡ 1 → LongAt text k
  refuses_first (too_long h) e = (h, refl)
  refuses_first (not_sound h d) e = let (l, m) = due_number d.0 in absurd (omega arith)
  refuses_first (too_many x f) e = absurd (omega arith)

  refuses_due : {n k : ℕ} → Refuses π text n k → 2 ≤ n → n ≤ 4 → FirstAt n text k
  refuses_due (too_long h) l m = absurd (omega arith)
  refuses_due (not_sound h d) l m = (h, d)
  refuses_due (too_many x f) l m = absurd (omega arith)

  refuses_many : {n k : ℕ} → Refuses π text n k → n ≡ 5 → ManyAt π text k
  refuses_many (too_long h) e = absurd (omega arith)
  refuses_many (not_sound h d) e = let (l, m) = due_number d.0 in absurd (omega arith)
  refuses_many (too_many {p = p} x f) e = (p, x, f, refl)

  pub long_row : (k : ℕ) → Refuses π text 1 k ↔ LongAt text k
  long_row k = (λ x. refuses_first x refl, λ (h, e). subst (Refuses π text 1) (sym e) (too_long h))

  pub first_row : (n k : ℕ) → 2 ≤ n → n ≤ 4 → Refuses π text n k ↔ FirstAt n text k
  first_row n k l m = (λ x. refuses_due x l m, λ (h, d). not_sound h d)

  pub many_row : (k : ℕ) → Refuses π text 5 k ↔ ManyAt π text k
  many_row k = (λ x. refuses_many x refl, λ (p, x, f, e). subst (Refuses π text 5) (sym e) (too_many x f))

pub refused_due : (π : Profile) (text : List ℕ) (r : Result Rule Refusal) → Reads (dialect π).number text r → (n k : ℕ) → RefusedAt r n k ↔ Refuses π text n k
refused_due π text r x = refused_exactly π text r (x.known π refl)

-- a row of reading, by where its refusal is due
pub read_row : (n : ℕ) (DueAt : Profile → List ℕ → ℕ → Type 0) → ((π : Profile) (text : List ℕ) (k : ℕ) → Refuses π text n k ↔ DueAt π text k) → ReadRow n DueAt
read_row n DueAt is π text r x = record {
  exactly = λ k. Iff.trans (refused_due π text r x n k) (is π text k);
  leaves = λ k h. tt;
}

-- 12 exactly under a number that no profile has, whatever the text
pub profile_12 : (profile : ℕ) (text : List ℕ) (r : Result Rule Refusal) → Reads profile text r → RowAt (RefusedAt r) 12 (λ k. NoProfile profile × (k ≡ 0)) Unit
profile_12 profile text r x = record {
  exactly = λ k. (
    λ (f, e, en, ek). (unknown k (f, e, en, ek), sym ek ∙ (twelve f en).0),
    λ (u, e). (refusal.UnknownProfile, x.unknown u, refl, sym e),
  );
  leaves = λ k h. tt;
}
  where
    unknown : (k : ℕ) → RefusedAt r 12 k → NoProfile profile
    unknown k h π p = no_twelve ((refused_exactly π text r (x.known π p) 12 k).0 h)

-- ---- calls that are given a rule

module _ (rule : Rule) where
  module _ (size : ℕ) where
    print_not : {n : ℕ} → printing.Refuses rule size n → n ≡ 6 → ¬ IsRule rule
    print_not (printing.not_a_rule f) e = f
    print_not (printing.short_slice r l) e = absurd (omega arith)
    print_not (printing.too_long m l x) e = absurd (omega arith)

    print_short : {n : ℕ} → printing.Refuses rule size n → n ≡ 8 → IsRule rule × (size < 1024)
    print_short (printing.not_a_rule f) e = absurd (omega arith)
    print_short (printing.short_slice r l) e = (r, l)
    print_short (printing.too_long m l x) e = absurd (omega arith)

    print_long : {n : ℕ} → printing.Refuses rule size n → n ≡ 7 → (1024 ≤ size) × ((φ : Tree) × Numbers rule φ × Excessive φ)
    print_long (printing.not_a_rule f) e = absurd (omega arith)
    print_long (printing.short_slice r l) e = absurd (omega arith)
    print_long (printing.too_long {φ = φ} m l x) e = (l, (φ, m, x))

  module _ (before after : List ℕ) (r : Answer ℕ) (x : Printing rule before after r) where
    abbrev print_number : Answer ℕ → ℕ
    print_number a = number_in (outcome a)

    print_row : (f : Refused) (When : Type 0) → (When → Printing rule before before (Err f)) → ((s : List ℕ) → Printing rule before s (Err f) → When)
        → Row (print_number r) (refused_as f) When (after ≡ before)
    print_row f When due why =
        row_of (λ a s. Printing rule before s a) (λ a b s t p q. printing_one rule before s t a b p q) f before When due why r after x

    pub print_6 : Row (print_number r) 6 (¬ IsRule rule) (after ≡ before)
    print_6 = print_row NotARule _ (λ w. record { right = (printing.not_a_rule w, refl) }) (λ s y. print_not (length before) y.right.0 refl)

    pub print_8 : Row (print_number r) 8 (IsRule rule × (length before < 1024)) (after ≡ before)
    print_8 = print_row ShortSlice _ (λ (h, l). record { right = (printing.short_slice h l, refl) })
        (λ s y. print_short (length before) y.right.0 refl)

    pub print_7 : Row (print_number r) 7 ((1024 ≤ length before) × ((φ : Tree) × Numbers rule φ × Excessive φ)) (after ≡ before)
    print_7 = print_row TooLong _ (λ (l, (φ, n, e)). record { right = (printing.too_long n l e, refl) })
        (λ s y. print_long (length before) y.right.0 refl)

  pub plain_6 : (s : Series) (r : Answer Bool) → Judging rule s r → Row (number_in (outcome r)) 6 (¬ IsRule rule) Unit
  plain_6 s (Ok true) x = row_fails (λ e. omega arith) (λ w. w (x.right.0, x.right.1))
  plain_6 s (Ok false) x = row_fails (λ e. omega arith) (λ w. w (x.right.0, x.right.1))
  plain_6 s (Err f) x = row_holds x.right.0 x.right.1 tt

  pub ends_6 : (r : Answer ℕ) → EndsOf rule r → Row (number_in (outcome r)) 6 (¬ IsRule rule) Unit
  ends_6 (Ok m) x = row_fails (λ e. omega arith) (λ w. w (x.right.0, x.right.1))
  ends_6 (Err f) x = row_holds x.right.0 x.right.1 tt

  module _ (before : Slices) where
    build_not : {a : building.Answer} {u : Slices} → Builds rule before a u → number_in a ≡ 6 → ¬ IsRule rule
    build_not (building.not_a_rule f) e = f
    build_not (building.short_slice r l) e = absurd (omega arith)
    build_not (building.too_much φ m l x) e = absurd (omega arith)
    build_not (building.tables φ m l x) e = absurd (omega arith)

    build_short : {a : building.Answer} {u : Slices} → Builds rule before a u → number_in a ≡ 8 → IsRule rule × (¬ Long before)
    build_short (building.not_a_rule f) e = absurd (omega arith)
    build_short (building.short_slice r l) e = (r, l)
    build_short (building.too_much φ m l x) e = absurd (omega arith)
    build_short (building.tables φ m l x) e = absurd (omega arith)

    build_much : {a : building.Answer} {u : Slices} → Builds rule before a u → number_in a ≡ 9
        → Long before × ((φ : Tree) × Numbers rule φ × TooMuch rule.profile φ)
    build_much (building.not_a_rule f) e = absurd (omega arith)
    build_much (building.short_slice r l) e = absurd (omega arith)
    build_much (building.too_much φ m l x) e = (l, (φ, m, x))
    build_much (building.tables φ m l x) e = absurd (omega arith)

    module _ (after : Slices) (r : Answer Counts) (x : Builds rule before (outcome r) after) where
      abbrev build_number : Answer Counts → ℕ
      build_number a = number_in (outcome a)

      build_row : (f : Refused) (left : Slices) (When : Type 0) → (When → Builds rule before (outcome (Err f)) left)
          → ((s : Slices) → Builds rule before (outcome (Err f)) s → When) → Row (build_number r) (refused_as f) When (after ≡ left)
      build_row f left When due why =
          row_of (λ a s. Builds rule before (outcome a) s) (λ a b s t p q. build_one rule before a b s t p q) f left When due why r after x

      pub build_6 : Row (build_number r) 6 (¬ IsRule rule) (after ≡ before)
      build_6 = build_row NotARule before _ building.not_a_rule (λ s y. build_not y refl)

      pub build_8 : Row (build_number r) 8 (IsRule rule × (¬ Long before)) (after ≡ before)
      build_8 = build_row ShortSlice before _ (λ (h, l). building.short_slice h l) (λ s y. build_short y refl)

      pub build_9 : Row (build_number r) 9 (Long before × ((φ : Tree) × Numbers rule φ × TooMuch rule.profile φ)) (after ≡ zeroed before)
      build_9 = build_row TooLarge (zeroed before) _ (λ (l, (φ, n, m)). building.too_much φ n l m) (λ s y. build_much y refl)

-- ---- calls on tables

-- a verdict: 10 exactly for what is not taken
pub verdict_10 : (taken claim : Type 0) (r : Answer Bool) → Told taken tt (λ said. Decides said claim) (outcome r) → Row (number_in (outcome r)) 10 (¬ taken) Unit
verdict_10 taken claim (Ok true) (h, c) = row_fails (λ e. omega arith) (λ n. n h)
verdict_10 taken claim (Ok false) (h, c) = row_fails (λ e. omega arith) (λ n. n h)
verdict_10 taken claim (Err f) (e, l, n) = row_holds e n tt

pub step_10 : (t : Tables) (m after : Walk) (date : ℕ) (r : Answer (Unit {0})) → Stepped t m date after r → Row (number_in (outcome r)) 10 (¬ Taken t m) (after ≡ m)
step_10 t m after date (Ok done) x = row_fails (λ e. omega arith) (λ n. n x.told.0)
step_10 t m after date (Err f) x = row_holds x.told.0 x.told.2 x.told.1

pub lines_10 : (t : Tables) (bytes : List ℕ) (from : Progress) (before after : List ℕ) (r : Answer Progress) → Answering t bytes from before r after
    → Row (number_in (outcome r)) 10 (¬ Ready t bytes from before) (after ≡ before)
lines_10 t bytes from before after (Ok p) x = row_fails (λ e. omega arith) (λ bad. bad x.told.0)
lines_10 t bytes from before after (Err f) x = row_holds x.told.0 x.told.2 x.told.1

module _ (t : Tables) (before after : List ℕ) where
  pub fit_8 : (r : Answer (Option ℕ)) → Searched t before after r → Row (number_in (outcome r)) 8 (length before < room) (after ≡ before)
  fit_8 r x = go r x.told
    where
      go : (r : Answer (Option ℕ)) → fitting.Told t before after (outcome r) → Row (number_in (outcome r)) 8 (length before < room) (after ≡ before)
      go (Ok (Some n)) (l, g, shown) = row_fails (λ e. omega arith) (λ s. omega arith)
      go (Ok None) (l, g, shown) = row_fails (λ e. omega arith) (λ s. omega arith)
      go (Err f) (same, inl (e, h)) = row_holds e h same
      go (Err f) (same, inr (e, l, bad)) = row_fails (λ z. omega arith) (λ s. omega arith)

  pub fit_10 : (r : Answer (Option ℕ)) → Searched t before after r → Row (number_in (outcome r)) 10 ((room ≤ length before) × (¬ Good flags t)) (after ≡ before)
  fit_10 r x = go r x.told
    where
      go : (r : Answer (Option ℕ)) → fitting.Told t before after (outcome r)
          → Row (number_in (outcome r)) 10 ((room ≤ length before) × (¬ Good flags t)) (after ≡ before)
      go (Ok (Some n)) (l, g, shown) = row_fails (λ e. omega arith) (λ (s, bad). bad g)
      go (Ok None) (l, g, shown) = row_fails (λ e. omega arith) (λ (s, bad). bad g)
      go (Err f) (same, inl (e, h)) = row_fails (λ z. omega arith) (λ (s, bad). omega arith)
      go (Err f) (same, inr (e, l, bad)) = row_holds e (l, bad) same
