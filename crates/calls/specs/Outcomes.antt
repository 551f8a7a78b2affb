-- Each call's promise admits one outcome only. Assumes nothing.
use Rattle.std.specs.Prelude.{ℕ, ◌≡◌, Bool, List, Result, Option}
use Rattle.std.proofs.Common.{sym, ap, ◌∙◌, subst, inl, inr}
use Rattle.answers.specs.Answers.{number_in, value_or}
use Rattle.answers.specs.Refusals.{Answer, outcome}
use Rattle.automaton.specs.Tables.{Tables}
use Rattle.plain.specs.Judging.{Judging}
use Rattle.plain.specs.Outcome.{judging_one}
use Rattle.rule.specs.declared.Rule.{Rule}
use Rattle.walking.specs.Answers.{Judged, Answered, Closed}
use Rattle.walking.specs.Theorems.{step_one, judge_one, answer_one, closed_one}
use Rattle.walking.specs.declared.Walk.{Walk}
use Rattle.reading.specs.Outcomes.{reads_one}
use Rattle.reading.specs.declared.Refusal.{Refusal}
use Rattle.printing.specs.Printing.{Printing}
use Rattle.printing.specs.Outcome.{printing_one}
use Rattle.tables.specs.Building as building
use Rattle.tables.specs.Building.{Slices, Builds}
use Rattle.tables.specs.Outcome.{builds_one}
use Rattle.tables.specs.declared.Counts.{Counts}
use Rattle.walking.specs.FitTheorems.{search_one}
use Rattle.calls.specs.Answers.{Says, Saying, said_number}
use Rattle.calls.specs.Promises.{PrintCall, BuildCall, FitCall, fit_number, dates_left, ReadSlots, read_number, read_left, ReadGives, ReadCall, JudgedPlainly, Begins, StepsTo, walk_at}
use Rattle.calls.specs.FormLaws.{rule_is_one}

pub says_one : (a b : ℕ) {P : Type 0} → Says a P → Says b P → a ≡ b
says_one a b (inl x) (inl y) = x.0 ∙ sym y.0
says_one a b (inl x) (inr y) = absurd (y.1 x.1)
says_one a b (inr x) (inl y) = absurd (x.1 y.1)
says_one a b (inr x) (inr y) = x.0 ∙ sym y.0

-- where the promise admits one verdict
pub saying_one : (P : Answer Bool → Type 0) → ((v w : Answer Bool) → P v → P w → v ≡ w) → (a b : ℕ) → Saying P a → Saying P b → a ≡ b
saying_one P one a b x y =
    x.number ∙ ap (λ v. said_number (outcome v)) (one x.verdict y.verdict x.promised y.promised) ∙ sym y.number

pub plainly_one : (profile count : ℕ) (bytes series : List ℕ) (a b : ℕ) → JudgedPlainly profile count bytes series a → JudgedPlainly profile count bytes series b → a ≡ b
plainly_one profile count bytes series a b x y =
    let e : x.rule ≡ y.rule = rule_is_one profile count bytes x.rule y.rule x.from y.from in
    let j : x.judged ≡ y.judged =
    judging_one y.rule series x.judged y.judged (subst (λ (r : Rule). Judging r series x.judged) e x.promised) y.promised in
    x.number ∙ ap (λ (v : Answer Bool). said_number (outcome v)) j ∙ sym y.number

pub begins_one : (low high low' high' : ℕ) → Begins low high → Begins low' high' → walk_at low high ≡ walk_at low' high'
begins_one low high low' high' x y = x.begins ∙ sym y.begins

pub steps_one : (t : Tables) (low high date : ℕ) (a l h b m k : ℕ) → StepsTo t low high date a l h → StepsTo t low high date b m k
    → (a ≡ b) × (walk_at l h ≡ walk_at m k)
steps_one t low high date a l h b m k x y =
    let (e, w) = step_one t (walk_at low high) date (walk_at l h) (walk_at m k) x.stepped y.stepped x.promised y.promised in
    (x.number ∙ ap (λ (v : Answer (Unit {0})). number_in (outcome v)) e ∙ sym y.number, w)

module _ (t : Tables) where
  pub judged_one : (s : List ℕ) (a b : ℕ) → Saying (Judged t s) a → Saying (Judged t s) b → a ≡ b
  judged_one s = saying_one (Judged t s) (judge_one t s)

  pub answered_one : (m : Walk) (a b : ℕ) → Saying (Answered t m) a → Saying (Answered t m) b → a ≡ b
  answered_one m = saying_one (Answered t m) (answer_one t m)

  pub closing_one : (m : Walk) (a b : ℕ) → Saying (Closed t m) a → Saying (Closed t m) b → a ≡ b
  closing_one m = saying_one (Closed t m) (closed_one t m)

read_gives_one : (profile : ℕ) (text : List ℕ) (lent : ReadSlots) (a : ℕ) (left : ReadSlots) (b : ℕ) (kept : ReadSlots)
    → ReadGives profile text lent a left → ReadGives profile text lent b kept → (a ≡ b) × (left ≡ kept)
read_gives_one profile text lent a left b kept (inl (h, e, f)) (inl (k, g, i)) = (e ∙ sym g, f ∙ sym i)
read_gives_one profile text lent a left b kept (inl (h, e, f)) (inr (k, y)) = absurd (k h)
read_gives_one profile text lent a left b kept (inr (h, x)) (inl (k, g, i)) = absurd (h k)
read_gives_one profile text lent a left b kept (inr (h, x)) (inr (k, y)) =
    let e : x.reading ≡ y.reading = reads_one profile text x.reading y.reading x.promised y.promised in (
      x.number ∙ ap read_number e ∙ sym y.number,
      x.leaves ∙ ap (λ (z : Result Rule Refusal). read_left z lent) e ∙ sym y.leaves,
    )

pub read_call_one : (profile : ℕ) (text : List ℕ) (lent : ReadSlots) (a : ℕ) (left : ReadSlots) (b : ℕ) (kept : ReadSlots)
    → ReadCall profile text lent a left → ReadCall profile text lent b kept → (a ≡ b) × (left ≡ kept)
read_call_one profile text lent a left b kept x y = read_gives_one profile text lent a left b kept x.gives y.gives

pub fit_call_one : (t : Tables) (out : List ℕ) (dates a : ℕ) (l : List ℕ) (m b : ℕ) (k : List ℕ) (n : ℕ)
    → FitCall t out dates a l m → FitCall t out dates b k n → (a ≡ b) × (l ≡ k) × (m ≡ n)
fit_call_one t out dates a l m b k n x y =
    let (e, w) = search_one t out l k x.fitted y.fitted x.promised y.promised in (
      x.number ∙ ap (λ (f : Answer (Option ℕ)). fit_number (outcome f)) e ∙ sym y.number,
      w,
      x.left ∙ ap (λ (f : Answer (Option ℕ)). dates_left (outcome f) dates) e ∙ sym y.left,
    )

pub build_call_one : (profile count : ℕ) (bytes : List ℕ) (lent : Slices) (states edges a : ℕ) (l : Slices) (m n b : ℕ) (k : Slices) (i j : ℕ)
    → BuildCall profile count bytes lent states edges a l m n → BuildCall profile count bytes lent states edges b k i j → (a ≡ b) × (l ≡ k) × (m ≡ i) × (n ≡ j)
build_call_one profile count bytes lent states edges a l m n b k i j x y =
    let e : x.rule ≡ y.rule = rule_is_one profile count bytes x.rule y.rule x.from y.from in
    let (f, s) = builds_one y.rule lent _ _ l k (subst (λ (r : Rule). Builds r lent (outcome x.built) l) e x.promised) y.promised in
    let c = x.counts ∙ ap (λ (z : building.Answer). value_or z (record { states = states; edges = edges })) f ∙ sym y.counts in
    (x.number ∙ ap (λ (z : building.Answer). number_in z) f ∙ sym y.number, s, ap (λ (z : Counts). z.states) c, ap (λ (z : Counts). z.edges) c)

pub print_call_one : (profile count : ℕ) (bytes out : List ℕ) (size a : ℕ) (l : List ℕ) (m b : ℕ) (k : List ℕ) (n : ℕ)
    → PrintCall profile count bytes out size a l m → PrintCall profile count bytes out size b k n → (a ≡ b) × (l ≡ k) × (m ≡ n)
print_call_one profile count bytes out size a l m b k n x y =
    let e : x.rule ≡ y.rule = rule_is_one profile count bytes x.rule y.rule x.from y.from in
    let (f, w) = printing_one y.rule out l k x.printed y.printed (subst (λ (r : Rule). Printing r out l x.printed) e x.promised) y.promised in (
      x.number ∙ ap (λ (p : Answer ℕ). number_in (outcome p)) f ∙ sym y.number,
      w,
      x.left ∙ ap (λ (p : Answer ℕ). value_or (outcome p) size) f ∙ sym y.left,
    )
