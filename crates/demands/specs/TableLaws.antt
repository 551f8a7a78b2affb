-- What the calls on built tables answer, by what the rule says. Assumes nothing.
use Rattle.std.specs.Prelude.{◌≡◌, refl, ◌↔◌, List, [], ◌∷◌, ℕ, ◌^◌, ◌≤◌, ◌<◌, T, length, Option, Bool, Ok, false, true, Err}
use Rattle.std.proofs.Common.{subst, inl, inr, arith, eqb→eq}
use Rattle.std.proofs.Math.Path.{subst⁻¹}
use Rattle.std.proofs.Math.Logic.Iff
use Rattle.std.proofs.Math.Pow.{pow-lt}
use Rattle.laws.specs.Masks.{has, has_none, same_members}
use Rattle.laws.specs.Decided.{Decides, eq_means}
use Rattle.answers.specs.Answers.{Outcome, gives, refuses}
use Rattle.answers.specs.Refusals.{Answer, outcome}
use Rattle.meaning.specs.Flags.{flags}
use Rattle.meaning.specs.Formula.{Series}
use Rattle.automaton.specs.Tables.{Tables, Good}
use Rattle.automaton.specs.Walk.{Accepts, moved, begun, closed}
use Rattle.automaton.proofs.WalkLaws.{moved_below}
use Rattle.walking.specs.Walks.{mask, walk_of}
use Rattle.walking.specs.Answers.{Taken, Told, Along, Closed, Judged}
use Rattle.walking.specs.MovingLaws.{small_good}
use Rattle.walking.specs.Theorems.{mask_walk, judged_accepts, steps_judge}
use Rattle.walking.specs.declared.Walk.{Walk}
use Rattle.walking.specs.FitAnswers.{Shown, room}
use Rattle.walking.specs.FitAnswers as fitting
use Rattle.demands.specs.Fits.{FitOf}
use Rattle.demands.specs.FitLaws.{fit_by}
use Rattle.demands.specs.Demand2.{YesExactly}
use Rattle.demands.specs.Demand3.{ByTables}

-- a verdict on what is taken says yes exactly where P
says_by : (taken P : Type 0) → taken → (v : Answer Bool) → Told taken tt (λ said. Decides said P) (outcome v) → YesExactly (Ok true) (Ok false) v P
says_by taken P x (Ok true) h = ((λ e. h.1, λ p. refl), (λ e. absurd (let z : ◌≡◌ {A = ℕ} 0 1 = cc in omega arith), λ n. absurd (n h.1)))
says_by taken P x (Ok false) h = ((λ e. absurd (let z : ◌≡◌ {A = ℕ} 0 1 = cc in omega arith), λ p. absurd (h.1 p)), (λ e. h.1, λ n. refl))
says_by taken P x (Err f) h = absurd (h.2 x)

-- ---- a walk that is taken goes on along every series

small_taken : (t : Tables) (s : ℕ) → Good flags t → s < 2 ^ t.states → Taken t (walk_of s)
small_taken t s good h =
    (good, small_good t.states (walk_of s) (subst⁻¹ (λ x. x < 2 ^ t.states) (mask_walk s) h))

pub goes_on : (t : Tables) (m : Walk) → Taken t m → (z : Series) → (n : Walk) × Along t m z n
goes_on t m taken [] = (m, refl)
goes_on t m taken (d ∷ z) =
    let s = moved flags t (mask m) d in
    let (n, rest) = goes_on t (walk_of s) (small_taken t s taken.0 (moved_below flags t (mask m) d)) z in
    (n, (walk_of s, record { told = (taken, refl) }, rest))

begun_taken : (t : Tables) → Good flags t → Taken t (walk_of begun)
begun_taken t good = small_taken t begun good (pow-lt good.some_state)

-- ---- good tables that accept exactly the series that fit answer by which fit

module _ (Fits : Series → Type 0) (t : Tables) (good : Good flags t) (agrees : (z : Series) → Accepts flags t 0 z ↔ Fits z) where
  judges : (z : Series) (v : Answer Bool) → Judged t z v → YesExactly (Ok true) (Ok false) v (Fits z)
  judges z v j =
      let (y, n) = says_by (Good flags t) _ good v (judged_accepts t z v j) in
      (Iff.trans y (agrees z), Iff.trans n (Iff.not (agrees z)))

  shows : (before after : List ℕ) → room ≤ length before → (x : Outcome (Option ℕ) (Unit {0})) → fitting.Told t before after x
      → (n : Option ℕ) × (o : Option Series) × (x ≡ gives n) × FitOf Fits o × Shown before after o n
  shows before after h (gives n) (long, g, (o, f, s)) = (n, o, refl, fit_by Fits t agrees o f, s)
  shows before after h (refuses k l) (same, inl (e, short)) = absurd (omega arith)
  shows before after h (refuses k l) (same, inr (e, long, bad)) = absurd (bad good)

  pub by_tables : ByTables Fits t
  by_tables = record {
    good = good;
    goes_on = goes_on t (walk_of begun) (begun_taken t good);
    judges = judges;
    walks = λ z m v along asked. judges z v (steps_judge t z m v along asked);
    shows = λ before after h r x. shows before after h (outcome r) x.told;
  }

-- ---- a walk is closed exactly when no state is left

none_left : (s : ℕ) → T (closed s) ↔ ((q : ℕ) → ¬ has s q)
none_left s = (
  λ u q h. has_none q (subst (λ x. has x q) (eqb→eq s 0 u) h),
  λ f. (eq_means s 0).1 (same_members s 0 (λ q. (λ h. absurd (f q h), λ h. absurd (has_none q h)))),
)

pub closed_exactly : (t : Tables) (m : Walk) → Taken t m → (v : Answer Bool) → Closed t m v → YesExactly (Ok true) (Ok false) v ((q : ℕ) → ¬ has (mask m) q)
closed_exactly t m taken v c =
    let (y, n) = says_by (Taken t m) _ taken v c.told in
    (Iff.trans y (none_left (mask m)), Iff.trans n (Iff.not (none_left (mask m))))
