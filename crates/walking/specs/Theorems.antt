-- Each promise admits one outcome only, and the calls together are the walk over the automaton. Assumes nothing.
use Rattle.std.specs.Prelude.{◌≡◌, refl, Bool, true, false, List, [], ◌∷◌, ℕ, ◌^◌, ◌<◌, T, Result, Ok, Err}
use Rattle.std.proofs.Common.{sym, ap, ◌∙◌, subst, zero-le, div-add-mod', eqb→eq, pow_pos}
use Rattle.std.proofs.Math.Path.{subst⁻¹}
use Rattle.std.proofs.Math.Logic.Iff
use Rattle.std.proofs.Math.Pow.{pow-lt}
use Rattle.laws.specs.Decided.{Decides, decides_one}
use Rattle.answers.specs.Answers.{Outcome, refuses}
use Rattle.answers.specs.Refusals.{number_of, outcome}
use Rattle.answers.specs.declared.Refusal.{Refusal}
use Rattle.answers.specs.Laws.Outcomes.{outcome_one}
use Rattle.answers.specs.Laws.Told.{outcome_told}
use Rattle.laws.specs.Masks.{below_iff, bit, bit_beyond}
use Rattle.meaning.specs.Flags.{flags}
use Rattle.automaton.specs.Tables.{Tables, Good, accepting}
use Rattle.automaton.specs.Walk.{Accepts, moved, walked, begun, answer, closed}
use Rattle.automaton.proofs.WalkLaws.{state_means, walked_below, walked_none, walk_answers}
use Rattle.walking.specs.declared.Walk.{Walk}
use Rattle.walking.specs.Walks.{mask, walk_of, GoodWalk, Accepted}
use Rattle.walking.specs.Answers.{place, Told, Taken, Stepped, Answered, Closed, Judged, Along}

-- ---- one outcome only

module _ {A L : Type 0} (taken : Type 0) (left : L) (P : A → Type 0) (same : (a b : A) → P a → P b → a ≡ b) where
  pub told_one : (x y : Outcome A L) → Told taken left P x → Told taken left P y → x ≡ y
  told_one x y p q = (outcome_one {S = Unit {0}} (λ s. Told taken left P) (λ s t a b v w. (same a b v.1 w.1, refl))
      (λ s t m n k l v w. (v.0 ∙ sym w.0, v.1 ∙ sym w.1, refl)) (λ s t a n l v w. w.2 v.0) tt tt x y p q).0

-- what `step` answers and leaves is told by its outcome
place_told : (m n : Walk) (a b : Result (Unit {0}) Refusal) → place m a ≡ place n b → (a ≡ b) × (m ≡ n)
place_told m n (Ok u) (Ok v) e = (refl, (cc))
place_told m n (Ok u) (Err g) e = absurd (cc)
place_told m n (Err f) (Ok v) e = absurd (cc)
place_told m n (Err f) (Err g) e =
    let number : number_of f ≡ number_of g = cc in
    let walk : m ≡ n = cc in
    (outcome_told (Err f) (Err g) (ap (λ k. refuses k tt) number), walk)

-- two answers to one question are one
said_one : (taken claim : Type 0) (a b : Result Bool Refusal) → Told taken tt (λ x. Decides x claim) (outcome a) → Told taken tt (λ x. Decides x claim) (outcome b) → a ≡ b
said_one taken claim a b p q =
    outcome_told a b (told_one taken tt (λ x. Decides x claim) (decides_one claim) (outcome a) (outcome b) p q)

pub step_one : (t : Tables) (m : Walk) (d : ℕ) (x y : Walk) (a b : Result (Unit {0}) Refusal) → Stepped t m d x a → Stepped t m d y b → (a ≡ b) × (x ≡ y)
step_one t m d x y a b p q =
    place_told x y a b (told_one (Taken t m) m (λ n. n ≡ walk_of (moved flags t (mask m) d)) (λ x y e f. e ∙ sym f) (place x a) (place y b) p.told q.told)

pub answer_one : (t : Tables) (m : Walk) (a b : Result Bool Refusal) → Answered t m a → Answered t m b → a ≡ b
answer_one t m a b p q = said_one (Taken t m) (T (answer t (mask m))) a b p.told q.told

pub closed_one : (t : Tables) (m : Walk) (a b : Result Bool Refusal) → Closed t m a → Closed t m b → a ≡ b
closed_one t m a b p q = said_one (Taken t m) (T (closed (mask m))) a b p.told q.told

pub judge_one : (t : Tables) (s : List ℕ) (a b : Result Bool Refusal) → Judged t s a → Judged t s b → a ≡ b
judge_one t s a b p q = said_one (Good flags t) (Accepted t s) a b p.told q.told

-- ---- the calls together are the automaton

-- a walk is its set of states
pub mask_walk : (s : ℕ) → mask (walk_of s) ≡ s
mask_walk s = div-add-mod' s (2 ^ 64)

along_walked : (t : Tables) (m : Walk) (s : List ℕ) (n : Walk) → Along t m s n → mask n ≡ walked flags t (mask m) s
along_walked t m [] n e = ap mask (sym e)
along_walked t m (d ∷ s) n (next, step, rest) =
    along_walked t next s n rest ∙ ap (λ x. walked flags t x s) (ap mask step.told.1 ∙ mask_walk (moved flags t (mask m) d))

-- begun, stepped along a series and asked, a walk gives the answer for the whole series
pub steps_judge : (t : Tables) (s : List ℕ) (n : Walk) (v : Result Bool Refusal) → Along t (walk_of begun) s n → Answered t n v → Judged t s v
steps_judge t s n v along asked = record { told = go v asked.told }
  where
    at : mask n ≡ walked flags t begun s
    at = along_walked t (walk_of begun) s n along

    good_walk : Good flags t → GoodWalk t.states n
    good_walk good = record {
      below = (below_iff t.states (mask n)).0 (subst⁻¹ (λ x. x < 2 ^ t.states) at (walked_below flags t begun s (pow-lt good.some_state)));
    }

    go : (v : Result Bool Refusal) → Told (Taken t n) tt (λ said. Decides said (T (answer t (mask n)))) (outcome v)
        → Told (Good flags t) tt (λ said. Decides said (Accepted t s)) (outcome v)
    go (Ok true) (taken, told) = (taken.0, subst (λ x. T (answer t x)) at told)
    go (Ok false) (taken, told) = (taken.0, λ a. told (subst⁻¹ (λ x. T (answer t x)) at a))
    go (Err f) (e, l, bad) = (e, l, λ good. bad (good, good_walk good))

-- the answer for a series is that of the automaton that the tables describe, whoever made them: yes exactly when state 0 accepts the series
pub judged_accepts : (t : Tables) (s : List ℕ) (r : Result Bool Refusal) → Judged t s r → Told (Good flags t) tt (λ said. Decides said (Accepts flags t 0 s)) (outcome r)
judged_accepts t s r j = go r j.told
  where
    go : (v : Result Bool Refusal) → Told (Good flags t) tt (λ said. Decides said (Accepted t s)) (outcome v)
        → Told (Good flags t) tt (λ said. Decides said (Accepts flags t 0 s)) (outcome v)
    go (Ok true) (good, told) = (good, (walk_answers flags t good s).0 told)
    go (Ok false) (good, told) = (good, λ a. told ((walk_answers flags t good s).1 a))
    go (Err f) x = x

-- a walk that is closed stays closed and says no, whatever dates come
pub closed_stays : (t : Tables) (m : Walk) (s : List ℕ) (n : Walk) → Closed t m (Ok true) → Along t m s n
    → Closed t n (Ok true) × Answered t n (Ok false)
closed_stays t m s n c along = (
  record { told = (taken, subst⁻¹ (λ x. T (closed x)) at tt) },
  record { told = (taken, λ u. let (q, l, h, (p, v)) = (state_means t (mask n) (accepting t) _ (λ q k. Iff.rfl)).0 u in empty q p) },
)
  where
    at : mask n ≡ 0
    at = along_walked t m s n along ∙ ap (λ x. walked flags t x s) (eqb→eq (mask m) 0 c.told.1) ∙ walked_none flags t s

    empty : (q : ℕ) → T (bit (mask n) q) → ⊥
    empty q p = subst T (bit_beyond 0 (mask n) q (subst⁻¹ (λ x. x < 2 ^ 0) at (pow_pos 0)) zero-le) p

    taken : Taken t n
    taken = (c.told.0.0, record { below = (below_iff t.states (mask n)).0 (subst⁻¹ (λ x. x < 2 ^ t.states) at (pow_pos t.states)) })
