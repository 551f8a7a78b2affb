-- Each promise admits one outcome only. Assumes nothing.
use Rattle.std.specs.Prelude.{◌≡◌, refl, List, ◌++◌, ℕ, ◌+◌, ◌<◌, length, take, drop, Result}
use Rattle.std.proofs.Common.{sym, ap, ap₂, ◌∙◌, subst, arith}
use Rattle.std.proofs.Math.Path.{subst⁻¹}
use Rattle.std.proofs.Math.Logic.{by_cases}
use Rattle.std.proofs.Math.Decide.{dec_lt}
use Rattle.laws.specs.Lists.{all_append}
use Rattle.answers.specs.Answers.{Outcome}
use Rattle.answers.specs.Refusals.{outcome}
use Rattle.answers.specs.declared.Refusal.{Refusal}
use Rattle.answers.specs.Laws.Outcomes.{outcome_one}
use Rattle.answers.specs.Laws.Told.{outcome_told}
use Rattle.automaton.specs.Tables.{Tables}
use Rattle.walking.specs.declared.lines.Progress.{Progress}
use Rattle.walking.specs.Series.{AnswerIs}
use Rattle.walking.specs.SeriesLaws.{answer_one}
use Rattle.walking.specs.Text.{newline, answer_text, Written}
use Rattle.walking.specs.Output.{Unbroken}
use Rattle.walking.specs.Progress.{between, kept}
use Rattle.walking.specs.ProgressLaws.{between_both, between_more, first_one, broken}
use Rattle.walking.specs.Promises.{EndsAt, behind, Answers, all, full, next, Takes, Tells, Answering, Carries, Puts}

-- ---- where a line ends

-- the first newline is not passed
passed : (bytes : List ℕ) (from e f : ℕ) → EndsAt bytes from e → EndsAt bytes from f → e < f → ⊥
passed bytes from e f p q h =
    let within = q.within in
    let (low, byte) = p.newline (omega arith) in
    let split : between from f bytes ≡ between from (e + 1) bytes ++ between (e + 1) f bytes = sym (between_both from (e + 1) f bytes (omega arith) (omega arith)) in
    let front = ((all_append (λ x. x ≡ newline → ⊥) (between from (e + 1) bytes) (between (e + 1) f bytes)).0 (subst Unbroken split q.unbroken)).0 in
    ((all_append (λ x. x ≡ newline → ⊥) (between from e bytes) _).0 (subst Unbroken (between_more from e bytes low (omega arith)) front)).1.0 byte

pub ends_one : (bytes : List ℕ) (from e f : ℕ) → EndsAt bytes from e → EndsAt bytes from f → e ≡ f
ends_one bytes from e f p q =
    by_cases (dec_lt e f) (λ h. absurd (passed bytes from e f p q h))
    (λ h. by_cases (dec_lt f e) (λ k. absurd (passed bytes from f e q p k)) (λ k. omega arith))

-- ---- the answers

answers_one : (Fits : List ℕ → Type 0) (bytes : List ℕ) (room : ℕ) (p : Progress) (x y : List ℕ) (q r : Progress)
    → Answers Fits bytes room p x q → Answers Fits bytes room p y r → (x ≡ y) × (q ≡ r)
answers_one Fits bytes room p x y q r (all u) (all v) = (refl, refl)
answers_one Fits bytes room p x y q r (all u) (full h) = (refl, refl)
answers_one Fits bytes room p x y q r (all u) (next l left a h e w i t more) = absurd (broken l left (drop p.at bytes) u (sym e))
answers_one Fits bytes room p x y q r (full h) (all u) = (refl, refl)
answers_one Fits bytes room p x y q r (full h) (full k) = (refl, refl)
answers_one Fits bytes room p x y q r (full h) (next l left a k e w i t more) = absurd (omega arith)
answers_one Fits bytes room p x y q r (next l left a h e w i t more) (all u) = absurd (broken l left (drop p.at bytes) u (sym e))
answers_one Fits bytes room p x y q r (next l left a h e w i t more) (full k) = absurd (omega arith)
answers_one Fits bytes room p x y q r (next {rest = rest} l left a h e w i t more) (next {rest = other} m after b k f v j s others) =
    let same : l ≡ m = (first_one l m left after w v (sym e ∙ f)).0 in
    let said : a ≡ b = answer_one Fits l a b i (subst⁻¹ (λ z. AnswerIs Fits z b) same j) in
    let (texts, ends) = answers_one Fits bytes room (behind p l a) rest other q r more
    (subst⁻¹ (λ z. Answers Fits bytes room z other r) (ap₂ (behind p) same said) others) in
    (t ∙ ap₂ (λ u z. answer_text p.number u ++ z) said texts ∙ sym s, ends)

written_one : (b : List ℕ) (at : ℕ) (x : List ℕ) (e f : ℕ) (c d : List ℕ) → Written b at x e c → Written b at x f d → (e ≡ f) × (c ≡ d)
written_one b at x e f c d v w =
    let same : e ≡ f = v.ends ∙ sym w.ends in
    (same, v.bytes ∙ ap (λ i. (take at b ++ x) ++ drop i b) same ∙ sym w.bytes)

takes_one : (Fits : List ℕ → Type 0) (bytes : List ℕ) (from : Progress) (before : List ℕ) (q r : Progress) (a b : List ℕ)
    → Takes Fits bytes from before q a → Takes Fits bytes from before r b → (q ≡ r) × (a ≡ b)
takes_one Fits bytes from before q r a b v w =
    let (texts, ends) = answers_one Fits bytes (length before) from v.text w.text q r v.answers w.answers in
    (ends, (written_one before from.end v.text q.end r.end a b v.written (subst⁻¹ (λ x. Written before from.end x r.end b) texts w.written)).1)

tells_one : (t : Tables) (bytes : List ℕ) (from : Progress) (before : List ℕ) (a b : List ℕ) (x y : Outcome Progress (Unit {0}))
    → Tells t bytes from before a x → Tells t bytes from before b y → (x ≡ y) × (a ≡ b)
tells_one t bytes from before = outcome_one (Tells t bytes from before)
    (λ a b q r (h, v) (k, w). takes_one _ bytes from before q r a b v w)
    (λ a b n m l k (e, f, h) (g, i, j). (e ∙ sym g, refl, f ∙ sym i))
    (λ a b q n l (h, v) (e, f, no-). no- h)

pub answering_one : (t : Tables) (bytes : List ℕ) (from : Progress) (before : List ℕ) (r q : Result Progress Refusal) (a b : List ℕ)
    → Answering t bytes from before r a → Answering t bytes from before q b → (r ≡ q) × (a ≡ b)
answering_one t bytes from before r q a b v w =
    let (same, after) = tells_one t bytes from before a b (outcome r) (outcome q) v.told w.told in
    (outcome_told r q same, after)

-- ---- bytes carried, texts

pub carries_one : (before : List ℕ) (at end r q : ℕ) (a b : List ℕ) → Carries before at end r a → Carries before at end q b → (r ≡ q) × (a ≡ b)
carries_one before at end r q a b v w =
    let same : r ≡ q = v.count ∙ sym w.count in
    (same, v.bytes ∙ ap (λ i. kept (between at end before) ++ drop i before) same ∙ sym w.bytes)

pub puts_one : (text : List ℕ) (room : ℕ) (before : List ℕ) (e f : ℕ) (a b : List ℕ) → Puts text room before e a → Puts text room before f b → (e ≡ f) × (a ≡ b)
puts_one text room before e f a b v w =
    by_cases (dec_lt (length before) room)
    (λ h. ((v.short h).0 ∙ sym (w.short h).0, (v.short h).1 ∙ sym (w.short h).1))
    (λ h. written_one before 0 text e f a b (v.put (omega arith)) (w.put (omega arith)))
