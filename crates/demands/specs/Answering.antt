-- Every line has an answer, and every input a text of answers, where it is decided which series fit. Assumes nothing.
use Rattle.std.specs.Prelude.{◌≡◌, refl, ◌⊎◌, List, [], ◌∷◌, ◌++◌, ℕ, zero, suc, ◌+◌, ◌*◌, ◌/◌, ◌%◌, ◌^◌, ◌≤◌, ◌<◌, length}
use Rattle.std.proofs.Common.{ap, ◌∙◌, sym, inl, inr, ⊎_elim, zero-le, suc-le-suc, le_of_suc-le-suc, not-suc-le-zero, eq-or-lt_of_le, arith}
use Rattle.std.proofs.Math.Decide.{ℕ_discrete}
use Rattle.std.proofs.Math.Arith.{digits_div, digits_mod}
use Rattle.meaning.specs.Flags.{flags}
use Rattle.meaning.specs.Formula.{Series}
use Rattle.automaton.specs.Fit.{Dates}
use Rattle.walking.specs.declared.lines.Answer.{Answer}
use Rattle.walking.specs.declared.lines.Answer.TheVariants.{Yes, No, Bad}
use Rattle.walking.specs.Series.{hex_digit, series_text, IsSeries, AnswerIs}
use Rattle.walking.specs.Text.{newline, answer_text}
use Rattle.walking.specs.Output.{Lines, last_line_of, AnswersAre, Answered}

-- ---- a line is a series or none

abbrev Digit : ℕ → ℕ → Type 0
Digit n x = (v : ℕ) × (v < n) × (x ≡ hex_digit v)

unfoldable pub digit? : (n x : ℕ) → Digit n x ⊎ (Digit n x → ⊥)
digit? zero x = inr (λ (v, h, e). not-suc-le-zero h)
digit? (suc n) x = go (ℕ_discrete x (hex_digit n)) (digit? n x)
  where
    go : Dec (x ≡ hex_digit n) → Digit n x ⊎ (Digit n x → ⊥) → Digit (suc n) x ⊎ (Digit (suc n) x → ⊥)
    go (yes e) d = inl (n, omega arith, e)
    go (no ne) (inl (v, h, e)) = inl (v, omega arith, e)
    go (no ne) (inr d) = inr (λ (v, h, e). ⊎_elim (λ (k : v ≡ n). ne (e ∙ ap hex_digit k)) (λ k. d (v, k, e)) (eq-or-lt_of_le (le_of_suc-le-suc h)))

-- the line is a series of at most n dates
abbrev Written : ℕ → List ℕ → Type 0
Written n line = (s : List ℕ) × (line ≡ series_text s) × Dates flags s × (length s ≤ n)

-- its first date, and the rest
module _ (n x y : ℕ) (line : List ℕ) where
  pub first_date : Written (suc n) (x ∷ y ∷ line) → Digit 16 x × Digit 16 y × Written n line
  first_date ([], e, h, k) = absurd (let l = ap length e in omega arith)
  first_date (d ∷ s, e, h, k) =
      let small : d < 2 ^ flags = h.0 in
      ((d / 16, omega arith, cc), (d % 16, omega arith, cc), (s, cc, h.1, le_of_suc-le-suc k))

  unfoldable pub date_first : Digit 16 x ⊎ (Digit 16 x → ⊥) → Digit 16 y ⊎ (Digit 16 y → ⊥) → Written n line ⊎ (Written n line → ⊥)
      → Written (suc n) (x ∷ y ∷ line) ⊎ (Written (suc n) (x ∷ y ∷ line) → ⊥)
  date_first (inl (v, a, e)) (inl (w, b, f)) (inl (s, g, h, k)) =
      let p : x ≡ hex_digit ((v * 16 + w) / 16) = e ∙ ap hex_digit (sym (digits_div v b)) in
      let q : y ≡ hex_digit ((v * 16 + w) % 16) = f ∙ ap hex_digit (sym (digits_mod v b)) in
      let small : v * 16 + w < 2 ^ flags = omega arith in
      inl ((v * 16 + w) ∷ s, (λ i. p i ∷ q i ∷ g i), (small, h), suc-le-suc k)
  date_first (inr d) y? s? = inr (λ z. d (first_date z).0)
  date_first (inl c) (inr d) s? = inr (λ z. d (first_date z).1)
  date_first (inl c) (inl d) (inr s) = inr (λ z. s (first_date z).2)

unfoldable pub written? : (n : ℕ) (line : List ℕ) → Written n line ⊎ (Written n line → ⊥)
written? n [] = inl ([], refl, tt, zero-le)
written? n (x ∷ []) = inr (λ (s, e, h, k). odd s e)
  where
    odd : (s : List ℕ) → x ∷ [] ≡ series_text s → ⊥
    odd [] e = let l = ap length e in omega arith
    odd (d ∷ s) e = let l = ap length e in omega arith
written? zero (x ∷ y ∷ line) = inr (λ (s, e, h, k). none s e k)
  where
    none : (s : List ℕ) → x ∷ y ∷ line ≡ series_text s → length s ≤ 0 → ⊥
    none [] e k = let l = ap length e in omega arith
    none (d ∷ s) e k = not-suc-le-zero k
written? (suc n) (x ∷ y ∷ line) = date_first n x y line (digit? 16 x) (digit? 16 y) (written? n line)

-- ---- bytes are lines, and each has its answer

unfoldable pub lines_of : (bytes : List ℕ) → (lines : List (List ℕ)) × (left : List ℕ) × Lines bytes lines left
lines_of [] = ([], [], record { text = refl; unbroken = tt; rest = tt })
lines_of (x ∷ bytes) = let (ls, left, h) = lines_of bytes in go (ℕ_discrete x newline) ls left h
  where
    go : Dec (x ≡ newline) → (ls : List (List ℕ)) (left : List ℕ) → Lines bytes ls left → (lines : List (List ℕ)) × (rest : List ℕ) × Lines (x ∷ bytes) lines rest
    go (yes e) ls left h = ([] ∷ ls, left, record { text = (λ i. e i ∷ h.text i); unbroken = (tt, h.unbroken); rest = h.rest })
    go (no ne) [] left h = ([], x ∷ left, record { text = ap (λ l. x ∷ l) h.text; unbroken = tt; rest = (ne, h.rest) })
    go (no ne) (l ∷ ls) left h =
        ((x ∷ l) ∷ ls, left, record { text = ap (λ l. x ∷ l) h.text; unbroken = ((ne, h.unbroken.0), h.unbroken.1); rest = h.rest })

module _ (P : Series → Type 0) (p? : (s : Series) → Dec (P s)) where
  unfoldable pub answer_of : (line : List ℕ) → (a : Answer) × AnswerIs P line a
  answer_of line = go (written? 4096 line)
    where
      series : (s : Series) → IsSeries line s → Dec (P s) → (a : Answer) × AnswerIs P line a
      series s i (yes p) = (Yes, (s, i, p))
      series s i (no n) = (No, (s, i, n))

      go : Written 4096 line ⊎ (Written 4096 line → ⊥) → (a : Answer) × AnswerIs P line a
      go (inl (s, e, h, k)) = series s (record { text = e; dates = h; few = k }) (p? s)
      go (inr n) = (Bad, λ s i. n (s, i.text, i.dates, i.few))

  unfoldable pub answers_of : (n : ℕ) (lines : List (List ℕ)) → (text : List ℕ) × AnswersAre P n lines text
  answers_of n [] = ([], refl)
  answers_of n (l ∷ ls) =
      let (a, p) = answer_of l in
      let (rest, more) = answers_of (suc n) ls in
      (answer_text n a ++ rest, (a, rest, p, refl, more))

  unfoldable pub answered_of : (input : List ℕ) → (text : List ℕ) × Answered P input text
  answered_of input =
      let (ls, left, h) = lines_of input in
      let (text, a) = answers_of 1 (ls ++ last_line_of left) in
      (text, record { lines = ls; left = left; are = h; answers = a })
