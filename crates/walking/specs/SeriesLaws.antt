-- Laws of series as text: one text stands for one series, and a line has one answer. Assumes nothing.
use Rattle.std.specs.Prelude.{◌≡◌, refl, List, [], ◌∷◌, ◌++◌, ℕ, ◌+◌, ◌*◌, ◌/◌, ◌%◌, ◌^◌, ◌≤◌, ◌<◌, length}
use Rattle.std.proofs.Common.{sym, ap, ap₂, ◌∙◌, subst, div-add-mod', div-lt_iff_lt-mul, mod-lt, arith, lt-ltb, le-ltb}
use Rattle.std.proofs.Math.Logic.{by_cases}
use Rattle.std.proofs.Math.Decide.{dec_lt}
use Rattle.std.proofs.Math.Arith.{digits_div, digits_mod}
use Rattle.laws.specs.Lists.{All, all_append}
use Rattle.meaning.specs.Flags.{flags}
use Rattle.automaton.specs.Fit.{Dates}
use Rattle.walking.specs.declared.lines.Answer.{Answer}
use Rattle.walking.specs.declared.lines.Answer.TheVariants.{Yes, No, Bad}
use Rattle.walking.specs.Series.{hex_digit, series_text, IsSeries, AnswerIs}
use Rattle.walking.specs.Reading.{byte_count}

-- ---- digits

low : (v : ℕ) → v < 10 → hex_digit v ≡ 48 + v
low v h = rw (lt-ltb v 10 h)

high : (v : ℕ) → (v < 10 → ⊥) → hex_digit v ≡ 87 + v
high v h = let k : 10 ≤ v = omega arith in rw (le-ltb v 10 k)

pub digit_one : (v w : ℕ) → v < 16 → w < 16 → hex_digit v ≡ hex_digit w → v ≡ w
digit_one v w hv hw e =
    by_cases (dec_lt v 10)
    (λ a. by_cases (dec_lt w 10) (λ b. omega (arith, low v a, low w b)) (λ b. omega (arith, low v a, high w b)))
    (λ a. by_cases (dec_lt w 10) (λ b. omega (arith, high v a, low w b)) (λ b. omega (arith, high v a, high w b)))

pub digit_byte : (v : ℕ) → v < 16 → hex_digit v < byte_count
digit_byte v h = by_cases (dec_lt v 10) (λ a. omega (arith, low v a)) (λ a. omega (arith, high v a))

pub date_high : (d : ℕ) → d < 2 ^ flags → d / 16 < 16
date_high d h = (div-lt_iff_lt-mul {k = 16} {x = d} {y = 16} (omega arith)).1 h

pub date_low : (d : ℕ) → d % 16 < 16
date_low d = mod-lt d (omega arith)

-- ---- texts

pub series_append : (s u : List ℕ) → series_text (s ++ u) ≡ series_text s ++ series_text u
series_append [] u = refl
series_append (d ∷ s) u = ap (λ x. hex_digit (d / 16) ∷ hex_digit (d % 16) ∷ x) (series_append s u)

-- two digits make a date
pub series_more : (s : List ℕ) (h v : ℕ) → v < 16 → series_text (s ++ ((h * 16 + v) ∷ [])) ≡ (series_text s ++ (hex_digit h ∷ [])) ++ (hex_digit v ∷ [])
series_more [] h v k = ap₂ (λ x y. hex_digit x ∷ hex_digit y ∷ []) (digits_div h k) (digits_mod h k)
series_more (d ∷ s) h v k = ap (λ x. hex_digit (d / 16) ∷ hex_digit (d % 16) ∷ x) (series_more s h v k)

pub series_length : (s : List ℕ) → length (series_text s) ≡ 2 * length s
series_length [] = refl
series_length (d ∷ s) = let h = series_length s in omega arith

-- a text of dates is digits alone
abbrev pub IsDigit : ℕ → Type 0
IsDigit x = (v : ℕ) × (v < 16) × (x ≡ hex_digit v)

pub series_digits : (s : List ℕ) → Dates flags s → All IsDigit (series_text s)
series_digits [] h = tt
series_digits (d ∷ s) h = ((d / 16, date_high d h.0, refl), ((d % 16, date_low d, refl), series_digits s h.1))

date_one : (d e : ℕ) → d / 16 ≡ e / 16 → d % 16 ≡ e % 16 → d ≡ e
date_one d e p q = sym (div-add-mod' d 16) ∙ ap₂ (λ x y. x * 16 + y) p q ∙ div-add-mod' e 16

pub series_one : (s u : List ℕ) → Dates flags s → Dates flags u → series_text s ≡ series_text u → s ≡ u
series_one [] [] hs hu e = refl
series_one [] (d ∷ u) hs hu e = absurd (let k = ap length e in omega arith)
series_one (d ∷ s) [] hs hu e = absurd (let k = ap length e in omega arith)
series_one (d ∷ s) (f ∷ u) hs hu e =
    let e₁ : hex_digit (d / 16) ≡ hex_digit (f / 16) = cc in
    let e₂ : hex_digit (d % 16) ≡ hex_digit (f % 16) = cc in
    let e₃ : series_text s ≡ series_text u = cc in
    ap₂ (λ x y. x ∷ y)
    (date_one d f (digit_one (d / 16) (f / 16) (date_high d hs.0) (date_high f hu.0) e₁) (digit_one (d % 16) (f % 16) (date_low d) (date_low f) e₂))
    (series_one s u hs.1 hu.1 e₃)

-- a line is one series at most
pub is_series_one : (line s u : List ℕ) → IsSeries line s → IsSeries line u → s ≡ u
is_series_one line s u p q = series_one s u p.dates q.dates (sym p.text ∙ q.text)

-- ---- what is no series

pub line_length : (line s : List ℕ) → IsSeries line s → length line ≡ 2 * length s
line_length line s i = ap length i.text ∙ series_length s

-- a byte that is no digit
pub no_digit : (b c s : List ℕ) (x : ℕ) → (IsDigit x → ⊥) → IsSeries (b ++ x ∷ c) s → ⊥
no_digit b c s x h i =
    let digits : All IsDigit (b ++ x ∷ c) = subst (All IsDigit) (sym i.text) (series_digits s i.dates) in
    h ((all_append IsDigit b (x ∷ c)).0 digits).1.0

-- ---- a line has one answer

pub answer_one : (Fits : List ℕ → Type 0) (line : List ℕ) (a b : Answer) → AnswerIs Fits line a → AnswerIs Fits line b → a ≡ b
answer_one Fits line Yes Yes p q = refl
answer_one Fits line Yes No (s, is, y) (u, iu, n) = absurd (n (subst Fits (is_series_one line s u is iu) y))
answer_one Fits line Yes Bad (s, is, y) q = absurd (q s is)
answer_one Fits line No Yes (s, is, n) (u, iu, y) = absurd (n (subst Fits (is_series_one line u s iu is) y))
answer_one Fits line No No p q = refl
answer_one Fits line No Bad (s, is, n) q = absurd (q s is)
answer_one Fits line Bad Yes p (u, iu, y) = absurd (p u iu)
answer_one Fits line Bad No p (u, iu, n) = absurd (p u iu)
answer_one Fits line Bad Bad p q = refl
