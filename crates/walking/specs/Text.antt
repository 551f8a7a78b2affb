-- What the program prints. A text is a list of bytes. Definitions, to be believed. Assumes nothing.
use Rattle.std.specs.Prelude.{cond, List, [], ◌∷◌, ◌++◌, ◌≡◌, ℕ, zero, suc, ◌+◌, ◌/◌, ◌%◌, ◌≤◌, ltb, eqb, length, take, drop}
use Rattle.walking.specs.Series.{series_text}
use Rattle.walking.specs.declared.lines.Answer.{Answer}
use Rattle.walking.specs.declared.lines.Answer.TheVariants.{Yes, No, Bad}

abbrev pub newline : ℕ
newline = 10

-- the decimal digits of n, which has at most as many as there are turns
unfoldable pub decimal_in : ℕ → ℕ → List ℕ
decimal_in zero n = []
decimal_in (suc turns) n = cond (ltb n 10) ((48 + n) ∷ []) (decimal_in turns (n / 10) ++ ((48 + n % 10) ∷ []))

unfoldable pub decimal : ℕ → List ℕ
decimal n = decimal_in (suc n) n

-- " yes", " no", " bad", and the line's end
abbrev pub answer_word : Answer → List ℕ
answer_word Yes = 32 ∷ 121 ∷ 101 ∷ 115 ∷ newline ∷ []
answer_word No = 32 ∷ 110 ∷ 111 ∷ newline ∷ []
answer_word Bad = 32 ∷ 98 ∷ 97 ∷ 100 ∷ newline ∷ []

-- a series' number, and its answer
abbrev pub answer_text : ℕ → Answer → List ℕ
answer_text n a = decimal n ++ answer_word a

-- words, and then a number
abbrev pub numbered : List ℕ → ℕ → List ℕ
numbered words n = words ++ decimal n

-- "rule STATES states EDGES edges"
abbrev pub counts_text : ℕ → ℕ → List ℕ
counts_text states edges =
    (numbered (114 ∷ 117 ∷ 108 ∷ 101 ∷ 32 ∷ []) states ++ numbered (32 ∷ 115 ∷ 116 ∷ 97 ∷ 116 ∷ 101 ∷ 115 ∷ 32 ∷ []) edges)
    ++ (32 ∷ 101 ∷ 100 ∷ 103 ∷ 101 ∷ 115 ∷ newline ∷ [])

-- " operand", " operator" or " arrow" for 1, 2 or 3 as the number of what is wanted, and no word for any other; and the line's end
abbrev pub wanted_word : ℕ → List ℕ
wanted_word wanted =
    cond (eqb wanted 1) (32 ∷ 111 ∷ 112 ∷ 101 ∷ 114 ∷ 97 ∷ 110 ∷ 100 ∷ newline ∷ [])
    (cond (eqb wanted 2) (32 ∷ 111 ∷ 112 ∷ 101 ∷ 114 ∷ 97 ∷ 116 ∷ 111 ∷ 114 ∷ newline ∷ [])
    (cond (eqb wanted 3) (32 ∷ 97 ∷ 114 ∷ 114 ∷ 111 ∷ 119 ∷ newline ∷ []) (newline ∷ [])))

-- "refused NUMBER PLACE", and what is wanted there
abbrev pub refused_text : ℕ → ℕ → ℕ → List ℕ
refused_text number place wanted =
    (numbered (114 ∷ 101 ∷ 102 ∷ 117 ∷ 115 ∷ 101 ∷ 100 ∷ 32 ∷ []) number ++ numbered (32 ∷ []) place) ++ wanted_word wanted

-- "fit none", where nothing fits
abbrev pub no_fit_text : List ℕ
no_fit_text = 102 ∷ 105 ∷ 116 ∷ 32 ∷ 110 ∷ 111 ∷ 110 ∷ 101 ∷ newline ∷ []

-- the dates of a fit, or "empty" where it has none
abbrev pub dates_text : List ℕ → List ℕ
dates_text [] = 101 ∷ 109 ∷ 112 ∷ 116 ∷ 121 ∷ []
dates_text (d ∷ s) = series_text (d ∷ s)

-- "fit DATES"
abbrev pub fit_text : List ℕ → List ℕ
fit_text s = ((102 ∷ 105 ∷ 116 ∷ 32 ∷ []) ++ dates_text s) ++ (newline ∷ [])

-- `after` is `before` with the text from `at` up to, not including, `end`, and nothing else changed
pub record Written (before : List ℕ) (at : ℕ) (text : List ℕ) (end : ℕ) (after : List ℕ) : Type 0 where
  pub ends : end ≡ at + length text
  pub within : end ≤ length before
  pub long : length after ≡ length before
  pub bytes : after ≡ (take at before ++ text) ++ drop end before
