-- Some refused texts, and the one line that the program prints for each, under either profile. Assumes nothing.
use Rattle.std.specs.Prelude.{◌≡◌, refl, List, [], ◌∷◌, ◌++◌, map, ℕ, ◌-◌, ◌≤◌, length, replicate}
use Rattle.std.proofs.Common.{ap, arith}
use Rattle.meaning.specs.declared.Profile.{Profile}
use Rattle.reading.specs.declared.Wanted.TheVariants.{Operand, Operator, Arrow}
use Rattle.reading.specs.Grammar.{Sign, flag, leaf, prefix, next, closing, sign_of, not_sound}
use Rattle.reading.specs.Promise.{wanted_number}
use Rattle.reading.specs.Reader.{Why, unexpected, missing, exceeding, number_by, wanted_by, refused, run, start, placed}
use Rattle.reading.specs.Exact.{refused_exact, refused_says}
use Rattle.walking.specs.Text.{decimal, decimal_in, refused_text}
use Rattle.demands.specs.Program.{rule_line, Prints}
use Rattle.demands.specs.Program as program
use Rattle.demands.proofs.ProgramLaws.{prints_one}

-- this text alone is printed
abbrev PrintsOnly : Profile → List ℕ → List ℕ → Type 0
PrintsOnly π input output = Prints π input output × ((other : List ℕ) → Prints π input other → other ≡ output)

-- the reader stops for a reason before the signs t
stops : (π : Profile) (input : List ℕ) (y : Why) (t : List Sign) → length (rule_line input) ≤ 1024 → run 32 start (map sign_of (rule_line input)) ≡ refused y t
    → PrintsOnly π input (refused_text (number_by y) (length (rule_line input) - length t) (wanted_number (wanted_by y)))
stops π input y t short e =
    let text = rule_line input in
    let k = length text - length t in
    let x = program.refused (wanted_by y) (not_sound short ((refused_exact 32 text (number_by y) k).0 (ap (placed text) e))) (refused_says 32 text y t e) in
    (x, λ other h. prints_one π input other _ h x)

-- ---- in each statement the codes of the input, then those of the line that it prints: "refused ", the rest of the line, and 10, its newline

-- "refused ", with its blank
abbrev refused_word : List ℕ
refused_word = 114 ∷ 101 ∷ 102 ∷ 117 ∷ 115 ∷ 101 ∷ 100 ∷ 32 ∷ []

-- `a)` prints `refused 2 1 operator`
pub prints_operator : (π : Profile) → PrintsOnly π (97 ∷ 41 ∷ []) (refused_word ++ 50 ∷ 32 ∷ 49 ∷ 32 ∷ 111 ∷ 112 ∷ 101 ∷ 114 ∷ 97 ∷ 116 ∷ 111 ∷ 114 ∷ 10 ∷ [])
unfolding sign_of decimal decimal_in
prints_operator π = stops π (97 ∷ 41 ∷ []) (unexpected Operator) (closing ∷ []) (omega arith) refl

-- an empty input prints `refused 3 0 operand`
pub prints_operand : (π : Profile) → PrintsOnly π [] (refused_word ++ 51 ∷ 32 ∷ 48 ∷ 32 ∷ 111 ∷ 112 ∷ 101 ∷ 114 ∷ 97 ∷ 110 ∷ 100 ∷ 10 ∷ [])
unfolding sign_of decimal decimal_in
prints_operand π = stops π [] (missing Operand) [] (omega arith) refl

-- `a -b` prints `refused 2 3 arrow`
pub prints_arrow : (π : Profile) → PrintsOnly π (97 ∷ 32 ∷ 45 ∷ 98 ∷ []) (refused_word ++ 50 ∷ 32 ∷ 51 ∷ 32 ∷ 97 ∷ 114 ∷ 114 ∷ 111 ∷ 119 ∷ 10 ∷ [])
unfolding sign_of decimal decimal_in
prints_arrow π = stops π (97 ∷ 32 ∷ 45 ∷ 98 ∷ []) (unexpected Arrow) (leaf (flag 1) ∷ []) (omega arith) refl

-- 33 `X` (88) before `a` print `refused 4 32`, and no word
pub prints_no_word : (π : Profile) → PrintsOnly π (replicate 33 88 ++ (97 ∷ [])) (refused_word ++ 52 ∷ 32 ∷ 51 ∷ 50 ∷ 10 ∷ [])
unfolding sign_of decimal decimal_in
prints_no_word π = stops π (replicate 33 88 ++ (97 ∷ [])) exceeding (prefix next ∷ leaf (flag 0) ∷ []) (omega arith) refl
