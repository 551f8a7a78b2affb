-- Texts of formulas, computed: where parentheses stand, and how `F` and `G` are written. Assumes nothing.
use Rattle.std.specs.Prelude.{◌≡◌, refl, [], ◌∷◌, ℕ}
use Rattle.std.proofs.Common.{inr, arith}
use Rattle.meaning.specs.Formula.{Formula, flag, not_flag, one, zero, and, or, next, weak, until, release}
use Rattle.printing.specs.Text.{written_as, text_of}
use Rattle.printing.specs.Spelling.{Known}
use Rattle.printing.specs.Fewest.{depth_printed}
use Rattle.printing.specs.Printing.{Excessive}

abbrev a : Formula
a = flag 0

abbrev b : Formula
b = flag 1

abbrev c : Formula
c = flag 2

-- `(1 U a) U b` is written `F a U b`
finally_until : text_of (until (until one a) b) ≡ 70 ∷ 32 ∷ 97 ∷ 32 ∷ 85 ∷ 32 ∷ 98 ∷ []
unfolding text_of
finally_until = refl

-- `1 U a U b` is written `F (a U b)`
finally_of_until : text_of (until one (until a b)) ≡ 70 ∷ 32 ∷ 40 ∷ 97 ∷ 32 ∷ 85 ∷ 32 ∷ 98 ∷ 41 ∷ []
unfolding text_of
finally_of_until = refl

-- `0 R 1 U !a` is written `G F !a`
globally_finally : text_of (release zero (until one (not_flag 0))) ≡ 71 ∷ 32 ∷ 70 ∷ 32 ∷ 33 ∷ 97 ∷ []
unfolding text_of
globally_finally = refl

-- `0 U a` and `1 R a` stay as they are
zero_until : text_of (until zero a) ≡ 48 ∷ 32 ∷ 85 ∷ 32 ∷ 97 ∷ []
unfolding text_of
zero_until = refl

one_release : text_of (release one a) ≡ 49 ∷ 32 ∷ 82 ∷ 32 ∷ 97 ∷ []
unfolding text_of
one_release = refl

-- `U` and `R` group to the right
until_right : text_of (until a (release b c)) ≡ 97 ∷ 32 ∷ 85 ∷ 32 ∷ 98 ∷ 32 ∷ 82 ∷ 32 ∷ 99 ∷ []
unfolding text_of
until_right = refl

until_left : text_of (until (until a b) c) ≡ 40 ∷ 97 ∷ 32 ∷ 85 ∷ 32 ∷ 98 ∷ 41 ∷ 32 ∷ 85 ∷ 32 ∷ 99 ∷ []
unfolding text_of
until_left = refl

-- `&` and `|` group to the left
and_left : text_of (and (and a b) c) ≡ 97 ∷ 32 ∷ 38 ∷ 32 ∷ 98 ∷ 32 ∷ 38 ∷ 32 ∷ 99 ∷ []
unfolding text_of
and_left = refl

and_right : text_of (and a (and b c)) ≡ 97 ∷ 32 ∷ 38 ∷ 32 ∷ 40 ∷ 98 ∷ 32 ∷ 38 ∷ 32 ∷ 99 ∷ 41 ∷ []
unfolding text_of
and_right = refl

or_right : text_of (or a (or b c)) ≡ 97 ∷ 32 ∷ 124 ∷ 32 ∷ 40 ∷ 98 ∷ 32 ∷ 124 ∷ 32 ∷ 99 ∷ 41 ∷ []
unfolding text_of
or_right = refl

-- `&` binds tighter than `|`, and `U` tighter than both
and_in_or : text_of (or (and a b) (and b c)) ≡ 97 ∷ 32 ∷ 38 ∷ 32 ∷ 98 ∷ 32 ∷ 124 ∷ 32 ∷ 98 ∷ 32 ∷ 38 ∷ 32 ∷ 99 ∷ []
unfolding text_of
and_in_or = refl

or_in_and : text_of (and (or a b) (until b c)) ≡ 40 ∷ 97 ∷ 32 ∷ 124 ∷ 32 ∷ 98 ∷ 41 ∷ 32 ∷ 38 ∷ 32 ∷ 98 ∷ 32 ∷ 85 ∷ 32 ∷ 99 ∷ []
unfolding text_of
or_in_and = refl

and_in_until : text_of (until (and a b) (or b c)) ≡ 40 ∷ 97 ∷ 32 ∷ 38 ∷ 32 ∷ 98 ∷ 41 ∷ 32 ∷ 85 ∷ 32 ∷ 40 ∷ 98 ∷ 32 ∷ 124 ∷ 32 ∷ 99 ∷ 41 ∷ []
unfolding text_of
and_in_until = refl

-- a prefix takes an operand
prefixes : text_of (next (weak (and (not_flag 0) a))) ≡ 88 ∷ 32 ∷ 78 ∷ 32 ∷ 40 ∷ 33 ∷ 97 ∷ 32 ∷ 38 ∷ 32 ∷ 97 ∷ 41 ∷ []
unfolding text_of
prefixes = refl

-- thirty-two `X` before `a -> b` are read, as `|` with thirty-two `N` before `!a`: one too deep to print
abbrev weaks : ℕ → Formula
weaks ℕ.zero = not_flag 0
weaks (ℕ.suc n) = weak (weaks n)

too_deep_lem : Excessive (or (weaks 32) b)
unfolding text_of
too_deep_lem = inr (33, depth_printed (written_as (or (weaks 32) b)) (known, omega arith), omega arith)
  where
    known : Known (written_as (weaks 32))
    known = omega arith
