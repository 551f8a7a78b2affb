-- Line 1 and what follows it; an input has one output only. Assumes nothing.
use Rattle.std.specs.Prelude.{◌≡◌, refl, List, [], ◌∷◌, ◌++◌, ℕ, Option}
use Rattle.std.proofs.Common.{sym, ap, ap₂, ◌∙◌, subst, ne_eqb}
use Rattle.meaning.specs.Formula.{Series}
use Rattle.meaning.specs.Syntax.{Syntax, nnf}
use Rattle.meaning.specs.Dialect.{TextAnswersYes}
use Rattle.meaning.specs.declared.Profile.{Profile}
use Rattle.rule.specs.declared.Rule.{Rule}
use Rattle.reading.specs.Grammar.{ReadAs}
use Rattle.reading.specs.Complete.{unambiguous}
use Rattle.reading.specs.Outcomes.{refuses_one, read_not_refused, said_one}
use Rattle.tables.specs.Tables.{TooMuch}
use Rattle.walking.specs.Text.{newline}
use Rattle.walking.specs.Output.{Unbroken, Answered}
use Rattle.walking.specs.ProgressLaws.{answered_one}
use Rattle.demands.specs.Fits.{FitOf}
use Rattle.demands.specs.FitLaws.{fit_one}
use Rattle.demands.specs.Program.{rule_line, series_lines, counts_line, fit_line, Prints, refused, too_large, judged}

-- ---- line 1

pub rule_line_lem : (line rest : List ℕ) → Unbroken line → rule_line (line ++ newline ∷ rest) ≡ line
rule_line_lem [] rest u = refl
rule_line_lem (x ∷ line) rest u = rw (ne_eqb x newline u.0) (ap (λ l. x ∷ l) (rule_line_lem line rest u.1))

pub series_lines_lem : (line rest : List ℕ) → Unbroken line → series_lines (line ++ newline ∷ rest) ≡ rest
series_lines_lem [] rest u = refl
series_lines_lem (x ∷ line) rest u = rw (ne_eqb x newline u.0) (series_lines_lem line rest u.1)

-- an input with no newline
pub rule_only : (line : List ℕ) → Unbroken line → (rule_line line ≡ line) × (series_lines line ≡ [])
rule_only [] u = (refl, refl)
rule_only (x ∷ line) u = rw (ne_eqb x newline u.0) (ap (λ l. x ∷ l) (rule_only line u.1).0, (rule_only line u.1).1)

-- ---- one output only

-- what is printed for a tree
abbrev texts : Profile → List ℕ → Option Series → Syntax → List ℕ
texts π answers fit p = counts_line π (nnf p) ++ (answers ++ fit_line fit)

module _ (π : Profile) (input : List ℕ) where
  same_tree_lem : {a b : Rule} (x : ReadAs π (rule_line input) a) (y : ReadAs π (rule_line input) b) → x.tree ≡ y.tree
  same_tree_lem x y = unambiguous x.sound.spells y.sound.spells

  pub prints_one : (a b : List ℕ) → Prints π input a → Prints π input b → a ≡ b
  prints_one a b (refused {number = n} {place = k} v x says) (refused {number = m} {place = j} w y says') =
      let (e, f) = refuses_one x y in
      let g : v ≡ w = said_one (rule_line input) m j v w (rw (e, f) at says) says' in
      rw (e, f, g)
  prints_one a b (refused w x says) (too_large y m) = absurd (read_not_refused y x)
  prints_one a b (refused w x says) (judged g y n s f) = absurd (read_not_refused y x)
  prints_one a b (too_large x m) (refused w y says) = absurd (read_not_refused x y)
  prints_one a b (too_large x m) (too_large y m') = refl
  prints_one a b (too_large x m) (judged g y n s f) = absurd (n (subst (λ p. TooMuch π (nnf p)) (same_tree_lem x y) m))
  prints_one a b (judged g x n s f) (refused w y says) = absurd (read_not_refused x y)
  prints_one a b (judged g x n s f) (too_large y m) = absurd (n (subst (λ p. TooMuch π (nnf p)) (sym (same_tree_lem x y)) m))
  prints_one a b (judged {answers = t} g x n s f) (judged {answers = u} h y n' s' f') =
      let e = same_tree_lem x y in
      let e₁ : t ≡ u = answered_one (TextAnswersYes π y.tree) (series_lines input) t u (subst (λ p. Answered (TextAnswersYes π p) (series_lines input) t) e s) s' in
      let e₂ : g ≡ h = fit_one (TextAnswersYes π y.tree) g h (subst (λ p. FitOf (TextAnswersYes π p) g) e f) f' in
      ap (texts π t g) e ∙ ap₂ (λ i j. texts π i j y.tree) e₁ e₂
