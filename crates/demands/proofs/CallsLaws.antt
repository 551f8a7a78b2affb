-- What the program's calls answer, by their promises, is the output. Assumes nothing.
use Rattle.std.specs.Prelude.{◌≡◌, refl, ◌↔◌, List, [], ◌∷◌, ◌++◌, ℕ, suc, ◌≤◌, length, take, drop, Option, None, Some, Err, Ok}
use Rattle.std.proofs.Common.{sym, ap, ap₂, ◌∙◌, subst, inl, inr, arith, take_at}
use Rattle.std.proofs.Math.Logic.Iff
use Rattle.answers.specs.Answers.{refuses}
use Rattle.answers.specs.Refusals.{Answer, outcome}
use Rattle.meaning.specs.Flags.{flags}
use Rattle.meaning.specs.Formula.{Formula as Tree, Series}
use Rattle.meaning.specs.Syntax.{nnf}
use Rattle.meaning.specs.Dialect.{dialect, TextAnswersYes}
use Rattle.meaning.specs.declared.Profile.{Profile}
use Rattle.rule.specs.Numbering.{Numbers}
use Rattle.rule.proofs.ListingLaws.{rule_one}
use Rattle.rule.specs.declared.Rule.{Rule}
use Rattle.reading.specs.Grammar.{ReadAs}
use Rattle.reading.specs.Promise.{Reads}
use Rattle.reading.specs.Promise as reading
use Rattle.automaton.specs.Tables.{Tables, Good}
use Rattle.automaton.specs.Walk.{Accepts}
use Rattle.automaton.proofs.WalkLaws.{walk_answers}
use Rattle.tables.specs.Tables.{TooMuch, states, edge_entries}
use Rattle.tables.specs.Building.{Answer as BuildAnswer, counts, Slices, Long, filled, Builds, not_a_rule, short_slice, too_much, tables, made_of}
use Rattle.tables.specs.Outcome.{same_counts}
use Rattle.tables.specs.Described.{build_agrees, build_means}
use Rattle.walking.specs.FitAnswers.{room}
use Rattle.walking.specs.FitAnswers as fitting
use Rattle.walking.specs.declared.lines.Answer.{Answer as LineAnswer}
use Rattle.walking.specs.declared.lines.Answer.TheVariants.{Yes, No, Bad}
use Rattle.walking.specs.Walks.{Accepted}
use Rattle.walking.specs.Series.{AnswerIs}
use Rattle.walking.specs.Text.{counts_text, refused_text, fit_text}
use Rattle.walking.specs.Output.{last_line_of, AnswersAre, Answered}
use Rattle.demands.specs.Fits.{FitOf}
use Rattle.demands.specs.FitLaws.{fit_by}
use Rattle.demands.specs.Program.{rule_line, series_lines, counts_line, fit_line, Prints, refused, too_large, judged}
use Rattle.demands.specs.Calls.{Held, found_text, Calls, not_read, not_built, all_said}
use Rattle.demands.specs.PartsLaws.{held_reads, parts_said}

-- answers by what fits are answers by what is equivalent to it
module _ (P Q : Series → Type 0) (same : (s : Series) → P s ↔ Q s) where
  answer_same : (line : List ℕ) (a : LineAnswer) → AnswerIs P line a → AnswerIs Q line a
  answer_same line Yes (s, i, p) = (s, i, (same s).0 p)
  answer_same line No (s, i, n) = (s, i, λ q. n ((same s).1 q))
  answer_same line Bad n = n

  answers_same : (n : ℕ) (lines : List (List ℕ)) (text : List ℕ) → AnswersAre P n lines text → AnswersAre Q n lines text
  answers_same n [] text e = e
  answers_same n (l ∷ ls) text (a, rest, p, e, more) = (a, rest, answer_same l a p, e, answers_same (suc n) ls rest more)

  answered_same : (input text : List ℕ) → Answered P input text → Answered Q input text
  answered_same input text h = record {
    lines = h.lines;
    left = h.left;
    are = h.are;
    answers = answers_same 1 (h.lines ++ last_line_of h.left) text h.answers;
  }

module _ (rule : Rule) (s : Slices) (φ : Tree) (num : Numbers rule φ) where
  -- a build in long slices refuses by 9 alone
  refused_large : (a : BuildAnswer) (u : Slices) → Builds rule s a u → (n : ℕ) → a ≡ refuses n tt → Long s → (n ≡ 9) × TooMuch rule.profile φ
  refused_large a u (not_a_rule x) n e long = absurd (x (φ, num))
  refused_large a u (short_slice x y) n e long = absurd (y long)
  refused_large a u (too_much ψ m l x) n e long = (let k : 9 ≡ n = cc in sym k, subst (TooMuch rule.profile) (rule_one rule ψ φ m num) x)
  refused_large a u (tables ψ m l x) n e long = let z : ◌≡◌ {A = ℕ} 0 1 = cc in absurd (omega arith)

  pub built_as : (a : BuildAnswer) (u : Slices) → Builds rule s a u → (n k : ℕ) → a ≡ counts n k
      → (n ≡ length (states rule.profile φ)) × (k ≡ length (edge_entries rule.profile φ)) × (¬ TooMuch rule.profile φ) × (u ≡ filled rule.profile φ s)
  built_as a u (not_a_rule x) n k e = absurd (x (φ, num))
  built_as a u (short_slice x y) n k e = let z : ◌≡◌ {A = ℕ} 0 1 = cc in absurd (omega arith)
  built_as a u (too_much ψ m l x) n k e = let z : ◌≡◌ {A = ℕ} 0 1 = cc in absurd (omega arith)
  built_as a u (tables ψ m l x) n k e =
      let (p, q) = same_counts (length (states rule.profile ψ)) (length (edge_entries rule.profile ψ)) n k e in
      let same = rule_one rule ψ φ m num in (
        sym p ∙ ap (λ (χ : Tree). length (states rule.profile χ)) same,
        sym q ∙ ap (λ (χ : Tree). length (edge_entries rule.profile χ)) same,
        λ y. x (subst (TooMuch rule.profile) (sym same) y),
        ap (λ (χ : Tree). filled rule.profile χ s) same,
      )

-- the fit that is found is printed
module _ (P : Series → Type 0) (t : Tables) (good : Good flags t) (agrees : (u : Series) → Accepts flags t 0 u ↔ P u) (before after : List ℕ)
    (long : room ≤ length before) where
  found : (f : Answer (Option ℕ)) → fitting.Told t before after (outcome f) → (o : Option Series) × FitOf P o × (found_text f after ≡ fit_line o)
  found (Ok (Some n)) (l, g, (Some z, h, (e, m, w))) =
      (Some z, fit_by P t agrees (Some z) h, ap fit_text (ap (take n) w ∙ take_at z (drop n before) n e))
  found (Ok (Some n)) (l, g, (None, h, x)) = absurd x
  found (Ok None) (l, g, (Some z, h, x)) = absurd x
  found (Ok None) (l, g, (None, h, x)) = (None, fit_by P t agrees None h, refl)
  found (Err f) (same, inl (e, h)) = absurd (omega arith)
  found (Err f) (same, inr (e, l, bad)) = absurd (bad good)

-- the rule that was read of what is held of a line is the line's
read_as : (π : Profile) (line text : List ℕ) (rule : Rule) → Held line text → Reads (dialect π).number text (Ok rule) → ReadAs π line rule
read_as π line text rule held h = (held_reads π line text (Ok rule) held h).outcome

pub calls_print : (π : Profile) (input output : List ℕ) → Calls π input output → Prints π input output
calls_print π input output (not_read text f held h) =
    let (due, said) = (held_reads π (rule_line input) text (Err f) held h).outcome in
    refused (reading.wanted_of f) due said
calls_print π input output (not_built text rule s u n held h long b) =
    let x : ReadAs π (rule_line input) rule = read_as π (rule_line input) text rule held h in
    let (is, m) = refused_large rule s (nnf x.tree) x.numbers (refuses n tt) u b n refl long in
    subst (λ k. Prints π input (refused_text k 0 0)) (sym is) (too_large x (subst (λ (z : Profile). TooMuch z (nnf x.tree)) x.profile_is m))
calls_print π input output (all_said text rule s u n k parts answers before after f held h b whole a long q) =
    let x : ReadAs π (rule_line input) rule = read_as π (rule_line input) text rule held h in
    let φ = nnf x.tree in
    let (en, ek, fine, left) = subst (λ (z : Profile). (n ≡ length (states z φ)) × (k ≡ length (edge_entries z φ)) × (¬ TooMuch z φ) × (u ≡ filled z φ s)) x.profile_is
    (built_as rule s φ x.numbers (counts n k) u b n k refl) in
    let made = build_agrees rule s u n k b φ x.numbers in
    let agrees : (z : Series) → Accepts flags (made_of n k u) 0 z ↔ TextAnswersYes π x.tree z =
    subst (λ (y : Profile). (z : Series) → Accepts flags (made_of n k u) 0 z ↔ TextAnswersYes y x.tree z) x.profile_is (build_means rule s u n k b x.tree x.numbers) in
    let (o, fit, shown) = found (TextAnswersYes π x.tree) (made_of n k u) made.good agrees before after long f q.told in
    let answered = parts_said (made_of n k u) parts (series_lines input) answers whole a in
    let walks : (z : Series) → Accepted (made_of n k u) z ↔ TextAnswersYes π x.tree z = λ z. Iff.trans (walk_answers flags (made_of n k u) made.good z) (agrees z) in
    let said = answered_same (Accepted (made_of n k u)) (TextAnswersYes π x.tree) walks (series_lines input) answers answered in
    subst (Prints π input) (sym (ap₂ (λ i j. counts_text i j ++ (answers ++ found_text f after)) en ek
    ∙ ap (λ y. counts_line π φ ++ (answers ++ y)) shown)) (judged o x fine said fit)
