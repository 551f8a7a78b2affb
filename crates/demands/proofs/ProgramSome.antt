-- Every input has an output. Assumes nothing.
use Rattle.std.specs.Prelude.{◌≡◌, refl, ◌↔◌, ◌⊎◌, List, ◌++◌, ℕ, ◌≤◌, eqb, length, replicate, Option}
use Rattle.std.proofs.Common.{subst, inl, inr, ⊎_elim, arith}
use Rattle.std.proofs.Math.Path.{subst⁻¹}
use Rattle.std.proofs.Math.Logic.{by_cases}
use Rattle.std.proofs.Math.Decide.{dec_le}
use Rattle.std.proofs.lemmas.List.{length-replicate}
use Rattle.laws.specs.Decided.{same?, eq_means}
use Rattle.meaning.specs.Flags.{flags}
use Rattle.meaning.specs.Formula.{Formula as Tree, Series}
use Rattle.meaning.specs.Syntax.{Syntax, nnf}
use Rattle.meaning.specs.Dialect.{dialect, TextAnswersYes}
use Rattle.meaning.proofs.DialectLaws.{answers?, nnf_answers}
use Rattle.meaning.specs.declared.Profile.{Profile}
use Rattle.rule.specs.Numbering.{formulas, numbering}
use Rattle.rule.specs.declared.Rule.{Rule}
use Rattle.reading.specs.Grammar.{Sound, Refuses, too_long, not_sound, too_many, ReadAs}
use Rattle.reading.specs.Reader.{Verdict, reads, refuses, answer}
use Rattle.reading.specs.Promise.{wanted_number}
use Rattle.reading.specs.Exact.{read_exact, refused_exact}
use Rattle.reading.specs.Outcomes.{said_some}
use Rattle.automaton.specs.Walk.{Accepts}
use Rattle.automaton.proofs.ExplorationLaws.{built_or_refused, built_not_refused}
use Rattle.automaton.specs.Rounds.{column}
use Rattle.automaton.specs.Search.{fit}
use Rattle.automaton.proofs.SearchLaws.{search_true}
use Rattle.tables.specs.Tables.{targets, start, overfull, TooMuch, states, edge_entries}
use Rattle.tables.specs.Building.{Slices, slices, Long, filled, counts, Builds, tables, made_of}
use Rattle.tables.specs.Described.{build_agrees, build_means}
use Rattle.walking.specs.Text.{refused_text}
use Rattle.demands.specs.Fits.{FitOf}
use Rattle.demands.specs.FitLaws.{fit_by}
use Rattle.demands.specs.Answering.{answered_of}
use Rattle.demands.specs.KnownFlags.{sound_numbers}
use Rattle.demands.specs.Program.{rule_line, series_lines, counts_line, fit_line, Prints, refused, too_large, judged}

-- ---- a text is read or refused

numbering_profile : (π : Profile) (φ : Tree) → (numbering π φ).profile ≡ π
unfolding numbering
numbering_profile π φ = refl

pub read_or_refused : (π : Profile) (text : List ℕ) → ((rule : Rule) × ReadAs π text rule) ⊎ ((n : ℕ) × (p : ℕ) × Refuses π text n p)
read_or_refused π text = by_cases (dec_le (length text) 1024) (λ l. go l (answer 32 text) refl) (λ l. inr (1, 1024, too_long (omega arith)))
  where
    go : length text ≤ 1024 → (v : Verdict) → answer 32 text ≡ v → ((rule : Rule) × ReadAs π text rule) ⊎ ((n : ℕ) × (p : ℕ) × Refuses π text n p)
    go l (refuses n p) e = inr (n, p, not_sound l ((refused_exact 32 text n p).0 e))
    go l (reads p) e =
        let x : Sound text p = record { short = l; spells = (read_exact 32 text p).0 e } in
        by_cases (dec_le (length (formulas (nnf p))) (dialect π).most)
        (λ few. inl (numbering π (nnf p), record { profile_is = numbering_profile π (nnf p); tree = p; sound = x; numbers = sound_numbers π text p x few }))
        (λ many. inr (5, length text, too_many x (omega arith)))

-- ---- what a text means is decided on every series

unfoldable pub decide : (π : Profile) (p : Syntax) (s : Series) → Dec (TextAnswersYes π p s)
decide π p s = same? (nnf_answers π p s) (answers? π (nnf p) s)

-- ---- a rule has a fit or none

zeros : (n : ℕ) → n ≤ length (replicate {A = ℕ} n 0)
zeros n = let e : length (replicate {A = ℕ} n 0) ≡ n = length-replicate n 0 in omega arith

abbrev pub empty : Slices
empty = slices (replicate 128 0) (replicate 129 0) (replicate 128 0) (replicate 8192 0)

pub empty_long : Long empty
empty_long = record { masks_long = zeros 128; starts_long = zeros 129; accepts_long = zeros 128; edges_long = zeros 8192 }

unfoldable pub fit_of : (π : Profile) (text : List ℕ) (rule : Rule) (x : ReadAs π text rule) → ¬ TooMuch π (nnf x.tree) → (o : Option Series) × FitOf (TextAnswersYes π x.tree) o
fit_of π text rule x fine =
    let φ = nnf x.tree in
    let n = length (states π φ) in
    let k = length (edge_entries π φ) in
    let u = filled π φ empty in
    let b : Builds rule empty (counts n k) u =
    subst (λ (z : Profile). Builds rule empty (counts (length (states z φ)) (length (edge_entries z φ))) (filled z φ empty)) x.profile_is
    (tables φ x.numbers empty_long (subst⁻¹ (λ (z : Profile). ¬ TooMuch z φ) x.profile_is fine)) in
    let t = made_of n k u in
    let f = fit flags t (column flags t) in (
      f,
      fit_by (TextAnswersYes π x.tree) t (subst (λ (y : Profile). (z : Series) → Accepts flags t 0 z ↔ TextAnswersYes y x.tree z) x.profile_is
          (build_means rule empty u n k b x.tree x.numbers)) f (search_true flags t (build_agrees rule empty u n k b φ x.numbers).good),
    )

-- ---- every input has an output

pub large_or_fine : (π : Profile) (φ : Tree) → TooMuch π φ ⊎ (¬ TooMuch π φ)
large_or_fine π φ = ⊎_elim
    (λ b. inr (built_not_refused eqb eq_means (targets π φ) (start π φ) 128 (overfull π φ) b))
    (λ m. inl m)
    (built_or_refused eqb eq_means (targets π φ) (start π φ) 128 (overfull π φ))

pub prints_some : (π : Profile) (input : List ℕ) → (output : List ℕ) × Prints π input output
prints_some π input = go (read_or_refused π (rule_line input))
  where
    by : (rule : Rule) (x : ReadAs π (rule_line input) rule) → TooMuch π (nnf x.tree) ⊎ (¬ TooMuch π (nnf x.tree)) → (output : List ℕ) × Prints π input output
    by rule x (inl m) = (refused_text 9 0 0, too_large x m)
    by rule x (inr fine) =
        let (answers, a) = answered_of (TextAnswersYes π x.tree) (decide π x.tree) (series_lines input) in
        let (o, f) = fit_of π (rule_line input) rule x fine in
        (counts_line π (nnf x.tree) ++ (answers ++ fit_line o), judged o x fine a f)

    go : ((rule : Rule) × ReadAs π (rule_line input) rule) ⊎ ((n : ℕ) × (p : ℕ) × Refuses π (rule_line input) n p) → (output : List ℕ) × Prints π input output
    go (inl (rule, x)) = by rule x (large_or_fine π (nnf x.tree))
    go (inr (n, p, x)) = let (w, says) = said_some π (rule_line input) n p x in (refused_text n p (wanted_number w), refused w x says)
