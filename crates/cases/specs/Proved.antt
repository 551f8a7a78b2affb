-- Each case is right: one test for all of them, what the test means, and its computation. Assumes nothing.
use Rattle.std.specs.Prelude.{ℕ, ◌≡◌, refl, Bool, true, false, not, ◌&&◌, List, [], ◌∷◌, T, eqb, leb, length, take, get_or, Option, None, Some}
use Rattle.std.proofs.Common.{subst, T_not}
use Rattle.std.proofs.Math.Logic.Iff
use Rattle.std.proofs.Math.Decide.{ℕ_discrete}
use Rattle.std.proofs.Math.Dec.{not_T}
use Rattle.laws.specs.Decided.{Decides, decides_means, test, test_means, T_and, eq_means, le_means}
use Rattle.laws.specs.Lists.{All, every, every_iff, In, all_at}
use Rattle.meaning.specs.Flags.{flags}
use Rattle.meaning.specs.Formula.{Formula as Tree}
use Rattle.meaning.specs.Syntax.{Syntax, nnf, signed}
use Rattle.meaning.specs.Ending.{end_yes}
use Rattle.meaning.specs.Dialect.{TextAnswersYes}
use Rattle.meaning.proofs.DialectLaws.{answers?, nnf_answers}
use Rattle.meaning.specs.declared.Profile.{Profile}
use Rattle.reading.specs.Grammar.{Sound, sign_of}
use Rattle.reading.specs.Reader.{Verdict, reads, refuses, answer}
use Rattle.reading.specs.Exact.{read_exact}
use Rattle.automaton.proofs.TableLaws.{good_test, good_means}
use Rattle.automaton.proofs.ExplorationLaws.{built_not_refused}
use Rattle.automaton.specs.Fit.{FirstFit}
use Rattle.automaton.specs.Rounds.{column}
use Rattle.automaton.specs.Search.{fit}
use Rattle.automaton.proofs.SearchLaws.{search_true}
use Rattle.rule.specs.Numbering.{formulas, number}
use Rattle.tables.specs.Choices.{choices, choices_of, members_from}
use Rattle.tables.specs.Tables.{TooMuch, targets, start, overfull, states, start_entries, edge_entries, edges_of}
use Rattle.cases.specs.Cases.{Case, on, built, Right, tables_for, cases}

-- ---- tests of equality, and what they mean

abbrev same_bool : Bool → Bool → Bool
same_bool true b = b
same_bool false b = not b

same_bool_lem : (a b : Bool) → T (same_bool a b) → a ≡ b
same_bool_lem true true t = refl
same_bool_lem true false t = absurd t
same_bool_lem false true t = absurd t
same_bool_lem false false t = refl

abbrev same_list : List ℕ → List ℕ → Bool
same_list [] [] = true
same_list [] (y ∷ m) = false
same_list (x ∷ l) [] = false
same_list (x ∷ l) (y ∷ m) = eqb x y && same_list l m

same_list_lem : (l m : List ℕ) → T (same_list l m) → l ≡ m
same_list_lem [] [] t = refl
same_list_lem [] (y ∷ m) t = absurd t
same_list_lem (x ∷ l) [] t = absurd t
same_list_lem (x ∷ l) (y ∷ m) t =
    let (a, b) = (T_and (eqb x y) (same_list l m)).0 t in
    let e : x ≡ y = (eq_means x y).0 a in
    let f : l ≡ m = same_list_lem l m b in
    λ i. e i ∷ f i

abbrev same_fit : Option (List ℕ) → Option (List ℕ) → Bool
same_fit None None = true
same_fit None (Some m) = false
same_fit (Some l) None = false
same_fit (Some l) (Some m) = same_list l m

same_fit_lem : (a b : Option (List ℕ)) → T (same_fit a b) → a ≡ b
same_fit_lem None None t = refl
same_fit_lem None (Some m) t = absurd t
same_fit_lem (Some l) None t = absurd t
same_fit_lem (Some l) (Some m) t = let e = same_list_lem l m t in λ i. Some (e i)

-- ---- the test of a case

abbrev test_on : Profile → List ℕ → Bool → Syntax → Bool
test_on π series says p = same_bool (test (answers? π (nnf p) series)) says

-- at most 128 states, and none of them overfull
abbrev pub test_within : Profile → Tree → Bool
test_within π φ = leb (length (states π φ)) 128 && every (λ m. not (overfull π φ m)) (states π φ)

abbrev test_built : Profile → ℕ → ℕ → List ℕ → Option (List ℕ) → Syntax → Bool
test_built π n k row f p =
    test_within π (nnf p) && (eqb (length (states π (nnf p))) n && (eqb (length (edge_entries π (nnf p))) k
    && (same_list (take (get_or (start_entries π (nnf p)) 1 0) (edge_entries π (nnf p))) row
    && (good_test flags (tables_for π (nnf p)) && same_fit (fit flags (tables_for π (nnf p)) (column flags (tables_for π (nnf p)))) f))))

-- the text is read, and the tree passes
abbrev when_read : (Syntax → Bool) → Verdict → Bool
when_read t (reads p) = t p
when_read t (refuses n k) = false

abbrev test_text : List ℕ → (Syntax → Bool) → Bool
test_text text t = leb (length text) 1024 && when_read t (answer 32 text)

abbrev test_case : Case → Bool
test_case (on π text series says) = test_text text (test_on π series says)
test_case (built π text n k row f) = test_text text (test_built π n k row f)

-- ---- what it means

test_text_lem : (text : List ℕ) (t : Syntax → Bool) → T (test_text text t) → (p : Syntax) × Sound text p × T (t p)
test_text_lem text t h =
    let (a, b) = (T_and (leb (length text) 1024) (when_read t (answer 32 text))).0 h in
    go (answer 32 text) refl b
  where
    go : (v : Verdict) → answer 32 text ≡ v → T (when_read t v) → (p : Syntax) × Sound text p × T (t p)
    go (reads p) e x =
        (p, record { short = (le_means (length text) 1024).0 ((T_and (leb (length text) 1024) (when_read t (answer 32 text))).0 h).0; spells = (read_exact 32 text p).0 e }, x)
    go (refuses n k) e x = absurd x

none_overfull : (π : Profile) (φ : Tree) (l : List ℕ) → T (every (λ m. not (overfull π φ m)) l) → (m : ℕ) → In m l → T (overfull π φ m) → ⊥
none_overfull π φ l h m i o =
    all_at (λ m. T (overfull π φ m) → ⊥) l ((every_iff (λ m. T (overfull π φ m) → ⊥) (λ m. not (overfull π φ m)) (λ m. (T_not (overfull π φ m), not_T (overfull π φ m))) l).0 h) m i o

pub test_within_lem : (π : Profile) (φ : Tree) → T (test_within π φ) → ¬ TooMuch π φ
unfolding states
test_within_lem π φ h =
    let (a, b) = (T_and (leb (length (states π φ)) 128) _).0 h in
    built_not_refused eqb eq_means (targets π φ) (start π φ) 128 (overfull π φ) ((le_means (length (states π φ)) 128).0 a, none_overfull π φ (states π φ) b)

case_right : (c : Case) → T (test_case c) → Right c
case_right (on π text series says) h =
    let (p, sound, t) = test_text_lem text (test_on π series says) h in
    let e : test (answers? π (nnf p) series) ≡ says = same_bool_lem (test (answers? π (nnf p) series)) says t in
    record {
      tree = p;
      sound = sound;
      answer = subst (λ (b : Bool). Decides b (TextAnswersYes π p series)) e
          (decides_means (test (answers? π (nnf p) series)) (Iff.trans (test_means (answers? π (nnf p) series)) (Iff.symm (nnf_answers π p series))));
    }
case_right (built π text n k row f) h =
    let (p, sound, t) = test_text_lem text (test_built π n k row f) h in
    let φ = nnf p in
    let (w, t₀) = (T_and (test_within π φ) _).0 t in
    let (a, t₁) = (T_and (eqb (length (states π φ)) n) _).0 t₀ in
    let (b, t₂) = (T_and (eqb (length (edge_entries π φ)) k) _).0 t₁ in
    let (c, t₃) = (T_and (same_list (take (get_or (start_entries π φ) 1 0) (edge_entries π φ)) row) _).0 t₂ in
    let (d, e) = (T_and (good_test flags (tables_for π φ)) _).0 t₃ in
    record {
      tree = p;
      sound = sound;
      within = test_within_lem π φ w;
      state_count = (eq_means (length (states π φ)) n).0 a;
      edge_count = (eq_means (length (edge_entries π φ)) k).0 b;
      first_row = same_list_lem (take (get_or (start_entries π φ) 1 0) (edge_entries π φ)) row c;
      first_fit = subst (FirstFit flags (tables_for π φ)) (same_fit_lem (fit flags (tables_for π φ) (column flags (tables_for π φ))) f e)
          (search_true flags (tables_for π φ) ((good_means flags (tables_for π φ)).0 d));
    }

-- ---- the one proof

pub all_right : All Right cases
unfolding cases sign_of nnf signed good_test states edges_of formulas number choices choices_of members_from end_yes ℕ_discrete
all_right = all_tested cases tt
  where
    all_tested : (l : List Case) → T (every test_case l) → All Right l
    all_tested [] h = tt
    all_tested (c ∷ l) h = let (a, b) = (T_and (test_case c) (every test_case l)).0 h in (case_right c a, all_tested l b)
