-- Each call of the library has an outcome for every input. Assumes nothing.
use Rattle.std.specs.Prelude.{◌≡◌, refl, ◌⊎◌, Bool, true, false, List, ◌++◌, ℕ, ◌^◌, ◌≤◌, T, length, drop, Option, None, Some, Err, Ok, Result}
use Rattle.std.proofs.Common.{inl, inr, ⊎_elim, arith}
use Rattle.std.proofs.Math.Logic.{by_cases}
use Rattle.std.proofs.Math.Decide.{dec_le, dec_lt}
use Rattle.laws.specs.Decided.{Decides, tested, both?, same?}
use Rattle.answers.specs.Refusals.{Answer, outcome}
use Rattle.answers.specs.declared.Refusal.TheVariants.{NotARule, TooLong, ShortSlice, TooLarge, BadTables}
use Rattle.meaning.specs.Flags.{flags}
use Rattle.meaning.specs.Formula.{Formula as Tree, Series}
use Rattle.meaning.specs.Dialect.{dialect}
use Rattle.meaning.proofs.DialectLaws.{answers?}
use Rattle.meaning.specs.Choosing.{known?}
use Rattle.meaning.specs.declared.Profile.{Profile}
use Rattle.rule.specs.Numbering.{Numbers, IsRule}
use Rattle.rule.proofs.Deciding.{is_rule?}
use Rattle.rule.specs.declared.Rule.{Rule}
use Rattle.reading.specs.declared.Refusal.{Refusal}
use Rattle.reading.specs.declared.Refusal.TheVariants as refusal
use Rattle.reading.specs.Grammar.{Due, no_text_goes_on, ends_too_soon, too_deep_lem, Refuses, too_long, not_sound, too_many, Sound, SaysWanted}
use Rattle.reading.specs.Promise.{number_of, place_of, wanted_of, Reads, ReadsUnder}
use Rattle.reading.specs.Exact.{neither}
use Rattle.reading.specs.Outcomes.{due_wants, known_reads, unknown_reads, reads_one}
use Rattle.printing.specs.Text.{tree, written_as, text_of}
use Rattle.printing.specs.Spelling.{deep_in, Known}
use Rattle.printing.specs.Fewest.{deep_exactly, depth_printed}
use Rattle.printing.specs.Pushing.{known_written}
use Rattle.printing.specs.Printing.{Excessive, not_a_rule, short_slice, Printing}
use Rattle.printing.specs.Printing as printing
use Rattle.printing.specs.Outcome.{printing_one}
use Rattle.plain.specs.Judging.{Judging}
use Rattle.plain.specs.Outcome.{judging_one}
use Rattle.tables.specs.Building as building
use Rattle.tables.specs.Building.{Slices, Long, zeroed, filled, Builds}
use Rattle.tables.specs.declared.Counts.{Counts}
use Rattle.tables.specs.Tables.{states, edge_entries}
use Rattle.tables.specs.Outcome.{build_one}
use Rattle.automaton.specs.Tables.{Tables, Good}
use Rattle.automaton.proofs.TableLaws.{good_test, good_means}
use Rattle.automaton.specs.Walk.{moved, walked, begun, answer, closed}
use Rattle.automaton.specs.Fit.{FirstFit}
use Rattle.automaton.specs.Rounds.{column}
use Rattle.automaton.specs.Search.{fit}
use Rattle.automaton.proofs.SearchLaws.{fit_short, search_true}
use Rattle.walking.specs.Walks.{mask, walk_of}
use Rattle.walking.specs.Answers.{Taken, Told, Stepped, Answered, Closed, Judged}
use Rattle.walking.specs.MovingLaws.{good_small, small_good}
use Rattle.walking.specs.Theorems.{step_one, answer_one, closed_one, judge_one}
use Rattle.walking.specs.declared.Walk.{Walk}
use Rattle.walking.specs.FitAnswers.{Searched, room}
use Rattle.walking.specs.FitTheorems.{search_one}
use Rattle.demands.specs.EveryCall.{OneOutcome}
use Rattle.demands.proofs.ProgramSome.{read_or_refused, large_or_fine}

-- an answer that is promised, where answers are one
abbrev pub the_one : {A : Type 0} {P : A → Type 0} → ((a b : A) → P a → P b → a ≡ b) → (a : A) → P a → OneOutcome P
the_one one a p = record { outcome = a; promised = p; only = λ b q. one b a q p }

-- an answer with what is left, where answers are one and so is what is left
abbrev pub one_with : {A S : Type 0} {P : A → S → Type 0} → ((a b : A) (s t : S) → P a s → P b t → (a ≡ b) × (s ≡ t)) → (a : A) (s : S) → P a s
    → OneOutcome (λ (x : A × S). P x.0 x.1)
one_with one a s p = record { outcome = (a, s); promised = p; only = λ (b, t) q. let (e, f) = one b a t s q p in λ i. (e i, f i) }

-- ---- reading

-- a refusal that is due, with what it says is wanted
refusal_of_lem : (π : Profile) (text : List ℕ) (n k : ℕ) → Refuses π text n k
    → (f : Refusal) × Refuses π text (number_of f) (place_of f) × SaysWanted text (number_of f) (place_of f) (wanted_of f)
refusal_of_lem π text n k (too_long h) = (refusal.TooLong (record { 0 = 1024 }), too_long h, neither 1 (inl (omega arith)))
refusal_of_lem π text n k (not_sound h (d, first)) = go d first
  where
    go : {n k : ℕ} → (d : Due 32 text n k) → ((n' k' : ℕ) → Due 32 text n' k' → k ≤ k')
        → (f : Refusal) × Refuses π text (number_of f) (place_of f) × SaysWanted text (number_of f) (place_of f) (wanted_of f)
    go {k = k} (no_text_goes_on l g ng) first =
        let d = no_text_goes_on l g ng in
        let (w, x, only) = due_wants 32 text 2 k d (inl refl) in
        (refusal.Unexpected (record { 0 = k }) w, not_sound h (d, first), (inl refl, x))
    go (ends_too_soon g ng) first =
        let d = ends_too_soon g ng in
        let (w, x, only) = due_wants 32 text 3 (length text) d (inr refl) in
        (refusal.Ended (record { 0 = length text }) w, not_sound h (d, first), (inr refl, x))
    go {k = k} (too_deep_lem token at g gb nb) first = (refusal.TooDeep (record { 0 = k }), not_sound h (too_deep_lem token at g gb nb, first), neither 4 (inr (omega arith)))
refusal_of_lem π text n k (too_many x f) = (refusal.TooMany (record { 0 = length text }), too_many x f, neither 5 (inr (omega arith)))

reads_under : (π : Profile) (text : List ℕ) → (r : Result Rule Refusal) × ReadsUnder π text r
reads_under π text = ⊎_elim
    (λ (rule, x). (Ok rule, record { outcome = x }))
    (λ (n, k, x). let (f, due, says) = refusal_of_lem π text n k x in (Err f, record { outcome = (due, says) }))
    (read_or_refused π text)

reads_some : (profile : ℕ) (text : List ℕ) → (r : Result Rule Refusal) × Reads profile text r
reads_some profile text = go (known? profile)
  where
    go : Dec ((π : Profile) × ((dialect π).number ≡ profile)) → (r : Result Rule Refusal) × Reads profile text r
    go (yes (π, e)) = let (r, x) = reads_under π text in (r, known_reads profile π text r e x)
    go (no n) = (Err refusal.UnknownProfile, unknown_reads profile text (Err refusal.UnknownProfile) (λ π e. n (π, e)) refl)

pub reading_ends : (profile : ℕ) (text : List ℕ) → OneOutcome (Reads profile text)
reading_ends profile text = let (r, x) = reads_some profile text in the_one (reads_one profile text) r x

-- ---- calls that are given a rule

-- a rule's text can be printed, or is excessive
sound_or_excessive : (rule : Rule) (φ : Tree) → Numbers rule φ → Sound (text_of φ) (tree (written_as φ)) ⊎ Excessive φ
unfolding text_of
sound_or_excessive rule φ n =
    by_cases (dec_le (length (text_of φ)) 1024)
    (λ l. by_cases (dec_le (deep_in 4 (written_as φ)) 32)
    (λ d. inl (record { short = l; spells = (deep_exactly (written_as φ) known 4 32).1 d }))
    (λ d. inr (inr (deep_in 4 (written_as φ), depth_printed (written_as φ) known, omega arith))))
    (λ l. inr (inl (omega arith)))
  where
    known : Known (written_as φ)
    known = known_written φ n.fits.known

module _ (rule : Rule) where
  module _ (before : List ℕ) where
    prints_in : (φ : Tree) → Numbers rule φ → 1024 ≤ length before → (x : Answer ℕ × List ℕ) × Printing rule before x.1 x.0
    prints_in φ n l = ⊎_elim
        (λ s. (
          (Ok (length (text_of φ)), text_of φ ++ drop (length (text_of φ)) before),
          record { right = record { formula = φ; numbers = n; large = l; sound = s; long = refl; left = refl } },
        ))
        (λ e. ((Err TooLong, before), record { right = (printing.too_long n l e, refl) }))
        (sound_or_excessive rule φ n)

    prints : Dec (IsRule rule) → (x : Answer ℕ × List ℕ) × Printing rule before x.1 x.0
    prints (no n) = ((Err NotARule, before), record { right = (not_a_rule n, refl) })
    prints (yes (φ, n)) = by_cases (dec_le 1024 (length before)) (prints_in φ n)
        (λ l. ((Err ShortSlice, before), record { right = (short_slice (φ, n) (omega arith), refl) }))

    pub printing_ends : OneOutcome (λ (x : Answer ℕ × List ℕ). Printing rule before x.1 x.0)
    printing_ends = let ((r, after), x) = prints (is_rule? rule) in one_with (λ a b s t p q. printing_one rule before s t a b p q) r after x

  module _ (s : Series) where
    judges : Dec (IsRule rule) → (v : Answer Bool) × Judging rule s v
    judges (no n) = (Err NotARule, record { right = (refl, n) })
    judges (yes (φ, n)) = by_cases (answers? rule.profile φ s)
        (λ h. (Ok true, record { right = (φ, n, h) }))
        (λ h. (Ok false, record { right = (φ, n, h) }))

    pub judging_plainly_ends : OneOutcome (Judging rule s)
    judging_plainly_ends = let (v, x) = judges (is_rule? rule) in the_one (judging_one rule s) v x

  module _ (before : Slices) where
    long? : Dec (Long before)
    long? = same? (
      λ h. (h.masks_long, (h.starts_long, (h.accepts_long, h.edges_long))),
      λ (m, (s, (a, e))). record { masks_long = m; starts_long = s; accepts_long = a; edges_long = e },
    ) (both? (dec_le 128 (length before.masks)) (both? (dec_le 129 (length before.starts))
        (both? (dec_le 128 (length before.accepts)) (dec_le 8192 (length before.edges)))))

    builds_in : (φ : Tree) → Numbers rule φ → Long before → (x : Answer Counts × Slices) × Builds rule before (outcome x.0) x.1
    builds_in φ n l = ⊎_elim
        (λ m. ((Err TooLarge, zeroed before), building.too_much φ n l m))
        (λ f. ((Ok (record { states = length (states rule.profile φ); edges = length (edge_entries rule.profile φ) }), filled rule.profile φ before), building.tables φ n l f))
        (large_or_fine rule.profile φ)

    builds : Dec (IsRule rule) → (x : Answer Counts × Slices) × Builds rule before (outcome x.0) x.1
    builds (no n) = ((Err NotARule, before), building.not_a_rule n)
    builds (yes (φ, n)) = by_cases long? (builds_in φ n) (λ l. ((Err ShortSlice, before), building.short_slice (φ, n) l))

    pub building_ends : OneOutcome (λ (x : Answer Counts × Slices). Builds rule before (outcome x.0) x.1)
    building_ends = let ((r, after), x) = builds (is_rule? rule) in one_with (λ a b s t p q. build_one rule before a b s t p q) r after x

-- ---- calls on tables

pub good? : (t : Tables) → Dec (Good flags t)
good? t = go (tested (good_test flags t))
  where
    go : T (good_test flags t) ⊎ (T (good_test flags t) → ⊥) → Dec (Good flags t)
    go (inl h) = yes ((good_means flags t).0 h)
    go (inr n) = no (λ g. n ((good_means flags t).1 g))

taken? : (t : Tables) (m : Walk) → Dec (Taken t m)
taken? t m = both? (good? t) (same? (good_small t.states m, small_good t.states m)
    (dec_lt (mask m) (2 ^ t.states)))

-- a yes or no where the input is taken, and else refused
verdict_of_lem : (taken : Type 0) → Dec taken → (b : Bool) → (v : Answer Bool) × Told taken tt (λ said. Decides said (T b)) (outcome v)
verdict_of_lem taken (no n) b = (Err BadTables, (refl, refl, n))
verdict_of_lem taken (yes h) true = (Ok true, (h, tt))
verdict_of_lem taken (yes h) false = (Ok false, (h, λ x. x))

module _ (t : Tables) where
  module _ (m : Walk) where
    steps : (date : ℕ) → Dec (Taken t m) → (x : Answer (Unit {0}) × Walk) × Stepped t m date x.1 x.0
    steps date (yes h) = ((Ok tt, walk_of (moved flags t (mask m) date)), record { told = (h, refl) })
    steps date (no n) = ((Err BadTables, m), record { told = (refl, refl, n) })

    pub stepping_ends : (date : ℕ) → OneOutcome (λ (x : Answer (Unit {0}) × Walk). Stepped t m date x.1 x.0)
    stepping_ends date =
        let ((r, after), x) = steps date (taken? t m) in
        one_with (λ a b s u p q. step_one t m date s u a b p q) r after x

    pub answering_ends : OneOutcome (Answered t m)
    answering_ends =
        let (v, x) = verdict_of_lem (Taken t m) (taken? t m) (answer t (mask m)) in
        the_one (answer_one t m) v (record { told = x })

    pub closing_ends : OneOutcome (Closed t m)
    closing_ends =
        let (v, x) = verdict_of_lem (Taken t m) (taken? t m) (closed (mask m)) in
        the_one (closed_one t m) v (record { told = x })

  pub judging_ends : (s : Series) → OneOutcome (Judged t s)
  judging_ends s =
      let (v, x) = verdict_of_lem (Good flags t) (good? t) (answer t (walked flags t begun s)) in
      the_one (judge_one t s) v (record { told = x })

  module _ (before : List ℕ) where
    shows : room ≤ length before → Good flags t → (o : Option Series) → FirstFit flags t o → (x : Answer (Option ℕ) × List ℕ) × Searched t before x.1 x.0
    shows l g None f = ((Ok None, before), record { told = (l, g, (None, f, refl)) })
    shows l g (Some s) f =
        ((Ok (Some (length s)), s ++ drop (length s) before), record { told = (l, g, (Some s, f, (refl, fit_short flags t g s f, refl))) })

    searches : Dec (room ≤ length before) → Dec (Good flags t) → (x : Answer (Option ℕ) × List ℕ) × Searched t before x.1 x.0
    searches (no l) g = ((Err ShortSlice, before), record { told = (refl, inl (refl, omega arith)) })
    searches (yes l) (no n) = ((Err BadTables, before), record { told = (refl, inr (refl, l, n)) })
    searches (yes l) (yes g) = shows l g (fit flags t (column flags t)) (search_true flags t g)

    pub searching_ends : OneOutcome (λ (x : Answer (Option ℕ) × List ℕ). Searched t before x.1 x.0)
    searching_ends =
        let ((r, after), x) = searches (dec_le room (length before)) (good? t) in
        one_with (λ a b s u p q. search_one t before s u a b p q) r after x
