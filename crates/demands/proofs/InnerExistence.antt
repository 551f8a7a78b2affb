-- Each public call that the library's calls are made of has an outcome for every input. Assumes nothing.
use Rattle.std.specs.Prelude.{◌≡◌, refl, ◌↔◌, ◌⊎◌, Bool, true, false, cond, List, [], ◌∷◌, ◌++◌, ℕ, zero, suc, ◌+◌, ◌*◌, ◌^◌, ◌≤◌, ◌<◌, T, eqb, length, get_or, take, drop, Result, Err, Ok, Option, None, Some}
use Rattle.std.proofs.Common.{sym, ap, ◌∙◌, subst, inl, inr, ⊎_elim, le_refl, not-suc-le-zero, le_of_suc-le-suc, eq-or-lt_of_le, arith, length-append, length-drop, length-take-le}
use Rattle.std.proofs.Math.Path.{subst⁻¹}
use Rattle.std.proofs.Math.Logic.{by_cases}
use Rattle.std.proofs.Math.Decide.{ℕ_discrete, dec_le, dec_lt}
use Rattle.laws.specs.Decided.{Decides, decides_one, decides_means, test, test_means, both?, same?, tested}
use Rattle.laws.specs.Masks.{has, mask_of, mask_below, bit_mask, bit_beyond, bit_means}
use Rattle.answers.specs.Refusals.{Answer}
use Rattle.answers.specs.declared.Refusal.TheVariants.{NotARule, ShortSlice, BadTables}
use Rattle.meaning.specs.Flags.{flags}
use Rattle.meaning.specs.Formula.{Series, one}
use Rattle.meaning.specs.Dialect.{dialect, Chooses}
use Rattle.meaning.specs.Choosing.{known?, chooses_one}
use Rattle.meaning.specs.declared.Profile.{Profile}
use Rattle.meaning.specs.declared.UnknownProfile.{UnknownProfile}
use Rattle.rule.specs.Numbering.{formulas, formula_at, IsRule}
use Rattle.rule.specs.Coding.{code_of, Decodes, decodes_one, decoded, decoded_code, FoundIs, found_one}
use Rattle.rule.specs.Testing.{Tested, rule_in, tested_one}
use Rattle.rule.proofs.Deciding.{same_code?, same_formula?, is_rule?}
use Rattle.rule.specs.declared.Formula.{Formula}
use Rattle.rule.specs.declared.Rule.{Rule}
use Rattle.rule.specs.declared.Code.{Code}
use Rattle.rule.specs.declared.UnknownCode.{UnknownCode}
use Rattle.rule.specs.declared.numbering.Numbering.{Numbering}
use Rattle.rule.specs.declared.FormulaNo.{FormulaNo}
use Rattle.plain.specs.Ends.{EndsOf}
use Rattle.plain.specs.EndsLaws.{ends_of_one}
use Rattle.automaton.specs.Tables.{Tables, Good}
use Rattle.automaton.specs.Walk.{walked, begun, answer}
use Rattle.automaton.specs.Column.{Filled}
use Rattle.automaton.specs.Handed.{seen}
use Rattle.automaton.specs.Checking.{Checked, tables_in}
use Rattle.automaton.specs.declared.Tables.{Tables as Handed}
use Rattle.automaton.specs.declared.good.GoodTables.{GoodTables}
use Rattle.automaton.proofs.CheckingLaws.{checked_one}
use Rattle.automaton.proofs.ColumnLaws.{column_laid, fewest_one}
use Rattle.automaton.specs.Rounds.{column}
use Rattle.walking.specs.Walks.{Accepted}
use Rattle.walking.specs.Text.{newline, answer_text, wanted_word, counts_text, refused_text, fit_text, no_fit_text, Written}
use Rattle.walking.specs.TextLaws.{decimal_short, dates_length}
use Rattle.walking.specs.Output.{Unbroken}
use Rattle.walking.specs.Progress.{between, kept}
use Rattle.walking.specs.ProgressLaws.{unbroken_none, unbroken_more}
use Rattle.walking.specs.Promises.{EndsAt, Ready, Takes, Answering, Carries, Puts}
use Rattle.walking.specs.PromisesLaws.{ends_newline, ends_last, answer_short, reaches_none, reaches_line, takes_all, takes_full, puts_none, puts_all}
use Rattle.walking.specs.Answering.{TakesLine, Reaches}
use Rattle.walking.specs.Outcomes.{ends_one, answering_one, carries_one, puts_one}
use Rattle.walking.specs.declared.lines.Progress.{Progress}
use Rattle.demands.specs.EveryCall.{OneOutcome, EveryInnerCall}
use Rattle.demands.specs.Answering.{answer_of}
use Rattle.demands.proofs.Existence.{the_one, one_with, good?}

-- what is decided has one answer
decided : {P : Type 0} → Dec P → OneOutcome (λ r. Decides r P)
decided {P} p? =
    let d : Decides (test p?) P = decides_means (test p?) (test_means p?) in
    the_one (decides_one P) (test p?) d

-- ---- the profile of a number

chooses : (n : ℕ) → Dec ((π : Profile) × ((dialect π).number ≡ n)) → (r : Result Profile UnknownProfile) × Chooses n r
chooses n (yes (π, e)) = (Ok π, record { chosen = e })
chooses n (no unknown) = (Err (record {}), record { chosen = λ π e. unknown (π, e) })

choosing_ends : (n : ℕ) → OneOutcome (Chooses n)
choosing_ends n = let (r, x) = chooses n (known? n) in the_one (chooses_one n) r x

-- ---- formulas and rules

module _ (c : Code) where
  -- only the formula that it decodes to can have a code
  decodes_with : Dec (code_of (decoded c) ≡ c) → (r : Result Formula UnknownCode) × Decodes c r
  decodes_with (yes e) = (Ok (decoded c), record { decodes = e })
  decodes_with (no n) = (Err (record {}), record { decodes = λ f e. n (ap code_of (sym (ap decoded e) ∙ decoded_code f) ∙ e) })

  decoding_ends : OneOutcome (Decodes c)
  decoding_ends = let (r, x) = decodes_with (same_code? (code_of (decoded c)) c) in the_one (decodes_one c) r x

module _ (entries : List Formula) (formula : Formula) where
  -- one entry more
  finds_next : (n : ℕ) → Dec (formula_at entries n ≡ formula) → (f : Option FormulaNo) → FoundIs entries n formula f → (g : Option FormulaNo) × FoundIs entries (suc n) formula g
  finds_next n here? (Some i) x = let (below, is, first) = x.finding in (Some i, record { finding = (omega arith, is, first) })
  finds_next n (yes e) None x = (Some (record { 0 = n }), record { finding = (le_refl (suc n), e, x.finding) })
  finds_next n (no other) None x = (None, record { finding = nowhere })
    where
      nowhere : (k : ℕ) → k < suc n → formula_at entries k ≡ formula → ⊥
      nowhere k h e = ⊎_elim
          (λ s. other (subst (λ i. formula_at entries i ≡ formula) s e))
          (λ l. x.finding k l e)
          (eq-or-lt_of_le (le_of_suc-le-suc h))

  finds : (n : ℕ) → (f : Option FormulaNo) × FoundIs entries n formula f
  finds zero = (None, record { finding = λ k h e. not-suc-le-zero h })
  finds (suc n) = let (f, x) = finds n in finds_next n (same_formula? (formula_at entries n) formula) f x

  finding_ends : (count : ℕ) → OneOutcome (FoundIs entries count formula)
  finding_ends count = let (f, x) = finds count in the_one (found_one entries count formula) f x

-- the mask of the numbers that pass has these and no others
mask_has : (n : ℕ) (f : ℕ → Bool) (k : ℕ) → has (mask_of n f) k ↔ ((k < n) × T (f k))
mask_has n f k = (
  λ h. by_cases (dec_lt k n)
      (λ l. (l, subst T (bit_mask n f k l) ((bit_means (mask_of n f) k).1 h)))
      (λ l. absurd (subst T (bit_beyond n (mask_of n f) k (mask_below n f) (omega arith)) ((bit_means (mask_of n f) k).1 h))),
  λ (l, p). (bit_means (mask_of n f) k).0 (subst⁻¹ T (bit_mask n f k l) p),
)

module _ (rule : Rule) where
  tests : Dec (IsRule rule) → (r : Option Numbering) × Tested rule r
  tests (yes n) = (Some (record { rule = record { ref_ptr = (0, 0); now = rule }; is_rule = ∣ n ∣₁ }), record { tested = (n, refl) })
  tests (no n) = (None, record { tested = n })

  testing_ends : OneOutcome (λ a. (r : Option Numbering) × Tested rule r × (rule_in r ≡ a))
  testing_ends =
      let (r, x) = tests (is_rule? rule) in
      record { outcome = rule_in r; promised = (r, x, refl); only = λ a (q, y, e). sym e ∙ tested_one rule q r y x }

  ends_with : Dec (IsRule rule) → (r : Answer ℕ) × EndsOf rule r
  ends_with (yes (φ, n)) =
      let alone : ℕ → Bool = λ k. (dialect rule.profile).accepts (2 ^ k) (get_or (formulas φ) k one ∷ []) in
      (Ok (mask_of (length (formulas φ)) alone), record { right = (φ, n, mask_has (length (formulas φ)) alone) })
  ends_with (no n) = (Err NotARule, record { right = (refl, n) })

  ends_ends : OneOutcome (EndsOf rule)
  ends_ends = let (r, x) = ends_with (is_rule? rule) in the_one (ends_of_one rule) r x

-- ---- tables

module _ (t : Handed) where
  checks : Dec (Good flags (seen t)) → (r : Answer GoodTables) × Checked t r
  checks (yes g) = (Ok (record { tables = t; good = g }), record { found = (g, refl) })
  checks (no n) = (Err BadTables, record { found = (refl, n) })

  checking_ends : OneOutcome (λ a. (r : Answer GoodTables) × Checked t r × (tables_in r ≡ a))
  checking_ends =
      let (r, x) = checks (good? (seen t)) in
      record { outcome = tables_in r; promised = (r, x, refl); only = λ a (q, y, e). sym e ∙ checked_one t q r y x }

module _ (t : Tables) (old : List ℕ) where
  -- the true counts, and then what was behind the old ones
  abbrev counted : List ℕ
  counted = column flags t ++ drop t.states old

  fills : Dec (Good flags t) → Dec (t.states ≤ length old) → (x : Answer (Unit {0}) × List ℕ) × Filled t old x.1 x.0
  fills (yes g) (yes h) = ((Ok tt, counted), record { told = (g, h, column_laid t g old h) })
  fills (yes g) (no h) = ((Err ShortSlice, old), record { told = (refl, inr (refl, g, omega arith)) })
  fills (no g) h? = ((Err BadTables, old), record { told = (refl, inl (refl, g)) })

  fewest_ends : OneOutcome (λ (x : Answer (Unit {0}) × List ℕ). Filled t old x.1 x.0)
  fewest_ends =
      let ((b, new), x) = fills (good? t) (dec_le t.states (length old)) in
      one_with (λ a c s u p q. fewest_one t old s u a c p q) b new x

-- ---- where a line ends

module _ (bytes : List ℕ) (from : ℕ) where
  -- no byte up to `at` ends the line, and n are left
  ends_from : (n at : ℕ) → from ≤ at → length bytes ≤ at + n → Unbroken (between from at bytes) → (e : ℕ) × EndsAt bytes from e
  ends_from zero at h l u = (length bytes, ends_last bytes from at (omega arith) u)
  ends_from (suc n) at h l u = by_cases (dec_lt at (length bytes))
      (λ k. by_cases (ℕ_discrete (get_or bytes at 0) newline)
      (λ e. (at, ends_newline bytes from at h k u e))
      (λ ne. ends_from n (at + 1) (omega arith) (omega arith) (unbroken_more bytes from at h k ne u)))
      (λ k. (length bytes, ends_last bytes from at (omega arith) u))

  ends_some : (e : ℕ) × EndsAt bytes from e
  ends_some = ends_from (length bytes) from (le_refl from) (omega arith) (unbroken_none bytes from)

  line_end_ends : OneOutcome (EndsAt bytes from)
  line_end_ends = let (e, x) = ends_some in the_one (ends_one bytes from) e x

-- ---- a text in a slice

abbrev written_in : List ℕ → ℕ → List ℕ → List ℕ
written_in before at text = (take at before ++ text) ++ drop (at + length text) before

writes : (before : List ℕ) (at : ℕ) (text : List ℕ) → at + length text ≤ length before → Written before at text (at + length text) (written_in before at text)
writes before at text h =
    let a = length-append (take at before ++ text) (drop (at + length text) before) in
    let b = length-append (take at before) text in
    let c = length-take-le at before (omega arith) in
    let d = length-drop (at + length text) before in
    record { ends = refl; within = h; long = omega arith; bytes = refl }

-- a text that the room is enough for
puts : (text : List ℕ) (room : ℕ) → length text ≤ room → (before : List ℕ) → OneOutcome (λ (x : ℕ × List ℕ). Puts text room before x.0 x.1)
puts text room fits before = go (dec_le room (length before))
  where
    go : Dec (room ≤ length before) → OneOutcome (λ (x : ℕ × List ℕ). Puts text room before x.0 x.1)
    go (yes h) = one_with (λ a b s t p q. puts_one text room before a b s t p q) (0 + length text) (written_in before 0 text)
        (puts_all text room before (0 + length text) (written_in before 0 text) h (writes before 0 text (omega arith)))
    go (no h) = one_with (λ a b s t p q. puts_one text room before a b s t p q) 0 before (puts_none text room before (omega arith))

-- the room that is asked for is enough for each text
either_short : (b : Bool) (x y : List ℕ) (n : ℕ) → length x ≤ n → length y ≤ n → length (cond b x y) ≤ n
either_short true x y n h k = h
either_short false x y n h k = k

word_short : (wanted : ℕ) → length (wanted_word wanted) ≤ 10
word_short wanted =
    either_short (eqb wanted 1) _ _ 10 (omega arith) (either_short (eqb wanted 2) _ _ 10 (omega arith) (either_short (eqb wanted 3) _ _ 10 (omega arith) (omega arith)))

counts_text_short : (states edges : ℕ) → states < 2 ^ 64 → edges < 2 ^ 64 → length (counts_text states edges) ≤ 64
counts_text_short states edges h k =
    let a = decimal_short states h in
    let b = decimal_short edges k in
    simp length-append (omega arith)

refused_text_short : (number place wanted : ℕ) → number < 2 ^ 64 → place < 2 ^ 64 → length (refused_text number place wanted) ≤ 64
refused_text_short number place wanted h k =
    let a = decimal_short number h in
    let b = decimal_short place k in
    let c = word_short wanted in
    simp length-append (omega arith)

fit_text_short : (s : Series) → length (fit_text s) ≤ 10 + 2 * length s
fit_text_short s = let l = dates_length s in simp length-append (omega arith)

-- ---- lines answered

accepted? : (t : Tables) (s : Series) → Dec (Accepted t s)
accepted? t s = go (tested (answer t (walked flags t begun s)))
  where
    go : Accepted t s ⊎ (Accepted t s → ⊥) → Dec (Accepted t s)
    go (inl y) = yes y
    go (inr n) = no n

module _ (t : Tables) (bytes : List ℕ) (from : Progress) (before : List ℕ) where
  ready? : Dec (Ready t bytes from before)
  ready? = same? (
    λ r. (r.good, (r.at, (r.end, r.number))),
    λ (g, (a, (e, n))). record { good = g; at = a; end = e; number = n },
  ) (both? (good? t) (both? (dec_le from.at (length bytes)) (both? (dec_le from.end (length before))
      (dec_lt (from.number + length bytes) (2 ^ 64 + from.at)))))

  module _ (ready : Ready t bytes from before) where
    -- one line more
    reaches_next : (p : Progress) (now : List ℕ) → Reaches (Accepted t) bytes from before p now → p.end + 25 ≤ length before
        → (stop : ℕ) → EndsAt bytes p.at stop → stop < length bytes
        → (q : Progress) × (after : List ℕ) × (p.at < q.at) × Reaches (Accepted t) bytes from before q after
    reaches_next p now so room stop ends h =
        let line = between p.at stop bytes in
        let (a, is) = answer_of (Accepted t) (accepted? t) line in
        let text = answer_text p.number a in
        let (low, byte) = ends.newline h in
        let counted = so.counted in
        let few = ready.number in
        let short = answer_short p.number a (omega arith) in
        let long = so.written.long in
        let q : Progress = record { at = stop + 1; end = p.end + length text; number = p.number + 1 } in
        let takes : TakesLine (Accepted t) bytes p stop now q (written_in now p.end text) =
        record { answer = a; is = is; written = writes now p.end text (omega arith); at = refl; number = refl } in
        (q, written_in now p.end text, omega arith, reaches_line (Accepted t) bytes from before p now so q stop (written_in now p.end text) room ends h takes)

    -- n bytes are left at most
    takes_from : (n : ℕ) (p : Progress) (now : List ℕ) → Reaches (Accepted t) bytes from before p now → length bytes ≤ p.at + n
        → (to : Progress) × (after : List ℕ) × Takes (Accepted t) bytes from before to after
    takes_from zero p now so l =
        (p, now, takes_all (Accepted t) bytes from before p now so (ends_last bytes p.at p.at (omega arith) (unbroken_none bytes p.at)))
    takes_from (suc n) p now so l = by_cases (dec_le (p.end + 25) (length before))
        (λ room. let (stop, ends) = ends_some bytes p.at in by_cases (dec_lt stop (length bytes))
        (λ h. let (q, after, on, further) = reaches_next p now so room stop ends h in takes_from n q after further (omega arith))
        (λ h. let last : stop ≡ length bytes = let w = ends.within in omega arith in
        (p, now, takes_all (Accepted t) bytes from before p now so (subst (EndsAt bytes p.at) last ends))))
        (λ room. (p, now, takes_full (Accepted t) bytes from before p now so (omega arith)))

  answers_lines : Dec (Ready t bytes from before) → (x : Answer Progress × List ℕ) × Answering t bytes from before x.0 x.1
  answers_lines (yes ready) =
      let start = reaches_none (Accepted t) bytes from before ready.at ready.end in
      let (to, after, takes) = takes_from ready (length bytes) from before start (omega arith) in
      ((Ok to, after), record { told = (ready, takes) })
  answers_lines (no n) = ((Err BadTables, before), record { told = (refl, refl, n) })

  answering_lines_ends : OneOutcome (λ (x : Answer Progress × List ℕ). Answering t bytes from before x.0 x.1)
  answering_lines_ends =
      let ((r, after), x) = answers_lines ready? in
      one_with (λ a b s u p q. answering_one t bytes from before a b s u p q) r after x

-- ---- bytes carried

carrying_ends : (before : List ℕ) (at end : ℕ) → OneOutcome (λ (x : ℕ × List ℕ). Carries before at end x.0 x.1)
carrying_ends before at end =
    let part = kept (between at end before) in
    one_with (λ a b s t p q. carries_one before at end a b s t p q) (length part) (part ++ drop (length part) before) (record { count = refl; bytes = refl })

pub every_inner_call : EveryInnerCall
every_inner_call = record {
  choosing = choosing_ends;
  same = λ a b. decided (same_formula? a b);
  same_code = λ x y. decided (same_code? x y);
  decoding = decoding_ends;
  finding = λ entries count formula. finding_ends entries formula count;
  is_numbering = λ rule. decided (is_rule? rule);
  testing = testing_ends;
  ends = ends_ends;
  tables_good = λ t. decided (good? t);
  checking = checking_ends;
  fewest = fewest_ends;
  line_end = line_end_ends;
  answering_lines = answering_lines_ends;
  carrying = carrying_ends;
  putting_counts = λ states edges before h k. puts (counts_text states edges) 64 (counts_text_short states edges h k) before;
  putting_refused = λ number place wanted before h k. puts (refused_text number place wanted) 64 (refused_text_short number place wanted h k) before;
  putting_fit = λ s before. puts (fit_text s) (10 + 2 * length s) (fit_text_short s) before;
  putting_no_fit = λ before. puts no_fit_text 9 (omega arith) before;
}
