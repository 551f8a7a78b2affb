-- A text that was read from C: the plain judge and the tables answer from C by its tree. Assumes nothing.
use Rattle.std.specs.Prelude.{◌≡◌, refl, ◌↔◌, List, [], ◌∷◌, ◌++◌, ℕ, ◌*◌, ◌≤◌, length, take, drop, Option, None, Some, Bool, Err, Ok, false, true, Result}
use Rattle.std.proofs.Common.{sym, ap, ◌∙◌, subst, inl, inr, ⊎_elim, arith, take_at}
use Rattle.std.proofs.Math.Path.{subst⁻¹}
use Rattle.std.proofs.Math.Logic.Iff
use Rattle.answers.specs.Answers.{Outcome, gives, number_in}
use Rattle.answers.specs.Refusals.{outcome, Answer}
use Rattle.answers.specs.Laws.Told.{number_from, given_back}
use Rattle.meaning.specs.Formula.{Formula as Tree, Series}
use Rattle.meaning.specs.Syntax.{Syntax, nnf}
use Rattle.meaning.specs.Dialect.{dialect, AnswersYes, TextAnswersYes}
use Rattle.meaning.specs.Choosing.{profile_one}
use Rattle.meaning.specs.declared.Profile.{Profile}
use Rattle.rule.specs.Numbering.{formulas, Numbers, IsRule}
use Rattle.rule.proofs.ListingLaws.{rule_long}
use Rattle.rule.specs.declared.Rule.{Rule}
use Rattle.reading.specs.declared.Refusal.{Refusal}
use Rattle.reading.specs.Grammar.{Sound}
use Rattle.reading.specs.Promise.{Reads}
use Rattle.printing.specs.Printing.{Printing}
use Rattle.printing.specs.Outcome.{read_back}
use Rattle.plain.specs.Judging as plain
use Rattle.tables.specs.Building as building
use Rattle.tables.specs.Tables.{states, edge_entries}
use Rattle.tables.specs.Building.{Slices, filled, Builds, counts, made_of}
use Rattle.automaton.specs.Tables.{Tables}
use Rattle.automaton.specs.Walk.{begun}
use Rattle.walking.specs.Walks.{walk_of}
use Rattle.walking.specs.Answers.{Stepped, Along, Answered, Closed, Judged}
use Rattle.walking.specs.Theorems.{answer_one, closed_one, closed_stays}
use Rattle.walking.specs.declared.Walk.{Walk}
use Rattle.walking.specs.FitAnswers.{Shown}
use Rattle.calls.specs.ByteForm.{bytes_of, front, Encodes, FromBytes, RuleIs}
use Rattle.calls.specs.FormLaws.{length_bytes, rule_is_one, empty_not}
use Rattle.calls.specs.Answers.{Saying, said_number}
use Rattle.calls.specs.Promises.{JudgedPlainly, StepsTo, ReadSlots, read_number, read_left, ReadGives, fit_number, dates_left, BuildCall, PrintCall}
use Rattle.demands.specs.Fits.{FitOf}
use Rattle.demands.specs.Demand2.{YesExactly, ReadFromC}
use Rattle.demands.specs.RefusalTable.{ReadWithRoom}
use Rattle.demands.specs.Demand3.{ByTables, AlongFromC, ShowsFromC, ByTablesFromC}
use Rattle.demands.proofs.CallsLaws.{built_as}
use Rattle.demands.proofs.RefusalLawsFromC.{called}
use Rattle.demands.specs.TableLaws.{goes_on}
use Rattle.demands.specs.RefusalLaws.{refusal_numbers}
use Rattle.demands.specs.DemandLaws.{read_as, read_exactly, text_plainly, text_by_tables, rule_plainly, rule_by_tables}

-- ---- the rule that was read is the rule in the bytes

-- 0 is the number of a text that is read
zero_read : (r : Result Rule Refusal) → 0 ≡ read_number r → (rule : Rule) × (r ≡ Ok rule)
zero_read (Ok rule) e = (rule, refl)
zero_read (Err f) e = absurd (⊎_elim (λ (l, m). omega arith) (λ is. omega arith) (refusal_numbers f))

-- a rule that was read, and its bytes
pub record RuleRead (π : Profile) (text : List ℕ) (count : ℕ) (bytes : List ℕ) : Type 0 where
  pub rule : Rule
  pub reads : Reads (dialect π).number text (Ok rule)
  pub in_bytes : RuleIs (dialect π).number count bytes rule

front_bytes : (new old : List ℕ) (n : ℕ) → length new ≡ n → take n (front new old) ≡ new
unfolding front
front_bytes new old n e = take_at new (drop (length new) old) n e

module _ (π : Profile) (text : List ℕ) (count : ℕ) (bytes : List ℕ) where
  pub rule_read : ReadFromC π text count bytes → RuleRead π text count bytes
  rule_read x = go x.call.gives
    where
      go : ReadGives (dialect π).number text x.lent 0 x.left → RuleRead π text count bytes
      go (inl (short, e, same)) = absurd (omega arith)
      go (inr (enough, y)) =
          let (rule, e) = zero_read y.reading y.number in
          let reads = subst (Reads (dialect π).number text) e y.promised in
          let is = read_as π text rule reads in
          let long : length rule.entries ≡ 64 = rule_long rule (nnf is.tree) is.numbers in
          let left : x.left ≡ read_left (Ok rule) x.lent = y.leaves ∙ ap (λ (r : Result Rule Refusal). read_left r x.lent) e in
          let size : length (bytes_of rule.entries) ≡ 192 = length_bytes rule.entries ∙ ap (λ n. 3 * n) long in
          record {
            rule = rule;
            reads = reads;
            in_bytes = record {
              from = inl (record {
                profile_is = ap (λ (z : Profile). (dialect z).number) is.profile_is;
                counts = sym (ap (λ (s : ReadSlots). s.count) left) ∙ x.count_is;
                size = long;
                codes = sym (front_bytes (bytes_of rule.entries) x.lent.bytes 192 size) ∙ ap (λ (s : ReadSlots). take 192 s.bytes) (sym left) ∙ x.bytes_are;
              });
            };
          }

-- ---- answers as numbers

said_yes : (v : Answer Bool) → (said_number (outcome v) ≡ 1) ↔ (v ≡ Ok true)
said_yes (Ok true) = (λ e. refl, λ e. refl)
said_yes (Ok false) = (λ e. absurd (omega arith), λ e. absurd (let z : ◌≡◌ {A = ℕ} 0 1 = cc in omega arith))
said_yes (Err f) = (λ e. absurd (let from = number_from f in omega arith), λ e. absurd (let z : ◌≡◌ {A = ℕ} 0 1 = cc in omega arith))

said_no : (v : Answer Bool) → (said_number (outcome v) ≡ 0) ↔ (v ≡ Ok false)
said_no (Ok true) = (λ e. absurd (omega arith), λ e. absurd (let z : ◌≡◌ {A = ℕ} 0 1 = cc in omega arith))
said_no (Ok false) = (λ e. refl, λ e. refl)
said_no (Err f) = (λ e. absurd (let from = number_from f in omega arith), λ e. absurd (let z : ◌≡◌ {A = ℕ} 0 1 = cc in omega arith))

pub said_by : (P : Answer Bool → Type 0) (Fits : Type 0) → ((v : Answer Bool) → P v → YesExactly (Ok true) (Ok false) v Fits) → (r : ℕ) → Saying P r → YesExactly 1 0 r Fits
said_by P Fits says r x =
    let (y, n) = says x.verdict x.promised in
    subst⁻¹ (λ m. YesExactly 1 0 m Fits) x.number (Iff.trans (said_yes x.verdict) y, Iff.trans (said_no x.verdict) n)

-- ---- a walk from C is a walk

-- 0 is the number of a walk that went on
went_on : (r : Answer (Unit {0})) → 0 ≡ number_in (outcome r) → r ≡ Ok tt
went_on (Ok done) e = refl
went_on (Err f) e = absurd (let from = number_from f in omega arith)

steps_on : (t : Tables) (m next : Walk) (d : ℕ) → StepsTo t m.low m.high d 0 next.low next.high → Stepped t m d next (Ok tt)
steps_on t m next d x = subst (Stepped t m d next) (went_on x.stepped x.number) x.promised

along_from_c : (t : Tables) (m : Walk) (s : Series) (n : Walk) → AlongFromC t m s n → Along t m s n
along_from_c t m [] n e = e
along_from_c t m (d ∷ s) n (next, x, rest) = (next, steps_on t m next d x, along_from_c t next s n rest)

along_to_c : (t : Tables) (m : Walk) (s : Series) (n : Walk) → Along t m s n → AlongFromC t m s n
along_to_c t m [] n e = e
along_to_c t m (d ∷ s) n (next, x, rest) = (next, record { stepped = Ok tt; promised = x; number = refl }, along_to_c t next s n rest)

-- ---- by tables

module _ (Fits : Series → Type 0) (t : Tables) (by : ByTables Fits t) where
  shown : (out : List ℕ) (dates r : ℕ) (out' : List ℕ) (dates' : ℕ) (a : Outcome (Option ℕ) (Unit {0})) → r ≡ fit_number a → dates' ≡ dates_left a dates
      → (n : Option ℕ) × (o : Option Series) × (a ≡ gives n) × FitOf Fits o × Shown out out' o n → ShowsFromC Fits out dates r out' dates'
  shown out dates r out' dates' a er ed (None, None, e, f, same) = inr (er ∙ ap fit_number e, f, ed ∙ ap (λ a. dates_left a dates) e, same)
  shown out dates r out' dates' a er ed (Some n, Some s, e, f, (l, m, w)) =
      inl (er ∙ ap fit_number e, (s, f, omega arith, ed ∙ ap (λ a. dates_left a dates) e ∙ sym l, w ∙ ap (λ k. s ++ drop k out) (sym l)))
  shown out dates r out' dates' a er ed (None, Some s, e, f, x) = absurd x
  shown out dates r out' dates' a er ed (Some n, None, e, f, x) = absurd x

  pub by_tables_from_c : ByTablesFromC Fits t
  by_tables_from_c = record {
    good = by.good;
    goes_on = λ z low high b.
        let (n, along) = by.goes_on z in (n, subst⁻¹ (λ (w : Walk). AlongFromC t w z n) b.begins (along_to_c t (walk_of begun) z n along));
    judges = λ z r x. said_by (Judged t z) (Fits z) (by.judges z) r x;
    walks = λ z low high n r b along x. said_by (Answered t n) (Fits z)
        (λ v y. by.walks z n v (along_from_c t (walk_of begun) z n (subst (λ (w : Walk). AlongFromC t w z n) b.begins along)) y) r x;
    shows = λ out dates r out' dates' h x. shown out dates r out' dates' (outcome x.fitted) x.number x.left (by.shows out out' h x.fitted x.promised);
  }

-- a closed walk
module _ (t : Tables) (m : Walk) (x : Saying (Closed t m) 1) (z : Series) where
  is_closed : Closed t m (Ok true)
  is_closed = subst (Closed t m) ((said_yes x.verdict).0 (sym x.number)) x.promised

  pub closed_goes_on : (n : Walk) × AlongFromC t m z n
  closed_goes_on = let (n, along) = goes_on t m is_closed.told.0 z in (n, along_to_c t m z n along)

  pub closed_still : (n : Walk) → AlongFromC t m z n → ((r : ℕ) → Saying (Closed t n) r → r ≡ 1) × ((r : ℕ) → Saying (Answered t n) r → r ≡ 0)
  closed_still n along =
      let (still, said) = closed_stays t m z n is_closed (along_from_c t m z n along) in (
        λ r y. y.number ∙ ap (λ v. said_number (outcome v)) (closed_one t n y.verdict (Ok true) y.promised still),
        λ r y. y.number ∙ ap (λ v. said_number (outcome v)) (answer_one t n y.verdict (Ok false) y.promised said),
      )

-- ---- the rule in bytes

module _ (profile count : ℕ) (bytes : List ℕ) (rule : Rule) (in_bytes : RuleIs profile count bytes rule) where
  judged_by : (P : Type 0) (s : Series) (r : ℕ) → ((v : Answer Bool) → plain.Judging rule s v → YesExactly (Ok true) (Ok false) v P)
      → JudgedPlainly profile count bytes s r → YesExactly 1 0 r P
  judged_by P s r says j =
      let same = rule_is_one profile count bytes j.rule rule j.from in_bytes in
      let (y, n) = says j.judged (subst (λ (z : Rule). plain.Judging z s j.judged) same j.promised) in
      subst⁻¹ (λ m. YesExactly 1 0 m P) j.number (Iff.trans (said_yes j.judged) y, Iff.trans (said_no j.judged) n)

  built_by : (lent u : Slices) (states edges n k : ℕ) → BuildCall profile count bytes lent states edges 0 u n k → Builds rule lent (counts n k) u
  built_by lent u states edges n k b =
      let same = rule_is_one profile count bytes b.rule rule b.from in_bytes in
      let is = ap outcome (given_back b.built (record { states = n; edges = k }) (record { states = states; edges = edges }) b.number b.counts) in
      subst (λ (z : Rule). Builds z lent (counts n k) u) same (subst (λ (a : building.Answer). Builds b.rule lent a u) is b.promised)

-- that is handed in
module _ (π : Profile) (count : ℕ) (bytes : List ℕ) (rule : Rule) (encodes : Encodes (dialect π).number count bytes rule) where
  rule_is : RuleIs (dialect π).number count bytes rule
  rule_is = record { from = inl encodes }

  under : rule.profile ≡ π
  under = profile_one rule.profile π encodes.profile_is

  pub rule_plainly_from_c : (φ : Tree) → Numbers rule φ → (s : Series) (r : ℕ) → JudgedPlainly (dialect π).number count bytes s r → YesExactly 1 0 r (AnswersYes π φ s)
  rule_plainly_from_c φ n s r j = judged_by (dialect π).number count bytes rule rule_is (AnswersYes π φ s) s r (rule_plainly π rule under φ n s) j

  pub built_exactly_from_c : (lent u : Slices) (states' edges' n k : ℕ) → BuildCall (dialect π).number count bytes lent states' edges' 0 u n k
      → (φ : Tree) → Numbers rule φ → (n ≡ length (states π φ)) × (k ≡ length (edge_entries π φ)) × (u ≡ filled π φ lent)
  built_exactly_from_c lent u states' edges' n k b φ num =
      let made = built_by (dialect π).number count bytes rule rule_is lent u states' edges' n k b in
      let (en, ek, fine, left) = built_as rule lent φ num (counts n k) u made n k refl in
      subst (λ (z : Profile). (n ≡ length (states z φ)) × (k ≡ length (edge_entries z φ)) × (u ≡ filled z φ lent)) under (en, ek, left)

  pub rule_by_tables_from_c : (lent u : Slices) (states edges n k : ℕ) → BuildCall (dialect π).number count bytes lent states edges 0 u n k
      → (φ : Tree) → Numbers rule φ → ByTablesFromC (AnswersYes π φ) (made_of n k u)
  rule_by_tables_from_c lent u states edges n k b φ num =
      by_tables_from_c (AnswersYes π φ) (made_of n k u)
      (rule_by_tables π rule under lent u n k (built_by (dialect π).number count bytes rule rule_is lent u states edges n k b) φ num)

-- that was read of a text
module _ (π : Profile) (text : List ℕ) (count : ℕ) (bytes : List ℕ) (x : ReadFromC π text count bytes) (p : Syntax) (sound : Sound text p) where
  own : RuleRead π text count bytes
  own = rule_read π text count bytes x

  pub text_plainly_from_c : (s : Series) (r : ℕ) → JudgedPlainly (dialect π).number count bytes s r → YesExactly 1 0 r (TextAnswersYes π p s)
  text_plainly_from_c s r j =
      judged_by (dialect π).number count bytes own.rule own.in_bytes (TextAnswersYes π p s) s r
      (text_plainly π text own.rule own.reads p sound s) j

  pub text_by_tables_from_c : (lent u : Slices) (states edges n k : ℕ) → BuildCall (dialect π).number count bytes lent states edges 0 u n k
      → ByTablesFromC (TextAnswersYes π p) (made_of n k u)
  text_by_tables_from_c lent u states edges n k b =
      by_tables_from_c (TextAnswersYes π p) (made_of n k u)
      (text_by_tables π text own.rule own.reads p sound lent u n k
      (built_by (dialect π).number count bytes own.rule own.in_bytes lent u states edges n k b))

-- ---- read exactly when sound, and read back

pub read_exactly_from_c : (π : Profile) (text : List ℕ) (lent : ReadSlots) (r : ℕ) (left : ReadSlots) → ReadWithRoom π text lent r left
    → (r ≡ 0) ↔ ((p : Syntax) × Sound text p × (length (formulas (nnf p)) ≤ (dialect π).most))
read_exactly_from_c π text lent r left x =
    let y = called π text lent r left x in
    Iff.trans (λ e. zero_read y.reading (sym e ∙ y.number), λ (rule, e). y.number ∙ ap read_number e) (read_exactly π text y.reading y.promised)

module _ (π : Profile) (count : ℕ) (bytes out : List ℕ) (size : ℕ) (out' : List ℕ) (size' : ℕ) (x : PrintCall (dialect π).number count bytes out size 0 out' size') where
  prints : Printing x.rule out out' (Ok size')
  prints = subst (Printing x.rule out out') (given_back x.printed size' size x.number x.left) x.promised

  -- a rule that prints is one, so it is in the bytes
  encodes : Encodes (dialect π).number count bytes x.rule
  encodes = go x.from.from
    where
      go : FromBytes (dialect π).number count bytes x.rule → Encodes (dialect π).number count bytes x.rule
      go (inl u) = u
      go (inr u) = absurd (empty_not (subst IsRule u.0 (prints.right.formula, prints.right.numbers)))

  pub printed_read_back_from_c : (lent : ReadSlots) (r : ℕ) (left : ReadSlots) → ReadWithRoom π (take size' out') lent r left
      → (r ≡ 0) × (left.count ≡ count) × (take 192 left.bytes ≡ bytes)
  printed_read_back_from_c lent r left w =
      let y = called π (take size' out') lent r left w in
      let same : y.reading ≡ Ok x.rule = read_back x.rule out out' size' prints y.reading
      (subst⁻¹ (λ n. Reads n (take size' out') y.reading) encodes.profile_is y.promised) in
      let l : left ≡ read_left (Ok x.rule) lent = y.leaves ∙ ap (λ (r : Result Rule Refusal). read_left r lent) same in
      let size : length (bytes_of x.rule.entries) ≡ 192 = length_bytes x.rule.entries ∙ ap (λ n. 3 * n) encodes.size in (
        y.number ∙ ap read_number same,
        ap (λ (s : ReadSlots). s.count) l ∙ encodes.counts,
        ap (λ (s : ReadSlots). take 192 s.bytes) l ∙ front_bytes (bytes_of x.rule.entries) lent.bytes 192 size ∙ encodes.codes,
      )
