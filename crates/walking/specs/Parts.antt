-- An input that comes in parts is answered as the whole, though of a line that has not ended no more than 8,193 bytes are kept. Assumes nothing.
use Rattle.std.specs.Prelude.{◌≡◌, refl, List, [], ◌∷◌, ◌++◌, ℕ, zero, suc, ◌+◌, ◌-◌, ◌<◌, length, take, drop}
use Rattle.std.proofs.Common.{sym, ap, ap₂, ◌∙◌, subst, subst₂, append-nil, append_assoc, arith, length-take, take-append-drop, take_all, drop-drop}
use Rattle.std.proofs.Math.Path.{subst⁻¹}
use Rattle.std.proofs.Math.Logic.{by_cases}
use Rattle.std.proofs.Math.Decide.{dec_lt}
use Rattle.laws.specs.Lists.{all_append}
use Rattle.walking.specs.declared.lines.Answer.{Answer}
use Rattle.walking.specs.declared.lines.Answer.TheVariants.{Yes, No, Bad}
use Rattle.walking.specs.declared.lines.Progress.{Progress}
use Rattle.walking.specs.Series.{AnswerIs}
use Rattle.walking.specs.ReadingLaws.{bad_long}
use Rattle.walking.specs.Text.{newline, answer_text}
use Rattle.walking.specs.Output.{Unbroken, ended, Lines, last_line_of, AnswersAre, Answered}
use Rattle.walking.specs.Progress.{Told, kept, joined, InParts}
use Rattle.walking.specs.ProgressLaws.{told_both, told_line, told_none, told_answered, lines_one}
use Rattle.walking.specs.Promises.{behind, Answers, all, full, next}

-- ---- a line is answered by what is kept of it

too_long : (Fits : List ℕ → Type 0) (line : List ℕ) (a : Answer) → 8192 < length line → AnswerIs Fits line a → a ≡ Bad
too_long Fits line Yes h (s, i, f) = absurd (bad_long line h s i)
too_long Fits line No h (s, i, f) = absurd (bad_long line h s i)
too_long Fits line Bad h b = refl

-- two lines of which the same is kept have the same answer
alike : (Fits : List ℕ → Type 0) (x y : List ℕ) (a : Answer) → kept x ≡ kept y → AnswerIs Fits x a → AnswerIs Fits y a
alike Fits x y a e p =
    let sizes = sym (length-take 8193 x) ∙ ap length e ∙ length-take 8193 y in
    by_cases (dec_lt 8192 (length x))
    (λ h. subst⁻¹ (AnswerIs Fits y) (too_long Fits x a h p) (bad_long y (omega arith)))
    (λ h. subst (λ z. AnswerIs Fits z a) (sym (take_all 8193 x (omega arith)) ∙ e ∙ take_all 8193 y (omega arith)) p)

kept_kept : (line : List ℕ) → kept (kept line) ≡ kept line
kept_kept line = take_all 8193 (kept line) (let e = length-take 8193 line in omega arith)

pub kept_unbroken : (line : List ℕ) → Unbroken line → Unbroken (kept line)
kept_unbroken line u = ((all_append (λ z. z ≡ newline → ⊥) (kept line) (drop 8193 line)).0 (subst⁻¹ Unbroken (take-append-drop 8193 line) u)).0

pub kept_answer : (Fits : List ℕ → Type 0) (line : List ℕ) (a : Answer) → AnswerIs Fits (kept line) a → AnswerIs Fits line a
kept_answer Fits line a = alike Fits (kept line) line a (kept_kept line)

-- ---- and so are the lines that go on

take_append : (n : ℕ) (xs ys : List ℕ) → take n (xs ++ ys) ≡ take n xs ++ take (n - length xs) ys
take_append zero xs ys = let e : 0 - length xs ≡ 0 = omega arith in rw e
take_append (suc n) [] ys = let e : suc n - 0 ≡ suc n = omega arith in rw e
take_append (suc n) (x ∷ xs) ys = let e : suc n - suc (length xs) ≡ n - length xs = omega arith in rw e (ap (λ z. x ∷ z) (take_append n xs ys))

kept_on : (x y z : List ℕ) → kept x ≡ kept y → kept (x ++ z) ≡ kept (y ++ z)
kept_on x y z e =
    let sizes = sym (length-take 8193 x) ∙ ap length e ∙ length-take 8193 y in
    let room : 8193 - length x ≡ 8193 - length y = omega arith in
    take_append 8193 x z ∙ ap₂ (λ u v. u ++ take v z) e room ∙ sym (take_append 8193 y z)

-- the first line of u and more begins with u
record Begins (u bytes l rest : List ℕ) : Type 0 where
  more : List ℕ
  line : l ≡ u ++ more
  part : bytes ≡ more ++ newline ∷ rest

begins : (u part l rest : List ℕ) → Unbroken u → u ++ part ≡ l ++ newline ∷ rest → Begins u part l rest
begins [] part l rest w e = record { more = l; line = refl; part = e }
begins (x ∷ u) part [] rest w e = let z : x ≡ newline = cc in absurd (w.0 z)
begins (x ∷ u) part (y ∷ l) rest w e =
    let h : x ≡ y = cc in
    let t : u ++ part ≡ l ++ newline ∷ rest = cc in
    let b = begins u part l rest w.1 t in
    record { more = b.more; line = ap₂ (λ i j. i ∷ j) (sym h) b.line; part = b.part }

-- what was held may be exchanged for another line's bytes of which the same is kept
record Exchanged (Fits : List ℕ → Type 0) (bytes : List ℕ) (n : ℕ) (text left : List ℕ) (m : ℕ) : Type 0 where
  rest : List ℕ
  same : kept left ≡ kept rest
  told : Told Fits bytes n text rest m

module _ (Fits : List ℕ → Type 0) where
  exchanged : (x y part : List ℕ) (n : ℕ) (text left : List ℕ) (m : ℕ) → Unbroken x → Unbroken y → kept x ≡ kept y → Told Fits (x ++ part) n text left m
      → Exchanged Fits (y ++ part) n text left m
  exchanged x y part n text left m u v e p = go p.lines p.are p.answers p.number
    where
      go : (lines : List (List ℕ)) → Lines (x ++ part) lines left → AnswersAre Fits n lines text → m ≡ n + length lines → Exchanged Fits (y ++ part) n text left m
      go [] are said number =
          let whole : x ++ part ≡ left = are.text in
          let tail : Unbroken part = ((all_append (λ z. z ≡ newline → ⊥) x part).0 (subst⁻¹ Unbroken whole are.rest)).1 in
          record {
            rest = y ++ part;
            same = ap kept (sym whole) ∙ kept_on x y part e;
            told = record {
              lines = [];
              are = record { text = refl; unbroken = tt; rest = (all_append (λ z. z ≡ newline → ⊥) y part).1 (v, tail) };
              answers = said;
              number = number;
            };
          }
      go (l ∷ ls) are (a, rest, is, eq, others) number =
          let b = begins x part l (ended ls ++ left) u (are.text ∙ append_assoc l (newline ∷ ended ls) left) in
          record {
            rest = left;
            same = refl;
            told = record {
              lines = (y ++ b.more) ∷ ls;
              are = record {
                text =
                    ap (λ z. y ++ z) b.part ∙ sym (append_assoc y b.more (newline ∷ ended ls ++ left))
                    ∙ sym (append_assoc (y ++ b.more) (newline ∷ ended ls) left);
                unbroken = (
                  (all_append (λ z. z ≡ newline → ⊥) y b.more).1 (v, ((all_append (λ z. z ≡ newline → ⊥) x b.more).0 (subst Unbroken b.line are.unbroken.0)).1),
                  are.unbroken.1,
                );
                rest = are.rest;
              };
              answers = (a, rest, alike Fits (x ++ b.more) (y ++ b.more) a (kept_on x y b.more e) (subst (λ z. AnswerIs Fits z a) b.line is), eq, others);
              number = number;
            };
          }

  last_alike : (x y : List ℕ) (n : ℕ) (text : List ℕ) → kept x ≡ kept y → AnswersAre Fits n (last_line_of x) text → AnswersAre Fits n (last_line_of y) text
  last_alike [] [] n text e p = p
  last_alike [] (b ∷ y) n text e p = absurd (let z = ap length e in omega arith)
  last_alike (a ∷ x) [] n text e p = absurd (let z = ap length e in omega arith)
  last_alike (a ∷ x) (b ∷ y) n text e (answer, rest, is, eq, others) = (answer, rest, alike Fits (a ∷ x) (b ∷ y) answer e is, eq, others)

  -- the answers from a line on of which y has come, where x is held
  goes_on : (parts : List (List ℕ)) (x y : List ℕ) (n : ℕ) (text : List ℕ) → Unbroken x → Unbroken y → kept x ≡ kept y → InParts Fits x n parts text
      → (front : List ℕ) × (last : List ℕ) × (left : List ℕ) × (m : ℕ) × Told Fits (y ++ joined parts) n front left m × AnswersAre Fits m (last_line_of left) last × (text ≡ front ++ last)
  goes_on [] x y n text u v e p =
      ([], text, y, n, subst⁻¹ (λ z. Told Fits z n [] y n) (append-nil y) (told_none Fits y n v), last_alike x y n text e p, refl)
  goes_on (part ∷ parts) x y n text u v e (first, second, left, m, told, eq, more) =
      let f = exchanged x y part n first left m u v e told in
      let (front, last, rest, k, whole, answers, so) = goes_on parts (kept left) f.rest m second (kept_unbroken left told.are.rest) f.told.are.rest (kept_kept left ∙ f.same) more in (
        first ++ front,
        last,
        rest,
        k,
        subst (λ z. Told Fits z n (first ++ front) rest k) (append_assoc y part (joined parts)) (told_both Fits (y ++ part) (joined parts) n m k first front f.rest rest f.told whole),
        answers,
        eq ∙ ap (λ z. first ++ z) so ∙ sym (append_assoc first front last),
      )

  -- an input in any parts is answered as the whole
  pub parts_answered : (parts : List (List ℕ)) (text : List ℕ) → InParts Fits [] 1 parts text → Answered Fits (joined parts) text
  parts_answered parts text p =
      let (front, last, left, m, whole, answers, so) = goes_on parts [] [] 1 text tt tt refl p in
      subst⁻¹ (Answered Fits (joined parts)) so (told_answered Fits (joined parts) front left last m whole answers)

  -- ---- one part may be answered by several calls

  pub answers_told : (bytes : List ℕ) (room : ℕ) (p q : Progress) (text rest left : List ℕ) (m : ℕ) → Answers Fits bytes room p text q
      → Told Fits (drop q.at bytes) q.number rest left m → Told Fits (drop p.at bytes) p.number (text ++ rest) left m
  answers_told bytes room p q text rest left m (all u) h = h
  answers_told bytes room p q text rest left m (full k) h = h
  answers_told bytes room p q text rest left m (next {rest = more} l tail a k e u i t others) h =
      let then = answers_told bytes room (behind p l a) q more rest left m others h in
      let place : drop (p.at + suc (length l)) bytes ≡ tail =
      sym (drop-drop (suc (length l)) p.at bytes) ∙ ap (drop (suc (length l))) e ∙ drop_line l tail in
      let first = told_line Fits l p.number a u i in
      let number : suc p.number ≡ p.number + 1 = omega arith in
      let both = told_both Fits (l ++ (newline ∷ [])) tail p.number (p.number + 1) m (answer_text p.number a) (more ++ rest) [] left first
      (subst₂ (λ z i. Told Fits z i (more ++ rest) left m) place number then) in
      subst₂ (λ z x. Told Fits z p.number x left m) (append_assoc l (newline ∷ []) tail ∙ sym e) (sym (ap (λ z. z ++ rest) t ∙ append_assoc (answer_text p.number a) more rest)) both
    where
      drop_line : (l tail : List ℕ) → drop (suc (length l)) (l ++ newline ∷ tail) ≡ tail
      drop_line [] tail = refl
      drop_line (x ∷ l) tail = drop_line l tail

  -- calls that end where no line more has ended: what is behind that place is left
  pub calls_told : (bytes : List ℕ) (room : ℕ) (p q : Progress) (text : List ℕ) → Answers Fits bytes room p text q → Unbroken (drop q.at bytes)
      → Told Fits (drop p.at bytes) p.number text (drop q.at bytes) q.number
  calls_told bytes room p q text a u =
      subst (λ x. Told Fits (drop p.at bytes) p.number x (drop q.at bytes) q.number) (append-nil text)
      (answers_told bytes room p q text [] (drop q.at bytes) q.number a (told_none Fits (drop q.at bytes) q.number u))

  -- a last line without a newline is answered as with one
  pub last_told : (x : ℕ) (held : List ℕ) (n : ℕ) (text left : List ℕ) (m : ℕ) → Unbroken (x ∷ held) → Told Fits ((x ∷ held) ++ (newline ∷ [])) n text left m
      → AnswersAre Fits n (last_line_of (x ∷ held)) text
  last_told x held n text left m u p =
      let alone : Lines ((x ∷ held) ++ (newline ∷ [])) ((x ∷ held) ∷ []) [] =
      record { text = sym (append-nil ((x ∷ held) ++ (newline ∷ []))); unbroken = (u, tt); rest = tt } in
      subst (λ ls. AnswersAre Fits n ls text) (lines_one ((x ∷ held) ++ (newline ∷ [])) p.lines ((x ∷ held) ∷ []) left [] p.are alone).0 p.answers
