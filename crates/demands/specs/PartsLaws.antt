-- What is held of the rule's line is read as the line, and series that come part by part are answered as the whole. Assumes nothing.
use Rattle.std.specs.Prelude.{◌≡◌, refl, List, [], ◌∷◌, ◌++◌, ℕ, ◌+◌, ◌≤◌, ◌<◌, length, take, drop, Option, Some, None, Result, Ok, Err}
use Rattle.std.proofs.Common.{ap, ◌∙◌, subst, inl, inr, arith, length-append, take_at}
use Rattle.std.proofs.Math.Path.{subst⁻¹}
use Rattle.meaning.specs.Dialect.{dialect}
use Rattle.meaning.specs.declared.Profile.{Profile}
use Rattle.rule.specs.declared.Rule.{Rule}
use Rattle.reading.specs.declared.Refusal.{Refusal}
use Rattle.reading.specs.declared.Wanted.{Wanted}
use Rattle.reading.specs.Grammar.{Refuses, too_long, not_sound, too_many, SaysWanted}
use Rattle.reading.specs.Exact.{neither}
use Rattle.reading.specs.Promise.{wanted_of, Outcome, ReadsUnder, Reads}
use Rattle.automaton.specs.Tables.{Tables}
use Rattle.walking.specs.declared.lines.Answer.{Answer}
use Rattle.walking.specs.declared.lines.Answer.TheVariants.{Yes, No, Bad}
use Rattle.walking.specs.declared.lines.Progress.{Progress}
use Rattle.walking.specs.Walks.{Accepted}
use Rattle.walking.specs.Text.{decimal, answer_word, answer_text, Written}
use Rattle.walking.specs.Output.{Unbroken, Answered}
use Rattle.walking.specs.Progress.{Told, joined, InParts}
use Rattle.walking.specs.Promises.{longest, Answers, all, full, next}
use Rattle.walking.specs.Parts.{kept_unbroken, parts_answered, answers_told, calls_told, last_told}
use Rattle.demands.specs.Calls.{Held, begin, InCalls, wrote, wrote_nothing, ByParts, next_part, all_ended, last_line}

-- ---- the rule's line: of two texts that are too long, one is read as the other

refuses_long : (π : Profile) (x y : List ℕ) (n k : ℕ) → 1024 < length x → 1024 < length y → Refuses π x n k → Refuses π y n k
refuses_long π x y n k h l (too_long e) = too_long l
refuses_long π x y n k h l (not_sound e f) = absurd (omega arith)
refuses_long π x y n k h l (too_many s f) = absurd (let e = s.short in omega arith)

long_number : (π : Profile) (x : List ℕ) (n k : ℕ) → 1024 < length x → Refuses π x n k → n ≡ 1
long_number π x n k h (too_long e) = refl
long_number π x n k h (not_sound e f) = absurd (omega arith)
long_number π x n k h (too_many s f) = absurd (let e = s.short in omega arith)

says_long : (x y : List ℕ) (n k : ℕ) (w : Option Wanted) → n ≡ 1 → SaysWanted x n k w → SaysWanted y n k w
says_long x y n k None e s = s
says_long x y n k (Some w) e (f, s) = absurd (neither n (inl (omega arith)) f)

outcome_long : (π : Profile) (x y : List ℕ) (a : Result Rule Refusal) → 1024 < length x → 1024 < length y → Outcome π x a → Outcome π y a
outcome_long π x y (Ok rule) h l o = absurd (let e = o.sound.short in omega arith)
outcome_long π x y (Err f) h l (r, s) = (refuses_long π x y _ _ h l r, says_long x y _ _ (wanted_of f) (long_number π x _ _ h r) s)

pub held_reads : (π : Profile) (line text : List ℕ) (r : Result Rule Refusal) → Held line text → Reads (dialect π).number text r → ReadsUnder π line r
held_reads π line text r held h = go held (h.known π refl)
  where
    go : Held line text → ReadsUnder π text r → ReadsUnder π line r
    go (inl e) p = subst (λ x. ReadsUnder π x r) e p
    go (inr (l, h)) p = record { outcome = outcome_long π text line r (omega arith) (omega arith) p.outcome }

-- ---- calls on the same bytes

answer_some : (n : ℕ) (a : Answer) → 0 < length (answer_text n a)
answer_some n a = let l = length-append (decimal n) (answer_word a) in let w = word a in omega arith
  where
    word : (a : Answer) → 0 < length (answer_word a)
    word Yes = omega arith
    word No = omega arith
    word Bad = omega arith

-- what is written from the front on stands there
front_written : (before text : List ℕ) (end : ℕ) (after : List ℕ) → Written before 0 text end after → take end after ≡ text
front_written before text end after w =
    let ends : length text ≡ end = (let e = w.ends in omega arith) in
    ap (take end) w.bytes ∙ take_at text (drop end before) end ends

module _ (t : Tables) where
  -- where no answer is written though there is room for one, no line has ended
  none_ended : (bytes : List ℕ) (room : ℕ) (p q : Progress) (text : List ℕ) → p.end + longest ≤ room → length text ≡ 0 → Answers (Accepted t) bytes room p text q
      → Unbroken (drop q.at bytes)
  none_ended bytes room p q text k e (all u) = u
  none_ended bytes room p q text k e (full l) = absurd (omega arith)
  none_ended bytes room p q text k e (next {rest = more} l tail a r d u i w others) =
      let some = answer_some p.number a in
      let size = ap length w ∙ length-append (answer_text p.number a) more in
      absurd (omega arith)

  pub in_calls_told : (bytes : List ℕ) (at n : ℕ) (text : List ℕ) (at' n' : ℕ) → InCalls t bytes at n text at' n'
      → Told (Accepted t) (drop at bytes) n text (drop at' bytes) n'
  in_calls_told bytes at n text at' n' (wrote {text = more} {before = before} {after = after} to a s others) =
      let takes = a.told.1 in
      let then = in_calls_told bytes to.at to.number more at' n' others in
      subst⁻¹ (λ x. Told (Accepted t) (drop at bytes) n (x ++ more) (drop at' bytes) n')
      (front_written before takes.text to.end after takes.written)
      (answers_told (Accepted t) bytes (length before) (begin at n) to takes.text more (drop at' bytes) n' takes.answers then)
  in_calls_told bytes at n text at' n' (wrote_nothing {before = before} {after = after} to k a e) =
      let takes = a.told.1 in
      let ends = takes.written.ends in
      let none : length takes.text ≡ 0 = omega arith in
      let u = none_ended bytes (length before) (begin at n) to takes.text k none takes.answers in
      subst (λ x. Told (Accepted t) (drop at bytes) n x (drop to.at bytes) to.number) (empty takes.text none)
      (calls_told (Accepted t) bytes (length before) (begin at n) to takes.text takes.answers u)
    where
      empty : (l : List ℕ) → length l ≡ 0 → l ≡ []
      empty [] e = refl
      empty (x ∷ l) e = absurd (omega arith)

  -- ---- parts

  by_parts : (held : List ℕ) (n : ℕ) (parts : List (List ℕ)) (text : List ℕ) → Unbroken held → ByParts t held n parts text → InParts (Accepted t) held n parts text
  by_parts held n parts text u (next_part {part = part} {parts = more} {x = x} {y = y} bytes from at m e calls rest) =
      let told = in_calls_told bytes from n x at m calls in (
        x,
        y,
        drop at bytes,
        m,
        subst (λ z. Told (Accepted t) z n x (drop at bytes) m) e told,
        refl,
        by_parts _ m more y (kept_unbroken (drop at bytes) told.are.rest) rest,
      )
  by_parts held n parts text u all_ended = refl
  by_parts held n parts text u (last_line {b = b} {held = more} at m calls) =
      last_told (Accepted t) b more n text _ m u (in_calls_told _ 0 n text at m calls)

  pub parts_said : (parts : List (List ℕ)) (series text : List ℕ) → joined parts ≡ series → ByParts t [] 1 parts text → Answered (Accepted t) series text
  parts_said parts series text e p = subst (λ z. Answered (Accepted t) z text) e (parts_answered (Accepted t) parts text (by_parts [] 1 parts text tt p))
