-- An input answered in parts is answered as a whole, and in one way only. Assumes nothing.
use Rattle.std.specs.Prelude.{◌≡◌, refl, List, [], ◌∷◌, ◌++◌, ℕ, suc, ◌+◌, ◌-◌, ◌≤◌, ◌<◌, length, take, drop, get_or}
use Rattle.std.proofs.Common.{sym, ap, ap₂, ◌∙◌, subst, append-nil, append_assoc, arith, length-append, length-drop, take_all, take-add, drop-drop, drop-cons}
use Rattle.std.proofs.Math.Path.{subst⁻¹}
use Rattle.laws.specs.Lists.{All, all_append}
use Rattle.walking.specs.declared.lines.Answer.{Answer}
use Rattle.walking.specs.Series.{AnswerIs}
use Rattle.walking.specs.SeriesLaws.{answer_one}
use Rattle.walking.specs.Text.{newline, answer_text}
use Rattle.walking.specs.Output.{Unbroken, ended, Lines, last_line_of, AnswersAre, Answered}
use Rattle.walking.specs.Progress.{between, Told}

-- ---- bytes between places

pub between_none : (a : ℕ) (l : List ℕ) → between a a l ≡ []
between_none a l = let e : a - a ≡ 0 = omega arith in rw e

pub between_both : (a b c : ℕ) (l : List ℕ) → a ≤ b → b ≤ c → between a b l ++ between b c l ≡ between a c l
between_both a b c l h k =
    let e : c - a ≡ (b - a) + (c - b) = omega arith in
    let f : a + (b - a) ≡ b = omega arith in
    sym (ap (λ i. take i (drop a l)) e ∙ take-add (b - a) (c - b) (drop a l)
    ∙ ap (λ x. take (b - a) (drop a l) ++ take (c - b) x) (drop-drop (b - a) a l ∙ ap (λ i. drop i l) f))

pub between_one : (a : ℕ) (l : List ℕ) → a < length l → between a (a + 1) l ≡ get_or l a 0 ∷ []
between_one a l h =
    let e : a + 1 - a ≡ 1 = omega arith in
    ap (λ i. take i (drop a l)) e ∙ ap (take 1) (drop-cons l a 0 h)

pub between_more : (a e : ℕ) (l : List ℕ) → a ≤ e → e < length l → between a (e + 1) l ≡ between a e l ++ (get_or l e 0 ∷ [])
between_more a e l h k = sym (ap (λ x. between a e l ++ x) (sym (between_one e l k)) ∙ between_both a e (e + 1) l h (omega arith))

pub between_all : (a e : ℕ) (l : List ℕ) → length l ≤ e → between a e l ≡ drop a l
between_all a e l h = take_all (e - a) (drop a l) (let k = length-drop a l in omega arith)

-- ---- lines

module _ (chunk : List ℕ) (a : ℕ) where
  pub unbroken_none : Unbroken (between a a chunk)
  unbroken_none = rw (between_none a chunk) tt

  pub unbroken_more : (e : ℕ) → a ≤ e → e < length chunk → (get_or chunk e 0 ≡ newline → ⊥) → Unbroken (between a e chunk) → Unbroken (between a (e + 1) chunk)
  unbroken_more e h k n u = rw (between_more a e chunk h k) ((all_append (λ x. x ≡ newline → ⊥) (between a e chunk) (get_or chunk e 0 ∷ [])).1 (u, (n, tt)))

ended_append : (ls ms : List (List ℕ)) → ended (ls ++ ms) ≡ ended ls ++ ended ms
ended_append [] ms = refl
ended_append (l ∷ ls) ms = ap (λ x. l ++ newline ∷ x) (ended_append ls ms) ∙ sym (append_assoc l (newline ∷ ended ls) (ended ms))

lines_both : (x y : List ℕ) (ls ms : List (List ℕ)) (left rest : List ℕ) → Lines x ls left → Lines (left ++ y) ms rest → Lines (x ++ y) (ls ++ ms) rest
lines_both x y ls ms left rest p q = record {
  text =
      ap (λ z. z ++ y) p.text ∙ append_assoc (ended ls) left y ∙ ap (λ z. ended ls ++ z) q.text ∙ sym (append_assoc (ended ls) (ended ms) rest)
      ∙ ap (λ z. z ++ rest) (sym (ended_append ls ms));
  unbroken = (all_append Unbroken ls ms).1 (p.unbroken, q.unbroken);
  rest = q.rest;
}

-- the first line of two texts is the same
pub first_one : (l m x y : List ℕ) → Unbroken l → Unbroken m → l ++ newline ∷ x ≡ m ++ newline ∷ y → (l ≡ m) × (x ≡ y)
first_one [] [] x y u v e = (refl, (cc))
first_one [] (b ∷ m) x y u v e = let z : b ≡ newline = cc in absurd (v.0 z)
first_one (a ∷ l) [] x y u v e = let z : a ≡ newline = cc in absurd (u.0 z)
first_one (a ∷ l) (b ∷ m) x y u v e =
    let h : a ≡ b = cc in
    let t : l ++ newline ∷ x ≡ m ++ newline ∷ y = cc in
    let (p, q) = first_one l m x y u.1 v.1 t in
    (ap₂ (λ i j. i ∷ j) h p, q)

-- a line that has ended is not what is left
pub broken : (l x y : List ℕ) → Unbroken y → l ++ newline ∷ x ≡ y → ⊥
broken l x y u e = ((all_append (λ z. z ≡ newline → ⊥) l (newline ∷ x)).0 (subst⁻¹ Unbroken e u)).1.0 refl

lines_same : (ls ms : List (List ℕ)) (x y : List ℕ) → All Unbroken ls → All Unbroken ms → Unbroken x → Unbroken y → ended ls ++ x ≡ ended ms ++ y
    → (ls ≡ ms) × (x ≡ y)
lines_same [] [] x y p q u v e = (refl, e)
lines_same [] (m ∷ ms) x y p q u v e = absurd (broken m (ended ms ++ y) x u (sym (e ∙ append_assoc m (newline ∷ ended ms) y)))
lines_same (l ∷ ls) [] x y p q u v e = absurd (broken l (ended ls ++ x) y v (sym (append_assoc l (newline ∷ ended ls) x) ∙ e))
lines_same (l ∷ ls) (m ∷ ms) x y p q u v e =
    let (h, t) = first_one l m (ended ls ++ x) (ended ms ++ y) p.0 q.0 (sym (append_assoc l (newline ∷ ended ls) x) ∙ e ∙ append_assoc m (newline ∷ ended ms) y) in
    let (f, g) = lines_same ls ms x y p.1 q.1 u v t in
    (ap₂ (λ i j. i ∷ j) h f, g)

-- bytes are lines in one way only
pub lines_one : (bytes : List ℕ) (ls ms : List (List ℕ)) (x y : List ℕ) → Lines bytes ls x → Lines bytes ms y → (ls ≡ ms) × (x ≡ y)
lines_one bytes ls ms x y p q = lines_same ls ms x y p.unbroken q.unbroken p.rest q.rest (sym p.text ∙ q.text)

-- ---- answers

module _ (Fits : List ℕ → Type 0) where
  pub answers_both : (n : ℕ) (ls ms : List (List ℕ)) (x y : List ℕ) → AnswersAre Fits n ls x → AnswersAre Fits (n + length ls) ms y → AnswersAre Fits n (ls ++ ms) (x ++ y)
  answers_both n [] ms x y p q = let e : n + 0 ≡ n = omega arith in subst⁻¹ (λ z. AnswersAre Fits n ms (z ++ y)) p (subst (λ k. AnswersAre Fits k ms y) e q)
  answers_both n (l ∷ ls) ms x y (a, rest, p, e, more) q =
      let k : n + suc (length ls) ≡ suc n + length ls = omega arith in (
        a,
        rest ++ y,
        p,
        ap (λ z. z ++ y) e ∙ append_assoc (answer_text n a) rest y,
        answers_both (suc n) ls ms rest y more (subst (λ i. AnswersAre Fits i ms y) k q),
      )

  pub answers_one : (n : ℕ) (ls : List (List ℕ)) (x y : List ℕ) → AnswersAre Fits n ls x → AnswersAre Fits n ls y → x ≡ y
  answers_one n [] x y p q = p ∙ sym q
  answers_one n (l ∷ ls) x y (a, rest, p, e, more) (b, other, q, f, others) =
      e ∙ ap₂ (λ i j. answer_text n i ++ j) (answer_one Fits l a b p q) (answers_one (suc n) ls rest other more others) ∙ sym f

  -- an input has one text of answers
  pub answered_one : (input x y : List ℕ) → Answered Fits input x → Answered Fits input y → x ≡ y
  answered_one input x y p q =
      let (e, f) = lines_one input p.lines q.lines p.left q.left p.are q.are in
      answers_one 1 (p.lines ++ last_line_of p.left) x y p.answers
      (subst⁻¹ (λ z. AnswersAre Fits 1 z y) (ap₂ (λ i j. i ++ last_line_of j) e f) q.answers)

  -- ---- part by part

  pub told_none : (bytes : List ℕ) (n : ℕ) → Unbroken bytes → Told Fits bytes n [] bytes n
  told_none bytes n u = record { lines = []; are = record { text = refl; unbroken = tt; rest = u }; answers = refl; number = omega arith }

  pub told_both : (x y : List ℕ) (n m k : ℕ) (text more left rest : List ℕ) → Told Fits x n text left m → Told Fits (left ++ y) m more rest k
      → Told Fits (x ++ y) n (text ++ more) rest k
  told_both x y n m k text more left rest p q = record {
    lines = p.lines ++ q.lines;
    are = lines_both x y p.lines q.lines left rest p.are q.are;
    answers = answers_both n p.lines q.lines text more p.answers (subst (λ i. AnswersAre Fits i q.lines more) p.number q.answers);
    number = let e = p.number in let f = q.number in simp length-append (omega arith);
  }

  -- a line that ends
  pub told_line : (bytes : List ℕ) (n : ℕ) (a : Answer) → Unbroken bytes → AnswerIs Fits bytes a → Told Fits (bytes ++ (newline ∷ [])) n (answer_text n a) [] (n + 1)
  told_line bytes n a u p = record {
    lines = bytes ∷ [];
    are = record { text = sym (append-nil (bytes ++ (newline ∷ []))); unbroken = (u, tt); rest = tt };
    answers = (a, [], p, sym (append-nil (answer_text n a)), refl);
    number = refl;
  }

  -- all parts, and the last line: the answers to the whole input
  pub told_answered : (input text left last : List ℕ) (m : ℕ) → Told Fits input 1 text left m → AnswersAre Fits m (last_line_of left) last → Answered Fits input (text ++ last)
  told_answered input text left last m p q = record {
    lines = p.lines;
    left = left;
    are = p.are;
    answers = answers_both 1 p.lines (last_line_of left) text last p.answers (subst (λ i. AnswersAre Fits i (last_line_of left) last) p.number q);
  }
