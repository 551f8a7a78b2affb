-- Laws of the promises: how each comes about, step by step. Assumes nothing.
use Rattle.std.specs.Prelude.{◌≡◌, refl, List, [], ◌∷◌, ◌++◌, ℕ, suc, ◌+◌, ◌-◌, ◌^◌, ◌≤◌, ◌<◌, min, length, get_or, take, drop, set}
use Rattle.std.proofs.Common.{sym, ap, ap₂, ◌∙◌, subst, append-nil, append_assoc, arith, length-append, length-take, length-drop, take-append-drop, take_all, drop-cons, drop-drop, length-take-le, take-take, add-one, take-suc, get_or-drop, get_or-append-add}
use Rattle.std.proofs.Math.Path.{subst⁻¹}
use Rattle.std.proofs.Math.Logic.{by_cases}
use Rattle.std.proofs.Math.Decide.{dec_lt}
use Rattle.std.proofs.Math.Seq.{take-nil}
use Rattle.walking.specs.declared.lines.Answer.{Answer}
use Rattle.walking.specs.declared.lines.Answer.TheVariants.{Yes, No, Bad}
use Rattle.walking.specs.declared.lines.Progress.{Progress}
use Rattle.walking.specs.Text.{newline, decimal, answer_word, answer_text, Written}
use Rattle.walking.specs.TextLaws.{decimal_short, written_none, written_both}
use Rattle.walking.specs.Output.{Unbroken}
use Rattle.walking.specs.Progress.{between, kept}
use Rattle.walking.specs.ProgressLaws.{between_all}
use Rattle.walking.specs.Promises.{EndsAt, longest, behind, Answers, all, full, next, Takes, Carries, Puts}
use Rattle.walking.specs.Answering.{TakesLine, Reaches}
use Rattle.std.proofs.lemmas.List.{set_at}
use Rattle.meaning.specs.Flags.{flags}
use Rattle.automaton.specs.Tables.{tables_of, Good}
use Rattle.automaton.specs.Valid.{read_tables}
use Rattle.automaton.proofs.ValidLaws.{as_handed}
use Rattle.walking.specs.Walks.{Accepted}

-- ---- where a line ends

module _ (bytes : List ℕ) (from : ℕ) where
  pub ends_newline : (at : ℕ) → from ≤ at → at < length bytes → Unbroken (between from at bytes) → get_or bytes at 0 ≡ newline → EndsAt bytes from at
  ends_newline at h k u e = record { within = omega arith; unbroken = u; newline = λ l. (h, e) }

  pub ends_last : (at : ℕ) → length bytes ≤ at → Unbroken (between from at bytes) → EndsAt bytes from (length bytes)
  ends_last at h u = record {
    within = omega arith;
    unbroken = subst Unbroken (between_all from at bytes h ∙ sym (between_all from (length bytes) bytes (omega arith))) u;
    newline = λ l. absurd (omega arith);
  }

  -- a line that has not ended
  pub ends_open : EndsAt bytes from (length bytes) → Unbroken (drop from bytes)
  ends_open e = subst Unbroken (between_all from (length bytes) bytes (omega arith)) e.unbroken

  -- a line that has
  pub ends_line : (e : ℕ) → e < length bytes → EndsAt bytes from e → drop from bytes ≡ between from e bytes ++ newline ∷ drop (suc e) bytes
  ends_line e h p =
      let (low, byte) = p.newline h in
      let k : from + (e - from) ≡ e = omega arith in
      sym (take-append-drop (e - from) (drop from bytes))
      ∙ ap (λ x. between from e bytes ++ x) (drop-drop (e - from) from bytes ∙ ap (λ i. drop i bytes) k ∙ drop-cons bytes e 0 h ∙ ap (λ x. x ∷ drop (suc e) bytes) byte)

-- ---- answers in turn

-- an answer with a number of 64 bits is no longer than the longest
pub answer_short : (n : ℕ) (a : Answer) → n < 2 ^ 64 → length (answer_text n a) ≤ longest
answer_short n a h = let l = length-append (decimal n) (answer_word a) in let w = word a in omega (arith, decimal_short n h)
  where
    word : (a : Answer) → length (answer_word a) ≤ 5
    word Yes = omega arith
    word No = omega arith
    word Bad = omega arith

abbrev progress_of : ℕ → ℕ → ℕ → Progress
progress_of at end number = record { at = at; end = end; number = number }

progress_same : (p q : Progress) → p.at ≡ q.at → p.end ≡ q.end → p.number ≡ q.number → p ≡ q
progress_same p q e f g = ap₂ (λ x y. progress_of x y p.number) e f ∙ ap (progress_of q.at q.end) g

module _ (Fits : List ℕ → Type 0) (bytes : List ℕ) (from : Progress) (before : List ℕ) where
  pub reaches_none : from.at ≤ length bytes → from.end ≤ length before → Reaches Fits bytes from before from before
  reaches_none h k = record {
    text = [];
    written = written_none before from.end k;
    within = h;
    counted = omega arith;
    onward = λ rest to a. a;
  }

  module _ (p : Progress) (now : List ℕ) (so : Reaches Fits bytes from before p now) where
    -- one line more
    pub reaches_line : (q : Progress) (stop : ℕ) (after : List ℕ) → p.end + 25 ≤ length before → EndsAt bytes p.at stop → stop < length bytes
        → TakesLine Fits bytes p stop now q after → Reaches Fits bytes from before q after
    reaches_line q stop after room ends h l =
        let (low, byte) = ends.newline h in
        let cut : length (between p.at stop bytes) ≡ stop - p.at = length-take-le (stop - p.at) (drop p.at bytes) (let e = length-drop p.at bytes in omega arith) in
        let here : q ≡ behind p (between p.at stop bytes) l.answer =
        progress_same q (behind p (between p.at stop bytes) l.answer) (let e = l.at in omega arith) l.written.ends (let e = l.number in omega arith) in
        record {
          text = so.text ++ answer_text p.number l.answer;
          written = written_both before from.end so.text p.end now (answer_text p.number l.answer) q.end after so.written l.written;
          within = let e = l.at in omega arith;
          counted = let e = l.at in let f = l.number in let g = so.counted in omega arith;
          onward = λ rest to a.
              subst⁻¹ (λ x. Answers Fits bytes (length before) from x to) (append_assoc so.text (answer_text p.number l.answer) rest)
              (so.onward (answer_text p.number l.answer ++ rest) to
              (next (between p.at stop bytes) (drop (suc stop) bytes) l.answer room (ends_line bytes p.at stop h ends) ends.unbroken l.is refl
              (subst (λ x. Answers Fits bytes (length before) x rest to) here a)));
        }

    stays : Answers Fits bytes (length before) p [] p → Takes Fits bytes from before p now
    stays a = record {
      text = so.text;
      answers = subst (λ x. Answers Fits bytes (length before) from x p) (append-nil so.text) (so.onward [] p a);
      written = so.written;
    }

    pub takes_all : EndsAt bytes p.at (length bytes) → Takes Fits bytes from before p now
    takes_all e = stays (all (ends_open bytes p.at e))

    pub takes_full : length before < p.end + 25 → Takes Fits bytes from before p now
    takes_full h = stays (full h)

-- the place does not go back, nor past the bytes
answers_place : (Fits : List ℕ → Type 0) (bytes : List ℕ) (room : ℕ) (p q : Progress) (text : List ℕ) → Answers Fits bytes room p text q → p.at ≤ length bytes
    → (p.at ≤ q.at) × (q.at ≤ length bytes)
answers_place Fits bytes room p q text (all u) h = (omega arith, h)
answers_place Fits bytes room p q text (full k) h = (omega arith, h)
answers_place Fits bytes room p q text (next {rest = rest} l left a k e u i t more) h =
    let size = sym (length-drop p.at bytes) ∙ ap length e ∙ length-append l (newline ∷ left) in
    let on = answers_place Fits bytes room (behind p l a) q rest more (omega arith) in
    (omega arith, on.1)

answers_move : (Fits : List ℕ → Type 0) (bytes : List ℕ) (room : ℕ) (p q : Progress) (text : List ℕ) → Answers Fits bytes room p text q → p.at ≤ length bytes
    → 0 < length text → p.at < q.at
answers_move Fits bytes room p q text (all u) h k = absurd (omega arith)
answers_move Fits bytes room p q text (full j) h k = absurd (omega arith)
answers_move Fits bytes room p q text (next {rest = rest} l left a j e u i t more) h k =
    let size = sym (length-drop p.at bytes) ∙ ap length e ∙ length-append l (newline ∷ left) in
    let on = answers_place Fits bytes room (behind p l a) q rest more (omega arith) in
    omega arith

-- a line has a byte at least
answers_count : (Fits : List ℕ → Type 0) (bytes : List ℕ) (room : ℕ) (p q : Progress) (text : List ℕ) → Answers Fits bytes room p text q
    → q.number + p.at ≤ p.number + q.at
answers_count Fits bytes room p q text (all u) = omega arith
answers_count Fits bytes room p q text (full j) = omega arith
answers_count Fits bytes room p q text (next {rest = rest} l left a j e u i t more) =
    let on = answers_count Fits bytes room (behind p l a) q rest more in omega arith

module _ (Fits : List ℕ → Type 0) (bytes : List ℕ) (from : Progress) (before : List ℕ) (to : Progress) (after : List ℕ) (takes : Takes Fits bytes from before to after) where
  pub takes_within : from.at ≤ length bytes → to.at ≤ length bytes
  takes_within h = (answers_place Fits bytes (length before) from to takes.text takes.answers h).1

  pub takes_counted : to.number + from.at ≤ from.number + to.at
  takes_counted = answers_count Fits bytes (length before) from to takes.text takes.answers

  -- where there is an answer the place has moved
  pub takes_moves : from.at ≤ length bytes → from.end < to.end → from.at < to.at
  takes_moves h k = answers_move Fits bytes (length before) from to takes.text takes.answers h (let e = takes.written.ends in omega arith)

-- by good tables as they are read, and as they are handed in
pub takes_handed : (n k : ℕ) (s a e : List ℕ) → Good flags (tables_of n k s a e) → (bytes : List ℕ) (from : Progress) (before : List ℕ) (to : Progress)
    (after : List ℕ) → Takes (Accepted (read_tables n s a e)) bytes from before to after → Takes (Accepted (tables_of n k s a e)) bytes from before to after
takes_handed n k s a e good bytes from before to after = as_handed n k s a e good (λ t. Takes (Accepted t) bytes from before to after)

-- ---- bytes carried to the front

take_upto : (k j : ℕ) (l : List ℕ) → min k (length l) ≡ min j (length l) → take k l ≡ take j l
take_upto k j l e =
    by_cases (dec_lt k (length l))
    (λ h. let s : k ≡ j = omega arith in ap (λ i. take i l) s)
    (λ h. take_all k l (omega arith) ∙ sym (take_all j l (omega arith)))

-- of two bounds the second may be asked first
min_twice : (m x y : ℕ) → min (min m x) y ≡ min (min (min x y) m) y
min_twice m x y = omega arith

min_off : (a x y : ℕ) → min x y - a ≡ min (x - a) (y - a)
min_off a x y = omega arith

take_both : (k j : ℕ) (l : List ℕ) → take k (take j l) ≡ take (min k j) l
take_both k j l =
    by_cases (dec_lt k j)
    (λ h. take-take k j l (omega arith) ∙ (let e : k ≡ min k j = omega arith in ap (λ i. take i l) e))
    (λ h. take_all k (take j l) (let e = length-take j l in omega arith) ∙ (let e : j ≡ min k j = omega arith in ap (λ i. take i l) e))

module _ (b : List ℕ) (at : ℕ) where
  -- one byte more
  pub carried_more : (k : ℕ) (now : List ℕ) → at + k < length b → now ≡ take k (drop at b) ++ drop k b
      → set now k (get_or now (at + k) 0) ≡ take (k + 1) (drop at b) ++ drop (k + 1) b
  carried_more k now h e =
      let l = length-drop at b in
      let size : length (take k (drop at b)) ≡ k = length-take-le k (drop at b) (omega arith) in
      let place : at + k ≡ length (take k (drop at b)) + at = omega arith in
      let byte : get_or now (at + k) 0 ≡ get_or (drop at b) k 0 =
      ap₂ (λ x i. get_or x i 0) e place ∙ get_or-append-add (take k (drop at b)) (drop k b) at 0 ∙ get_or-drop k b at 0
      ∙ (let c : k + at ≡ at + k = omega arith in ap (λ i. get_or b i 0) c) ∙ sym (get_or-drop at b k 0) in
      ap₂ (λ x y. set x k y) (e ∙ ap (λ x. take k (drop at b) ++ x) (drop-cons b k 0 (omega arith))) byte
      ∙ set_at (take k (drop at b)) (get_or b k 0) (drop (suc k) b) (get_or (drop at b) k 0) k size
      ∙ sym (rw (add-one) (ap (λ x. x ++ drop (suc k) b) (take-suc (drop at b) k 0 (omega arith)) ∙ append_assoc (take k (drop at b)) (get_or (drop at b) k 0 ∷ []) (drop (suc k) b)))

  module _ (end stop : ℕ) (e : stop ≡ min end (length b)) where
    pub carries_none : stop ≤ at → Carries b at end 0 b
    carries_none h =
        let l = length-drop at b in
        let none : kept (between at end b) ≡ [] =
        ap kept (take_upto (end - at) 0 (drop at b) (omega arith)) ∙ take-nil 8193 in
        record { count = sym (ap length none); bytes = sym (ap (λ x. x ++ b) none) }

    pub carries_all : (count : ℕ) (after : List ℕ) → at < stop → count ≡ min (stop - at) 8193 → after ≡ take count (drop at b) ++ drop count b
        → Carries b at end count after
    carries_all count after h c a =
        let l = length-drop at b in
        let off : stop - at ≡ min (end - at) (length (drop at b)) = ap (λ i. i - at) e ∙ min_off at end (length b) ∙ ap (min (end - at)) (sym l) in
        let part : kept (between at end b) ≡ take count (drop at b) =
        take_both 8193 (end - at) (drop at b)
        ∙ take_upto (min 8193 (end - at)) count (drop at b) (min_twice 8193 (end - at) (length (drop at b)) ∙ ap (λ i. min i (length (drop at b))) (sym (c ∙ ap (λ i. min i 8193) off))) in
        record {
          count = sym (ap length part ∙ length-take-le count (drop at b) (omega arith));
          bytes = a ∙ ap (λ x. x ++ drop count b) (sym part);
        }

pub carries_few : (b : List ℕ) (at end r : ℕ) (after : List ℕ) → Carries b at end r after → r ≤ 8193
carries_few b at end r after c = let e = c.count in let f = length-take 8193 (between at end b) in omega arith

pub carries_long : (b : List ℕ) (at end r : ℕ) (after : List ℕ) → Carries b at end r after → length after ≡ length b
carries_long b at end r after c =
    let e = c.count in
    let part = kept (between at end b) in
    let short : r ≤ length b = let f = length-take 8193 (between at end b) in let g = length-take (end - at) (drop at b) in let h = length-drop at b in omega arith in
    ap length c.bytes ∙ length-append part (drop r b) ∙ (let d = length-drop r b in omega arith)

-- ---- texts at the front

module _ (text : List ℕ) (room : ℕ) (before : List ℕ) where
  pub puts_none : length before < room → Puts text room before 0 before
  puts_none h = record { put = λ k. absurd (omega arith); short = λ k. (refl, refl) }

  pub puts_all : (end : ℕ) (after : List ℕ) → room ≤ length before → Written before 0 text end after → Puts text room before end after
  puts_all end after h w = record { put = λ k. w; short = λ k. absurd (omega arith) }

  module _ (end : ℕ) (after : List ℕ) (p : Puts text room before end after) where
    pub puts_long : length after ≡ length before
    puts_long = by_cases (dec_lt (length before) room) (λ h. ap length (p.short h).1) (λ h. (p.put (omega arith)).long)

    pub puts_within : end ≤ length before
    puts_within = by_cases (dec_lt (length before) room) (λ h. let e = (p.short h).0 in omega arith) (λ h. (p.put (omega arith)).within)
