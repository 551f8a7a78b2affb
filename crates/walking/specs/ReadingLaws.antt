-- A line is read digit by digit and date by date, and answered where it ends. Assumes nothing.
use Rattle.std.specs.Prelude.{◌≡◌, refl, true, false, List, [], ◌∷◌, ◌++◌, ℕ, ◌+◌, ◌*◌, ◌%◌, ◌^◌, ◌≤◌, ◌<◌, T, length, get_or, replicate, Some, None, suc, take, drop, set}
use Rattle.std.proofs.Common.{sym, ap, ap₂, ◌∙◌, subst, append-nil, append_assoc, arith, length-append, div-add-mod', add-one, length-set, take-suc, take_all, get_or-set_same, get_or-set_other}
use Rattle.std.proofs.Math.Path.{subst⁻¹}
use Rattle.std.proofs.lemmas.List.{length-replicate, get_or-replicate}
use Rattle.laws.specs.Lists.{all_append}
use Rattle.meaning.specs.Flags.{flags}
use Rattle.automaton.specs.Tables.{Tables, Good}
use Rattle.automaton.specs.Walk.{walked, moved, begun, answer}
use Rattle.walking.specs.declared.Walk.{Walk}
use Rattle.walking.specs.Walks.{mask, Accepted, walk_of, GoodWalk}
use Rattle.walking.specs.declared.lines.Answer.TheVariants.{Yes, No}
use Rattle.walking.specs.Series.{hex_digit, series_text, IsSeries, AnswerIs}
use Rattle.walking.specs.SeriesLaws.{series_more, series_length, no_digit, line_length, digit_byte}
use Rattle.walking.specs.Reading.{byte_count, Values, DigitIs, Leads, Underway, ValueIs}
use Rattle.std.proofs.Math.Logic.{by_cases}
use Rattle.std.proofs.Math.Decide.{ℕ_discrete}
use Rattle.std.proofs.Math.Seq.{split_at}
use Rattle.std.proofs.Math.Pow.{pow-lt}
use Rattle.laws.specs.Masks.{below_iff}
use Rattle.automaton.proofs.WalkLaws.{walked_below}

-- ---- digits

pub values_none : Values 0 (replicate byte_count 16)
values_none = record {
  long = length-replicate {A = ℕ} byte_count 16;
  value = λ byte h.
      let e = get_or-replicate {A = ℕ} byte_count byte 16 0 h in
      record { within = omega arith; digit = λ k. absurd (omega arith); none = λ f w k. absurd (omega arith) };
}

-- one digit more
module _ (n : ℕ) (values : List ℕ) (h : n < 16) (v : Values n values) where
  more : (byte : ℕ) → byte < byte_count → ValueIs (n + 1) byte (get_or (set values (hex_digit n) n) byte 0)
  more byte k =
      by_cases (ℕ_discrete byte (hex_digit n))
      (λ e. let same : get_or (set values (hex_digit n) n) byte 0 ≡ n = ap (λ i. get_or (set values (hex_digit n) n) i 0) e ∙ get_or-set_same values (hex_digit n) n 0 (let l = v.long in omega (arith, digit_byte n h)) in
      rw same (record { within = omega arith; digit = λ l. e; none = λ f w l g. absurd (omega arith) }))
      (λ d. let old = v.value byte k in
      rw (get_or-set_other values (hex_digit n) byte n 0 d) (record {
        within = old.within;
        digit = old.digit;
        none = λ f w l g. by_cases (ℕ_discrete w n) (λ e. d (g ∙ ap hex_digit e)) (λ e. old.none f w (omega arith) g);
      }))

  pub values_more : Values (n + 1) (set values (hex_digit n) n)
  values_more = record { long = length-set values (hex_digit n) n ∙ v.long; value = more }

-- ---- dates

walked_more : (t : Tables) (m : ℕ) (s : List ℕ) (d : ℕ) → walked flags t m (s ++ (d ∷ [])) ≡ moved flags t (walked flags t m s) d
walked_more t m [] d = refl
walked_more t m (e ∷ s) d = walked_more t (moved flags t m e) s d

two_bytes : (pair : List ℕ) → length pair ≡ 2 → pair ≡ get_or pair 0 0 ∷ get_or pair 1 0 ∷ []
two_bytes [] h = absurd (omega arith)
two_bytes (x ∷ []) h = absurd (omega arith)
two_bytes (x ∷ y ∷ []) h = refl
two_bytes (x ∷ y ∷ z ∷ l) h = absurd (omega arith)

no_bytes : (l : List ℕ) → length l ≡ 0 → l ≡ []
no_bytes [] h = refl
no_bytes (x ∷ l) h = absurd (omega arith)

module _ (t : Tables) where
  leads_begun : (w : Walk) → mask w ≡ begun → Leads t [] w
  leads_begun w e = record { series = []; text = refl; dates = tt; walk = e }

  pub leads_none : (w : Walk) → w ≡ walk_of begun → Leads t [] w
  leads_none w e = leads_begun w (ap mask e ∙ div-add-mod' begun (2 ^ 64))

  -- a walk that dates lead to keeps to the states
  pub leads_good : (bytes : List ℕ) (w : Walk) → Good flags t → Leads t bytes w → GoodWalk t.states w
  leads_good bytes w good l = record {
    below = (below_iff t.states (mask w)).0 (subst⁻¹ (λ x. x < 2 ^ t.states) l.walk (walked_below flags t begun l.series (pow-lt good.some_state)));
  }

  -- one date more
  leads_pair : (read : List ℕ) (h v : ℕ) (w m : Walk) → h < 16 → v < 16 → mask m ≡ moved flags t (mask w) (h * 16 + v) → Leads t read w
      → Leads t (read ++ (hex_digit h ∷ hex_digit v ∷ [])) m
  leads_pair read h v w m hs vs moves l = record {
    series = l.series ++ ((h * 16 + v) ∷ []);
    text = ap (λ x. x ++ (hex_digit h ∷ hex_digit v ∷ [])) l.text
        ∙ sym (series_more l.series h v vs ∙ append_assoc (series_text l.series) (hex_digit h ∷ []) (hex_digit v ∷ []));
    dates = (all_append (λ z. z < 2 ^ flags) l.series ((h * 16 + v) ∷ [])).1 (l.dates, (omega arith, tt));
    walk = moves ∙ ap (λ z. moved flags t z (h * 16 + v)) l.walk ∙ sym (walked_more t begun l.series (h * 16 + v));
  }

  -- one date more of a line
  pub leads_more : (line : List ℕ) (at h v : ℕ) (w m : Walk) → at + 1 < length line → ValueIs 16 (get_or line at 0) h → ValueIs 16 (get_or line (at + 1) 0) v
      → h < 16 → v < 16 → mask m ≡ moved flags t (mask w) (h * 16 + v) → Leads t (take at line) w → Leads t (take (at + 2) line) m
  leads_more line at h v w m k x y hs vs moves l =
      let low : at < length line = omega arith in
      let next : at + 2 ≡ suc (at + 1) = omega arith in
      let bytes : take (at + 2) line ≡ (take at line ++ (get_or line at 0 ∷ [])) ++ (get_or line (at + 1) 0 ∷ []) =
      ap (λ i. take i line) next ∙ take-suc line (at + 1) 0 k ∙ ap (λ z. z ++ (get_or line (at + 1) 0 ∷ [])) (ap (λ i. take i line) (add-one at) ∙ take-suc line at 0 low) in
      let digits : take (at + 2) line ≡ take at line ++ (hex_digit h ∷ hex_digit v ∷ []) =
      bytes ∙ append_assoc (take at line) (get_or line at 0 ∷ []) (get_or line (at + 1) 0 ∷ []) ∙ ap₂ (λ a b. take at line ++ (a ∷ b ∷ [])) (x.digit hs) (y.digit vs) in
      subst⁻¹ (λ b. Leads t b m) digits (leads_pair (take at line) h v w m hs vs moves l)

  module _ (line : List ℕ) where
    pub underway_none : (w : Walk) → mask w ≡ begun → Underway t line line w
    underway_none w e = record { read = []; whole = refl; leads = leads_begun w e }

    module _ (rest pair others : List ℕ) (w : Walk) (cut : rest ≡ pair ++ others) (two : length pair ≡ 2) (u : Underway t line rest w) where
      -- the line, with the two bytes that come
      split : line ≡ u.read ++ (get_or pair 0 0 ∷ get_or pair 1 0 ∷ others)
      split = u.whole ∙ ap (λ x. u.read ++ x) (cut ∙ ap (λ x. x ++ others) (two_bytes pair two))

      pub underway_more : (h v : ℕ) (m : Walk) → DigitIs (get_or pair 0 0) (Some h) → DigitIs (get_or pair 1 0) (Some v)
          → mask m ≡ moved flags t (mask w) (h * 16 + v) → Underway t line others m
      underway_more h v m x y moves = record {
        read = u.read ++ (hex_digit h ∷ hex_digit v ∷ []);
        whole = split ∙ ap₂ (λ a b. u.read ++ (a ∷ b ∷ others)) x.1 y.1 ∙ sym (append_assoc u.read (hex_digit h ∷ hex_digit v ∷ []) others);
        leads = leads_pair u.read h v w m x.0 y.0 moves u.leads;
      }

      pub bad_first : DigitIs (get_or pair 0 0) None → (s : List ℕ) → IsSeries line s → ⊥
      bad_first x s i =
          no_digit u.read (get_or pair 1 0 ∷ others) s (get_or pair 0 0) (λ (v, k, e). x v k e) (subst (λ z. IsSeries z s) split i)

      pub bad_second : DigitIs (get_or pair 1 0) None → (s : List ℕ) → IsSeries line s → ⊥
      bad_second x s i =
          no_digit (u.read ++ (get_or pair 0 0 ∷ [])) others s (get_or pair 1 0) (λ (v, k, e). x v k e)
          (subst (λ z. IsSeries z s) (split ∙ sym (append_assoc u.read (get_or pair 0 0 ∷ []) (get_or pair 1 0 ∷ others))) i)

    -- of an even line no single byte is left
    pub underway_all : (length line % 2 ≡ 1 → ⊥) → (rest : List ℕ) (w : Walk) → length rest < 2 → Underway t line rest w → Leads t (take (length line) line) w
    underway_all even rest w h u =
        let sizes = ap length u.whole ∙ length-append u.read rest in
        let dates = ap length u.leads.text ∙ series_length u.leads.series in
        let none : length rest ≡ 0 = omega arith in
        let whole : take (length line) line ≡ u.read =
        take_all (length line) line (omega arith) ∙ u.whole ∙ ap (λ x. u.read ++ x) (no_bytes rest none) ∙ append-nil u.read in
        subst⁻¹ (λ b. Leads t b w) whole u.leads

  -- ---- the answer

  series_read : (line : List ℕ) (at : ℕ) (w : Walk) → length line ≤ at → length line ≤ 8192 → (l : Leads t (take at line) w) → IsSeries line l.series
  series_read line at w h few l =
      let whole : line ≡ series_text l.series = sym (take_all at line h) ∙ l.text in
      record { text = whole; dates = l.dates; few = let e = ap length whole in omega (arith, series_length l.series) }

  module _ (line : List ℕ) (at : ℕ) (w : Walk) (h : length line ≤ at) (few : length line ≤ 8192) (l : Leads t (take at line) w) where
    pub answers_yes : answer t (mask w) ≡ true → AnswerIs (Accepted t) line Yes
    answers_yes y = (l.series, series_read line at w h few l, subst (λ z. T (answer t z)) l.walk (subst⁻¹ T y tt))

    pub answers_no : answer t (mask w) ≡ false → AnswerIs (Accepted t) line No
    answers_no y = (l.series, series_read line at w h few l, λ a. subst T y (subst⁻¹ (λ z. T (answer t z)) l.walk a))

-- ---- what is no series

module _ (line : List ℕ) where
  pub bad_odd : length line % 2 ≡ 1 → (s : List ℕ) → IsSeries line s → ⊥
  bad_odd h s i = let e = line_length line s i in omega arith

  pub bad_long : 8192 < length line → (s : List ℕ) → IsSeries line s → ⊥
  bad_long h s i = let e = line_length line s i in let f = i.few in omega arith

  pub bad_byte : (at : ℕ) → at < length line → ValueIs 16 (get_or line at 0) 16 → (s : List ℕ) → IsSeries line s → ⊥
  bad_byte at h x s i =
      no_digit (take at line) (drop (suc at) line) s (get_or line at 0) (λ (v, k, e). x.none refl v k e)
      (subst (λ z. IsSeries z s) (split_at line at 0 h) i)
