-- Laws of printed text: decimal numbers read back, have no zero in front, and are short; texts written one after another. Assumes nothing.
use Rattle.std.specs.Prelude.{◌≡◌, refl, List, [], ◌∷◌, ◌++◌, ℕ, zero, suc, ◌+◌, ◌-◌, ◌*◌, ◌/◌, ◌%◌, ◌^◌, ◌≤◌, ◌<◌, length, get_or, take, drop, set}
use Rattle.std.proofs.Common.{sym, ap, ap₂, ◌∙◌, append-nil, append_assoc, div-add-mod', div-lt_iff_lt-mul, not-suc-le-zero, pow-suc, arith, length-append, take-append-drop, take_at, drop-drop, length-take-le, lt-ltb, le-ltb, add-one, length-set, take-suc, take_all, ne_eqb}
use Rattle.std.proofs.Math.Logic.{by_cases}
use Rattle.std.proofs.Math.Decide.{dec_lt}
use Rattle.std.proofs.Math.Seq.{drop-append-add}
use Rattle.std.specs.Fmt.{decimal as printed}
use Rattle.std.proofs.lemmas.Fmt.{decimal_by_steps}
use Rattle.walking.specs.SeriesLaws.{series_length, series_append}
use Rattle.walking.specs.Text.{decimal_in, decimal, dates_text, Written, newline, wanted_word}
use Rattle.std.proofs.Math.Path.{subst⁻¹}
use Rattle.std.proofs.lemmas.List.{set_split}
use Rattle.walking.specs.Series.{series_text}

-- ---- decimal numbers

shorter : (n : ℕ) → 10 ≤ n → n / 10 < n
shorter n h = omega arith

in_small : (k n : ℕ) → n < 10 → decimal_in (suc k) n ≡ (48 + n) ∷ []
unfolding decimal_in
in_small k n h = rw (lt-ltb n 10 h)

in_more : (k n : ℕ) → 10 ≤ n → decimal_in (suc k) n ≡ decimal_in k (n / 10) ++ ((48 + n % 10) ∷ [])
unfolding decimal_in
in_more k n h = rw (le-ltb n 10 h)

-- more turns than it takes change nothing
in_same : (k j n : ℕ) → n < k → n < j → decimal_in k n ≡ decimal_in j n
in_same zero j n hk hj = absurd (not-suc-le-zero hk)
in_same (suc k) zero n hk hj = absurd (not-suc-le-zero hj)
in_same (suc k) (suc j) n hk hj =
    by_cases (dec_lt n 10)
    (λ h. in_small k n h ∙ sym (in_small j n h))
    (λ h. let big : 10 ≤ n = omega arith in
    in_more k n big ∙ ap (λ x. x ++ ((48 + n % 10) ∷ [])) (in_same k j (n / 10) (omega (arith, shorter n big)) (omega (arith, shorter n big)))
    ∙ sym (in_more j n big))

pub decimal_small : (n : ℕ) → n < 10 → decimal n ≡ (48 + n) ∷ []
unfolding decimal
decimal_small n h = in_small n n h

pub decimal_more : (n : ℕ) → 10 ≤ n → decimal n ≡ decimal (n / 10) ++ ((48 + n % 10) ∷ [])
unfolding decimal
decimal_more n h =
    in_more n n h ∙ ap (λ x. x ++ ((48 + n % 10) ∷ [])) (in_same n (suc (n / 10)) (n / 10) (shorter n h) (omega arith))

-- a law of every decimal number, digit by digit
decimal_ind : (P : ℕ → Type 0) → ((n : ℕ) → n < 10 → P n) → ((n : ℕ) → 10 ≤ n → P (n / 10) → P n) → (n : ℕ) → P n
decimal_ind P small more n = go (suc n) n (omega arith)
  where
    go : (k n : ℕ) → n < k → P n
    go zero n h = absurd (not-suc-le-zero h)
    go (suc k) n h =
        by_cases (dec_lt n 10) (small n) (λ l. let big : 10 ≤ n = omega arith in more n big (go k (n / 10) (omega (arith, shorter n big))))

-- the number that digits say, in front of which others said m
abbrev pub value_of : ℕ → List ℕ → ℕ
value_of m [] = m
value_of m (x ∷ xs) = value_of (m * 10 + (x - 48)) xs

value_last : (m : ℕ) (xs : List ℕ) (x : ℕ) → value_of m (xs ++ (x ∷ [])) ≡ value_of m xs * 10 + (x - 48)
value_last m [] x = refl
value_last m (y ∷ xs) x = value_last (m * 10 + (y - 48)) xs x

pub decimal_value : (n : ℕ) → value_of 0 (decimal n) ≡ n
decimal_value = decimal_ind (λ n. value_of 0 (decimal n) ≡ n)
    (λ n h. ap (value_of 0) (decimal_small n h) ∙ (omega arith))
    (λ n h p. ap (value_of 0) (decimal_more n h) ∙ value_last 0 (decimal (n / 10)) (48 + n % 10)
    ∙ ap₂ (λ x y. x * 10 + y) p (omega arith) ∙ div-add-mod' n 10)

-- so no two numbers have one text
pub decimal_one : (m n : ℕ) → decimal m ≡ decimal n → m ≡ n
decimal_one m n e = sym (decimal_value m) ∙ ap (value_of 0) e ∙ decimal_value n

some_front : (xs : List ℕ) (x : ℕ) → 0 < length xs → get_or (xs ++ (x ∷ [])) 0 0 ≡ get_or xs 0 0
some_front [] x h = absurd (not-suc-le-zero h)
some_front (y ∷ xs) x h = refl

pub decimal_some : (n : ℕ) → 0 < length (decimal n)
decimal_some = decimal_ind (λ n. 0 < length (decimal n))
    (λ n h. rw (decimal_small n h) (omega arith))
    (λ n h p. rw (decimal_more n h) (simp length-append (omega arith)))

-- no zero stands in front of a number but 0
pub decimal_front : (n : ℕ) → 0 < n → get_or (decimal n) 0 0 ≡ 48 → ⊥
decimal_front = decimal_ind (λ n. 0 < n → get_or (decimal n) 0 0 ≡ 48 → ⊥)
    (λ n h p e. let q = ap (λ x. get_or x 0 0) (decimal_small n h) in omega arith)
    (λ n h f p e. f (omega arith)
    (sym (ap (λ x. get_or x 0 0) (decimal_more n h) ∙ some_front (decimal (n / 10)) (48 + n % 10) (decimal_some (n / 10))) ∙ e))

-- a number below 10 ^ (k + 1) has at most k + 1 digits
pub decimal_length : (k n : ℕ) → n < 10 ^ suc k → length (decimal n) ≤ suc k
decimal_length zero n h = rw (decimal_small n h) (omega arith)
decimal_length (suc k) n h =
    by_cases (dec_lt n 10)
    (λ l. rw (decimal_small n l) (omega arith))
    (λ l. let big : 10 ≤ n = omega arith in
    let p = decimal_length k (n / 10) ((div-lt_iff_lt-mul {k = 10} {x = n} {y = 10 ^ suc k} (omega arith)).1 (rw (pow-suc 10 (suc k)) at h)) in
    rw (decimal_more n big) (simp length-append (omega arith)))

-- as the library writes it
pub decimal_printed : (n : ℕ) → n < 2 ^ 64 → decimal n ≡ printed n
decimal_printed n h = decimal_by_steps (λ n text. decimal n ≡ text) decimal_small (λ n text k e. decimal_more n k ∙ ap (λ x. x ++ ((48 + n % 10) ∷ [])) e) n h

pub decimal_short : (n : ℕ) → n < 2 ^ 64 → length (decimal n) ≤ 20
decimal_short n h = decimal_length 19 n (omega arith)

-- ---- texts in a slice

pub written_none : (b : List ℕ) (at : ℕ) → at ≤ length b → Written b at [] at b
written_none b at h = record {
  ends = omega arith;
  within = h;
  long = refl;
  bytes = sym (ap (λ x. x ++ drop at b) (append-nil (take at b)) ∙ take-append-drop at b);
}

pub front_length : (b : List ℕ) (at : ℕ) (x : List ℕ) (e : ℕ) (c : List ℕ) → Written b at x e c → length (take at b ++ x) ≡ e
front_length b at x e c w =
    let e₁ = w.ends in
    let e₂ = w.within in
    let e₃ : at ≤ length b = omega arith in
    length-append (take at b) x ∙ ap (λ k. k + length x) (length-take-le at b e₃) ∙ sym e₁

-- one text after another
pub written_both : (b : List ℕ) (at : ℕ) (x : List ℕ) (e : ℕ) (c y : List ℕ) (f : ℕ) (d : List ℕ) → Written b at x e c → Written c e y f d
    → Written b at (x ++ y) f d
written_both b at x e c y f d v w =
    let front : take e c ≡ take at b ++ x = ap (take e) v.bytes ∙ take_at (take at b ++ x) (drop e b) e (front_length b at x e c v) in
    let k : f ≡ length (take at b ++ x) + length y = w.ends ∙ ap (λ i. i + length y) (sym (front_length b at x e c v)) in
    let back : drop f c ≡ drop f b =
    ap₂ drop k v.bytes ∙ drop-append-add (take at b ++ x) (drop e b) (length y) ∙ drop-drop (length y) e b ∙ ap (λ i. drop i b) (sym w.ends) in
    record {
      ends = let e₁ = v.ends in let e₂ = w.ends in simp length-append (omega arith);
      within = let h = w.within in let l = v.long in omega arith;
      long = w.long ∙ v.long;
      bytes = w.bytes ∙ ap₂ (λ p q. (p ++ y) ++ q) front back ∙ ap (λ p. p ++ drop f b) (append_assoc (take at b) x y);
    }

-- one byte
pub written_byte : (b : List ℕ) (at x : ℕ) → at < length b → Written b at (x ∷ []) (at + 1) (set b at x)
written_byte b at x h = record {
  ends = refl;
  within = omega arith;
  long = length-set b at x;
  bytes = set_split b at x h ∙ sym (rw (add-one) (append_assoc (take at b) (x ∷ []) (drop (suc at) b)));
}

-- one byte more of a text
pub written_more : (b : List ℕ) (at : ℕ) (text : List ℕ) (i e : ℕ) (c : List ℕ) → i < length text → e < length b
    → Written b at (take i text) e c → Written b at (take (i + 1) text) (e + 1) (set c e (get_or text i 0))
written_more b at text i e c h k w =
    rw (add-one i, take-suc text i 0 h)
    (written_both b at (take i text) e c (get_or text i 0 ∷ []) (e + 1) (set c e (get_or text i 0)) w
    (written_byte c e (get_or text i 0) (let l = w.long in omega arith)))

pub written_all : (b : List ℕ) (at : ℕ) (text : List ℕ) (i e : ℕ) (c : List ℕ) → length text ≤ i → Written b at (take i text) e c → Written b at text e c
written_all b at text i e c h w = rw (take_all i text h) at w

-- a text by another name
pub written_as : (b : List ℕ) (at : ℕ) (x y : List ℕ) (e : ℕ) (c : List ℕ) → y ≡ x → Written b at x e c → Written b at y e c
written_as b at x y e c p w = subst⁻¹ (λ z. Written b at z e c) p w

-- a number that stands for nothing that is wanted has no word
pub no_word : (n : ℕ) → (n ≡ 1 → ⊥) → (n ≡ 2 → ⊥) → (n ≡ 3 → ⊥) → wanted_word n ≡ newline ∷ []
no_word n a b c = rw (ne_eqb n 1 a, ne_eqb n 2 b, ne_eqb n 3 c)

-- one date more of a series
pub written_date : (b : List ℕ) (at : ℕ) (s : List ℕ) (i e : ℕ) (c : List ℕ) (f : ℕ) (d : List ℕ) → i < length s
    → Written b at (series_text (take i s)) e c → Written c e (series_text (get_or s i 0 ∷ [])) f d → Written b at (series_text (take (i + 1) s)) f d
written_date b at s i e c f d h v w =
    rw (add-one i, take-suc s i 0 h, series_append (take i s) (get_or s i 0 ∷ []))
    (written_both b at (series_text (take i s)) e c (series_text (get_or s i 0 ∷ [])) f d v w)

pub written_series : (b : List ℕ) (at : ℕ) (s : List ℕ) (i e : ℕ) (c : List ℕ) → length s ≤ i → Written b at (series_text (take i s)) e c
    → Written b at (series_text s) e c
written_series b at s i e c h w = rw (take_all i s h) at w

-- a fit has dates, or none
pub dates_none : (s : List ℕ) → length s ≡ 0 → dates_text s ≡ dates_text []
dates_none [] h = refl
dates_none (d ∷ s) h = absurd (omega arith)

pub dates_some : (s : List ℕ) → (length s ≡ 0 → ⊥) → dates_text s ≡ series_text s
dates_some [] h = absurd (h refl)
dates_some (d ∷ s) h = refl

pub dates_length : (s : List ℕ) → length (dates_text s) ≤ 5 + 2 * length s
dates_length [] = omega arith
dates_length (d ∷ s) = let h = series_length (d ∷ s) in omega arith
