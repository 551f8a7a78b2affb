-- Sets of small numbers as masks, the flags of a date among them: number q is in the mask m when bit q of m is 1. Words to be believed, and laws
-- about them. Assumes nothing.
use Rattle.std.specs.Prelude.{◌≡◌, refl, ◌↔◌, ◌⊎◌, Bool, true, false, ◌&&◌, ◌||◌, ℕ, zero, suc, ◌+◌, ◌-◌, ◌*◌, ◌/◌, ◌%◌, ◌^◌, ◌≤◌, ◌<◌, min, max, T, eqb}
use Rattle.std.proofs.Common.{sym, ap, ap₂, ◌∙◌, subst, true≢false, zero-le, not-suc-le-zero, le_of_suc-le-suc, div-one, lt_of_lt_of_le, lt_of_le_of_lt, pow-suc, one-mul, zero-mul, zero-add, add-zero, mod-eq_of_lt, arith, pow_mono, pow_pos, pow-add}
use Rattle.std.proofs.Math.Path.{subst⁻¹}
use Rattle.std.proofs.Math.Logic.{by_cases}
use Rattle.std.proofs.Math.Logic.Iff
use Rattle.std.proofs.lemmas.Bool.{false≢true}
use Rattle.std.proofs.Math.Nat.{pow-succ', div-div-eq-div-mul, div-eq_of_lt}
use Rattle.std.proofs.Math.Decide.{dec_lt}
use Rattle.std.proofs.Math.Dec.{eqb-zero-suc, eqb-suc-zero, eqb-suc-suc}
use Rattle.std.specs.Int.Bits.{bit_and, bit_or, and_step, or_step, or_zero_r, block_half, block_odd}
use Rattle.std.proofs.lemmas.Nat.{and_mask, or_block}
use Rattle.std.proofs.Math.Arith.{digits_div, digits_mod}
use Rattle.std.proofs.Math.Pow.{pow-lt, high}
use Rattle.laws.specs.Decided.{eq_means, and_means, or_means, T-same}
use Rattle.laws.specs.Ranges.{one}

-- number q is in the mask m; flag q is in the date m
abbrev pub has : ℕ → ℕ → Type 0
has m q = m / 2 ^ q % 2 ≡ 1

-- the same as a test
abbrev pub bit : ℕ → ℕ → Bool
bit m q = eqb (m / 2 ^ q % 2) 1

pub bit_zero : (m : ℕ) → bit m 0 ≡ eqb (m % 2) 1
bit_zero m = rw div-one

pub bit_suc : (m q : ℕ) → bit m (suc q) ≡ bit (m / 2) q
bit_suc m q = rw (pow-succ', ← div-div-eq-div-mul)

-- the mask of the numbers below n that pass f
abbrev pub mask_of : ℕ → (ℕ → Bool) → ℕ
mask_of zero f = 0
mask_of (suc n) f = 2 * mask_of n (λ q. f (suc q)) + one (f 0)

pub mask_below : (n : ℕ) (f : ℕ → Bool) → mask_of n f < 2 ^ n
mask_below zero f = omega arith
mask_below (suc n) f = go (f 0) (mask_below n (λ q. f (suc q)))
  where
    go : (b : Bool) → mask_of n (λ q. f (suc q)) < 2 ^ n → 2 * mask_of n (λ q. f (suc q)) + one b < 2 ^ suc n
    go true h = omega arith
    go false h = omega arith

half_of : (x : ℕ) (b : Bool) → (2 * x + one b) / 2 ≡ x
half_of x true = omega arith
half_of x false = omega arith

odd_of : (x : ℕ) (b : Bool) → (2 * x + one b) % 2 ≡ one b
odd_of x true = omega arith
odd_of x false = omega arith

one_is : (b : Bool) → eqb (one b) 1 ≡ b
one_is true = refl
one_is false = refl

-- a number is in the mask of f exactly when it passes
pub bit_mask : (n : ℕ) (f : ℕ → Bool) (q : ℕ) → q < n → bit (mask_of n f) q ≡ f q
bit_mask zero f q h = absurd (not-suc-le-zero h)
bit_mask (suc n) f zero h = bit_zero (mask_of (suc n) f) ∙ ap (λ x. eqb x 1) (odd_of _ (f 0)) ∙ one_is (f 0)
bit_mask (suc n) f (suc q) h =
    bit_suc (mask_of (suc n) f) q ∙ ap (λ x. bit x q) (half_of _ (f 0)) ∙ bit_mask n (λ i. f (suc i)) q (le_of_suc-le-suc h)

-- and nothing else is
pub bit_beyond : (n m q : ℕ) → m < 2 ^ n → n ≤ q → bit m q ≡ false
bit_beyond n m q h k = ap (λ x. eqb (x % 2) 1) (div-eq_of_lt (lt_of_lt_of_le h (pow_mono k)))

-- what holds of 0 and 1 holds of a digit
bits : (P : ℕ → ℕ → Type 0) → P 0 0 → P 0 1 → P 1 0 → P 1 1 → (x y : ℕ) → x < 2 → y < 2 → P x y
bits P a b c d zero zero hx hy = a
bits P a b c d zero (suc zero) hx hy = b
bits P a b c d (suc zero) zero hx hy = c
bits P a b c d (suc zero) (suc zero) hx hy = d
bits P a b c d zero (suc (suc y)) hx hy = absurd (omega arith)
bits P a b c d (suc zero) (suc (suc y)) hx hy = absurd (omega arith)
bits P a b c d (suc (suc x)) y hx hy = absurd (omega arith)

bit_same : (x y : ℕ) → x < 2 → y < 2 → eqb x 1 ≡ eqb y 1 → x ≡ y
bit_same = bits (λ x y. eqb x 1 ≡ eqb y 1 → x ≡ y) (λ e. refl) (λ e. absurd (false≢true e)) (λ e. absurd (true≢false e)) (λ e. refl)

-- masks with the same members are equal
pub mask_ext : (n a b : ℕ) → a < 2 ^ n → b < 2 ^ n → ((q : ℕ) → q < n → bit a q ≡ bit b q) → a ≡ b
mask_ext zero a b ha hb h = omega arith
mask_ext (suc n) a b ha hb h =
    omega (
      arith,
      mask_ext n (a / 2) (b / 2) (omega arith) (omega arith) (λ q k. sym (bit_suc a q) ∙ h (suc q) (omega arith) ∙ bit_suc b q),
      bit_same (a % 2) (b % 2) (omega arith) (omega arith) (sym (bit_zero a) ∙ h 0 (omega arith) ∙ bit_zero b),
    )

-- ---- what code does with masks: a union, one member, and a mask in two words

-- an operation that works digit by digit, by f, works member by member, by g
module _ (op f : ℕ → ℕ → ℕ) (g : Bool → Bool → Bool)
    (step : (a b : ℕ) → op a b ≡ op (a / 2) (b / 2) * 2 + f (a % 2) (b % 2))
    (digit : (x y : ℕ) → x < 2 → y < 2 → (f x y < 2) × (eqb (f x y) 1 ≡ g (eqb x 1) (eqb y 1))) where
  bit_op : (a b q : ℕ) → bit (op a b) q ≡ g (bit a q) (bit b q)
  bit_op a b zero =
      let (small, same) = digit (a % 2) (b % 2) (omega arith) (omega arith) in
      bit_zero (op a b) ∙ ap (λ x. eqb (x % 2) 1) (step a b) ∙ ap (λ x. eqb x 1) (digits_mod (op (a / 2) (b / 2)) small)
      ∙ same ∙ sym (ap₂ g (bit_zero a) (bit_zero b))
  bit_op a b (suc q) =
      let (small, same) = digit (a % 2) (b % 2) (omega arith) (omega arith) in
      bit_suc (op a b) q ∙ ap (λ x. bit (x / 2) q) (step a b) ∙ ap (λ x. bit x q) (digits_div (op (a / 2) (b / 2)) small)
      ∙ bit_op (a / 2) (b / 2) q ∙ sym (ap₂ g (bit_suc a q) (bit_suc b q))

abbrev BitLaw : (ℕ → ℕ → ℕ) → (Bool → Bool → Bool) → ℕ → ℕ → Type 0
BitLaw f g x y = (f x y < 2) × (eqb (f x y) 1 ≡ g (eqb x 1) (eqb y 1))

pub bit_or_lem : (a b q : ℕ) → bit (bit_or a b) q ≡ (bit a q || bit b q)
bit_or_lem = bit_op bit_or max ◌||◌ or_step
    (bits (BitLaw max ◌||◌) (omega arith, refl) (omega arith, refl) (omega arith, refl) (omega arith, refl))

pub bit_and_lem : (a b q : ℕ) → bit (bit_and a b) q ≡ (bit a q && bit b q)
bit_and_lem = bit_op bit_and min ◌&&◌ and_step
    (bits (BitLaw min ◌&&◌) (omega arith, refl) (omega arith, refl) (omega arith, refl) (omega arith, refl))

pub bit_power : (k q : ℕ) → bit (2 ^ k) q ≡ eqb q k
bit_power zero zero = refl
bit_power zero (suc q) = bit_suc 1 q ∙ bit_beyond 0 0 q (omega arith) (omega arith) ∙ sym (eqb-suc-zero q)
bit_power (suc k) zero =
    let even : 2 ^ suc k % 2 ≡ 0 = omega arith in
    bit_zero (2 ^ suc k) ∙ ap (λ x. eqb x 1) even ∙ sym (eqb-zero-suc k)
bit_power (suc k) (suc q) =
    let half : 2 ^ suc k / 2 ≡ 2 ^ k = omega arith in
    bit_suc (2 ^ suc k) q ∙ ap (λ x. bit x q) half ∙ bit_power k q ∙ sym (eqb-suc-suc q k)

pub bit_low : (w lo hi q : ℕ) → q < w → bit (hi * 2 ^ w + lo) q ≡ bit lo q
bit_low zero lo hi q h = absurd (not-suc-le-zero h)
bit_low (suc w) lo hi zero h = bit_zero (hi * 2 ^ suc w + lo) ∙ ap (λ x. eqb x 1) (block_odd hi w lo) ∙ sym (bit_zero lo)
bit_low (suc w) lo hi (suc q) h =
    bit_suc (hi * 2 ^ suc w + lo) q ∙ ap (λ x. bit x q) (block_half hi w lo)
    ∙ bit_low w (lo / 2) hi q (le_of_suc-le-suc h) ∙ sym (bit_suc lo q)

pub bit_high : (w lo hi q : ℕ) → lo < 2 ^ w → w ≤ q → bit (hi * 2 ^ w + lo) q ≡ bit hi (q - w)
bit_high w lo hi q h k =
    let e : q ≡ w + (q - w) = omega arith in
    ap (λ x. bit (hi * 2 ^ w + lo) x) e ∙ rw (pow-add, ← div-div-eq-div-mul, high)

-- one member more, in the low word or in the high one; `1 << q` is (1 * 2 ^ q) % 2 ^ w
pub shl_one : (w q : ℕ) → q < w → (1 * 2 ^ q) % 2 ^ w ≡ 2 ^ q
shl_one w q h = ap (λ x. x % 2 ^ w) (one-mul (2 ^ q)) ∙ mod-eq_of_lt (pow-lt h)

pub or_low : (w lo hi q : ℕ) → lo < 2 ^ w → q < w → bit_or (hi * 2 ^ w + lo) (2 ^ q) ≡ hi * 2 ^ w + bit_or lo (2 ^ q)
or_low w lo hi q h k =
    ap (bit_or (hi * 2 ^ w + lo)) (sym (ap (λ x. x + 2 ^ q) (zero-mul (2 ^ w)) ∙ zero-add (2 ^ q)))
    ∙ or_block w hi 0 lo (2 ^ q) h (pow-lt k) ∙ ap (λ x. x * 2 ^ w + bit_or lo (2 ^ q)) (or_zero_r hi)

pub or_high : (w lo hi q : ℕ) → lo < 2 ^ w → w ≤ q → bit_or (hi * 2 ^ w + lo) (2 ^ q) ≡ bit_or hi (2 ^ (q - w)) * 2 ^ w + lo
or_high w lo hi q h k =
    let e : q ≡ (q - w) + w = omega arith in
    ap (bit_or (hi * 2 ^ w + lo)) (ap (λ x. 2 ^ x) e ∙ pow-add 2 (q - w) w ∙ sym (add-zero (2 ^ (q - w) * 2 ^ w)))
    ∙ or_block w hi (2 ^ (q - w)) lo 0 h (pow_pos w) ∙ ap (λ x. bit_or hi (2 ^ (q - w)) * 2 ^ w + x) (or_zero_r lo)

-- as the code tests it: `m >> q & 1 == 1`
pub bit_tested : (m q : ℕ) → eqb (bit_and (m / 2 ^ q) 1) 1 ≡ bit m q
bit_tested m q = ap (λ n. eqb n 1) (and_mask (m / 2 ^ q) 1)

-- ---- the same laws of `has`

pub bit_means : (m q : ℕ) → T (bit m q) ↔ has m q
bit_means m q = eq_means (m / 2 ^ q % 2) 1

pub has_none : (q : ℕ) → ¬ has 0 q
has_none q h = subst T (bit_beyond 0 0 q (pow_pos 0) zero-le) ((bit_means 0 q).1 h)

pub has_or : (a b q : ℕ) → has (bit_or a b) q ↔ (has a q ⊎ has b q)
has_or a b q = Iff.trans (Iff.symm (bit_means (bit_or a b) q)) (rw (bit_or_lem a b q) (or_means (bit a q) (bit b q) (bit_means a q) (bit_means b q)))

pub has_and : (a b q : ℕ) → has (bit_and a b) q ↔ (has a q × has b q)
has_and a b q = Iff.trans (Iff.symm (bit_means (bit_and a b) q)) (rw (bit_and_lem a b q) (and_means (bit a q) (bit b q) (bit_means a q) (bit_means b q)))

pub has_one : (n q : ℕ) → has (2 ^ n) q ↔ (q ≡ n)
has_one n q = Iff.trans (Iff.symm (bit_means (2 ^ n) q)) (rw (bit_power n q) (eq_means q n))

-- two masks with the same members are one
pub same_members : (a b : ℕ) → ((q : ℕ) → has a q ↔ has b q) → a ≡ b
same_members a b h =
    mask_ext (a + b) a b (lt_of_le_of_lt (le_add_r a b) (pow_more (a + b))) (lt_of_le_of_lt (le_add_l a b) (pow_more (a + b)))
    (λ q k. T-same (λ t. (bit_means b q).1 ((h q).0 ((bit_means a q).0 t))) (λ t. (bit_means a q).1 ((h q).1 ((bit_means b q).0 t))))
  where
    pow_more : (n : ℕ) → n < 2 ^ n
    pow_more zero = omega arith
    pow_more (suc n) = omega (arith, pow_more n, pow-suc 2 n)

    le_add_r : (a b : ℕ) → a ≤ a + b
    le_add_r a b = omega arith

    le_add_l : (a b : ℕ) → b ≤ a + b
    le_add_l a b = omega arith

-- as a program tests it: d has every member of p; d has no member of a
pub covers_iff : (d p : ℕ) → (bit_and d p ≡ p) ↔ ((k : ℕ) → has p k → has d k)
covers_iff d p = (
  λ e k h. ((has_and d p k).0 (subst (λ (n : ℕ). has n k) (sym e) h)).0,
  λ f. same_members (bit_and d p) p (λ k. (λ h. ((has_and d p k).0 h).1, λ h. (has_and d p k).1 (f k h, h))),
)

pub apart_iff : (d a : ℕ) → (bit_and d a ≡ 0) ↔ ((k : ℕ) → has a k → ¬ has d k)
apart_iff d a = (
  λ e k h x. has_none k (subst (λ (n : ℕ). has n k) e ((has_and d a k).1 (x, h))),
  λ f. same_members (bit_and d a) 0 (λ k. (λ h. let j = (has_and d a k).0 h in absurd (f k j.1 j.0), λ h. absurd (has_none k h))),
)

-- a mask is below 2 ^ n exactly when its members are below n
pub below_iff : (n m : ℕ) → (m < 2 ^ n) ↔ ((q : ℕ) → has m q → q < n)
below_iff n m = (
  λ h q p. by_cases (dec_lt q n) (λ l. l) (λ l. absurd (subst T (bit_beyond n m q h (omega arith)) ((bit_means m q).1 p))),
  λ f. subst (λ (x : ℕ). x < 2 ^ n) (same_members (mask_of n (bit m)) m (λ q. (there q, back f q))) (mask_below n (bit m)),
)
  where
    there : (q : ℕ) → has (mask_of n (bit m)) q → has m q
    there q p = by_cases (dec_lt q n)
        (λ l. (bit_means m q).0 (subst T (bit_mask n (bit m) q l) ((bit_means (mask_of n (bit m)) q).1 p)))
        (λ l. absurd (subst T (bit_beyond n (mask_of n (bit m)) q (mask_below n (bit m)) (omega arith)) ((bit_means (mask_of n (bit m)) q).1 p)))

    back : ((q : ℕ) → has m q → q < n) → (q : ℕ) → has m q → has (mask_of n (bit m)) q
    back f q p = (bit_means (mask_of n (bit m)) q).0 (subst⁻¹ T (bit_mask n (bit m) q (f q p)) ((bit_means m q).1 p))
