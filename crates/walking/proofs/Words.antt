-- A walk and its set of states. Assumes nothing.
use mathlib.Core.Path.{◌≡◌, sym, ap, ◌∙◌, subst, subst⁻¹}
use mathlib.Core.Logic.Iff
use mathlib.Core.Logic.{◌↔◌}
use mathlib.Core.Bool.{Bool, true, false, cond}
use Prim.Native.Nat.{ℕ, ◌+◌, ◌-◌, ◌*◌, ◌/◌, ◌%◌, ◌^◌, ◌≤◌, ◌<◌}
use native.Mathlib.Nat.{zero-mul, le_refl, lt_of_lt_of_le, div-lt_iff_lt-mul, div-eq_of_lt}
use native.Mathlib.Omega.{arith}
use lib.Bits.{bit_or, or_zero_r}
use lib.Arith.{digits_div}
use lib.Dec.{eqb}
use lib.Pow.{pow_mono, pow-lt, pow-add, pow_pos}
use Rattle.laws.specs.Decided.{Decides, decides_means, eq_means}
use Rattle.laws.specs.Masks.{shl_one, or_low, or_high}
use Rattle.std.specs.Int.{from_bool}
use Rattle.walking.specs.declared.Walk.{Walk}
use Rattle.walking.specs.MovingLaws.{good_small, small_good}
use Rattle.walking.specs.Walks.{GoodWalk}

-- ---- the test whether a walk is good

below_two : (x k : ℕ) → (x / 2 ^ k ≡ 0) ↔ (x < 2 ^ k)
below_two x k = (
  λ e. let h : x < 1 * 2 ^ k = (div-lt_iff_lt-mul (pow_pos k)).0 (subst⁻¹ (λ (y : ℕ). y < 1) e (le_refl 1)) in omega arith,
  div-eq_of_lt,
)

above : (n hi lo : ℕ) → lo < 2 ^ 64 → 64 ≤ n → (hi < 2 ^ (n - 64)) ↔ (hi * 2 ^ 64 + lo < 2 ^ n)
above n hi lo l h =
    let e : n - 64 + 64 ≡ n = omega arith in
    let wide : 2 ^ (n - 64) * 2 ^ 64 ≡ 2 ^ n = sym (pow-add 2 (n - 64) 64) ∙ ap (λ k. 2 ^ k) e in
    let div = div-lt_iff_lt-mul {x = hi * 2 ^ 64 + lo} {y = 2 ^ (n - 64)} (pow_pos 64) in (
      λ k. subst (λ (x : ℕ). hi * 2 ^ 64 + lo < x) wide (div.0 (subst⁻¹ (λ (x : ℕ). x < 2 ^ (n - 64)) (digits_div hi l) k)),
      λ k. subst (λ (x : ℕ). x < 2 ^ (n - 64)) (digits_div hi l) (div.1 (subst⁻¹ (λ (x : ℕ). hi * 2 ^ 64 + lo < x) wide k)),
    )

pub good_many : (n : ℕ) (m : Walk) → m.low < 2 ^ 64 → m.high < 2 ^ 64 → 128 ≤ n → GoodWalk n m
good_many n m l h k = small_good n m (lt_of_lt_of_le ((above 128 m.high m.low l (omega arith)).0 h) (pow_mono k))

pub good_above : (n : ℕ) (m : Walk) → m.low < 2 ^ 64 → 64 ≤ n → Decides (eqb (m.high / 2 ^ (n - 64)) 0) (GoodWalk n m)
good_above n m l h = decides_means (eqb (m.high / 2 ^ (n - 64)) 0)
    (Iff.trans (eq_means (m.high / 2 ^ (n - 64)) 0)
    (Iff.trans (below_two m.high (n - 64)) (Iff.trans (above n m.high m.low l h) (small_good n m, good_small n m))))

pub bad_above : (n : ℕ) (m : Walk) → n < 64 → (m.high ≡ 0 → ⊥) → GoodWalk n m → ⊥
bad_above n m h some g = omega (arith, good_small n m g, pow-lt {i = n} {j = 64} h)

pub good_low : (n : ℕ) (m : Walk) → m.high ≡ 0 → Decides (eqb (m.low / 2 ^ n) 0) (GoodWalk n m)
good_low n m e = decides_means (eqb (m.low / 2 ^ n) 0)
    (Iff.trans (eq_means (m.low / 2 ^ n) 0) (Iff.trans (below_two m.low n) (λ h. small_good n m (omega arith), λ g. omega (arith, good_small n m g))))

-- ---- one state more, if it is wanted

module _ (lo hi q x : ℕ) (b : Bool) (small : lo < 2 ^ 64) (e : x ≡ from_bool b) where
  none_laid : (k : ℕ) → 0 * 2 ^ k % 2 ^ 64 ≡ 0
  none_laid k = ap (λ z. z % 2 ^ 64) (zero-mul (2 ^ k))

  pub laid_low : q < 64 → hi * 2 ^ 64 + bit_or lo (x * 2 ^ q % 2 ^ 64) ≡ cond b (bit_or (hi * 2 ^ 64 + lo) (2 ^ q)) (hi * 2 ^ 64 + lo)
  laid_low h = ap (λ y. hi * 2 ^ 64 + bit_or lo (y * 2 ^ q % 2 ^ 64)) e ∙ go b
    where
      go : (b : Bool) → hi * 2 ^ 64 + bit_or lo (from_bool b * 2 ^ q % 2 ^ 64) ≡ cond b (bit_or (hi * 2 ^ 64 + lo) (2 ^ q)) (hi * 2 ^ 64 + lo)
      go true = ap (λ z. hi * 2 ^ 64 + bit_or lo z) (shl_one 64 q h) ∙ sym (or_low 64 lo hi q small h)
      go false = ap (λ z. hi * 2 ^ 64 + z) (ap (bit_or lo) (none_laid q) ∙ or_zero_r lo)

  pub laid_high : 64 ≤ q → q < 128
      → bit_or hi (x * 2 ^ (q - 64) % 2 ^ 64) * 2 ^ 64 + lo ≡ cond b (bit_or (hi * 2 ^ 64 + lo) (2 ^ q)) (hi * 2 ^ 64 + lo)
  laid_high l h = ap (λ y. bit_or hi (y * 2 ^ (q - 64) % 2 ^ 64) * 2 ^ 64 + lo) e ∙ go b
    where
      go : (b : Bool) → bit_or hi (from_bool b * 2 ^ (q - 64) % 2 ^ 64) * 2 ^ 64 + lo ≡ cond b (bit_or (hi * 2 ^ 64 + lo) (2 ^ q)) (hi * 2 ^ 64 + lo)
      go true = ap (λ z. bit_or hi z * 2 ^ 64 + lo) (shl_one 64 (q - 64) (omega arith)) ∙ sym (or_high 64 lo hi q small l)
      go false = ap (λ z. z * 2 ^ 64 + lo) (ap (bit_or hi) (none_laid (q - 64)) ∙ or_zero_r hi)
