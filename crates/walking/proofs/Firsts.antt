-- The lowest member of a mask, in one word and in two, and what is left without it. Assumes nothing.
use mathlib.Core.Path.{◌≡◌, refl, sym, ap, ◌∙◌}
use mathlib.Core.Logic.{by_cases}
use mathlib.Core.Bool.{Bool, true, false, ◌&&◌, and-false}
use Prim.Native.Nat.{ℕ, zero, suc, ◌+◌, ◌-◌, ◌*◌, ◌/◌, ◌%◌, ◌^◌, ◌<◌, zero-le}
use native.Mathlib.Nat.{le_of_suc-le-suc, not-suc-le-zero, mul-lt-mul_of_pos_right}
use native.Mathlib.Decide.{dec_lt}
use native.Mathlib.Omega.{arith}
use lib.Bits.{bit_and}
use lib.Count.{count_trailing_zeros, under}
use lib.Dec.{eqb}
use lib.Pow.{pow_pos}
use Rattle.std.proofs.lemmas.Nat.{and_le_r}
use Rattle.laws.specs.Masks.{bit, bit_zero, bit_suc, bit_and_lem, bit_low, bit_high, bit_beyond}
use Rattle.laws.specs.Lowest.{trailing_none, trailing_found, trailing_below}
use Rattle.walking.specs.Moving.{Lowest}

and_same : (b : Bool) → (b && b) ≡ b
and_same true = refl
and_same false = refl

-- n - 1 has the members of n above the lowest, but not that one
above : (k n q : ℕ) → n < 2 ^ k → (n ≡ 0 → ⊥) → count_trailing_zeros k n < q → bit (n - 1) q ≡ bit n q
unfolding count_trailing_zeros
above k n zero h some l = absurd (not-suc-le-zero l)
above zero n (suc q) h some l = absurd (some (omega arith))
above (suc k) n (suc q) h some l = go (above k (n / 2) q (omega arith)) (n % 2) refl l
  where
    go : ((n / 2 ≡ 0 → ⊥) → count_trailing_zeros k (n / 2) < q → bit (n / 2 - 1) q ≡ bit (n / 2) q) → (d : ℕ) → n % 2 ≡ d → under d (count_trailing_zeros k (n / 2)) < suc q → bit (n - 1) (suc q) ≡ bit n (suc q)
    go half_above zero e l =
        let half : (n - 1) / 2 ≡ n / 2 - 1 = omega arith in
        bit_suc (n - 1) q ∙ ap (λ x. bit x q) half ∙ half_above (λ z. some (omega arith)) (le_of_suc-le-suc l) ∙ sym (bit_suc n q)
    go half_above (suc d) e l =
        let half : (n - 1) / 2 ≡ n / 2 = omega arith in
        bit_suc (n - 1) q ∙ ap (λ x. bit x q) half ∙ sym (bit_suc n q)

there : (k n : ℕ) → n < 2 ^ k → (n ≡ 0 → ⊥) → bit (n - 1) (count_trailing_zeros k n) ≡ false
unfolding count_trailing_zeros
there zero n h some = absurd (some (omega arith))
there (suc k) n h some = go (there k (n / 2) (omega arith)) (n % 2) refl
  where
    go : ((n / 2 ≡ 0 → ⊥) → bit (n / 2 - 1) (count_trailing_zeros k (n / 2)) ≡ false) → (d : ℕ) → n % 2 ≡ d → bit (n - 1) (under d (count_trailing_zeros k (n / 2))) ≡ false
    go half_there zero e =
        let half : (n - 1) / 2 ≡ n / 2 - 1 = omega arith in
        bit_suc (n - 1) (count_trailing_zeros k (n / 2)) ∙ ap (λ x. bit x (count_trailing_zeros k (n / 2))) half ∙ half_there (λ z. some (omega arith))
    go half_there (suc d) e =
        let even : (n - 1) % 2 ≡ 0 = omega arith in
        bit_zero (n - 1) ∙ ap (λ x. eqb x 1) even

pub lowest_word : (w m : ℕ) → m < 2 ^ w → (m ≡ 0 → ⊥) → Lowest w m (count_trailing_zeros w m) (bit_and m (m - 1))
lowest_word w m small some = record {
  few = few;
  here = trailing_found w m few;
  lower = trailing_none w m;
  gone = λ q h. bit_and_lem m (m - 1) q ∙ by_cases (dec_lt q (count_trailing_zeros w m))
      (λ l. ap (λ x. x && bit (m - 1) q) (trailing_none w m q l))
      (λ l. let here : q ≡ count_trailing_zeros w m = omega arith in
      ap (λ x. bit m q && x) (ap (bit (m - 1)) here ∙ there w m small some) ∙ and-false (bit m q));
  others = λ q h. bit_and_lem m (m - 1) q ∙ ap (λ x. bit m q && x) (above w m q small some h) ∙ and_same (bit m q);
  less = omega (arith, and_le_r m (m - 1));
}
  where
    few : count_trailing_zeros w m < w
    few = trailing_below w m small some

-- in the low word of two, and in the high one where the low one has none
module _ (w lo hi : ℕ) (small : lo < 2 ^ w) (r left : ℕ) where
  pub lowest_low : Lowest w lo r left → Lowest (w + w) (hi * 2 ^ w + lo) r (hi * 2 ^ w + left)
  lowest_low n = record {
    few = omega (arith, n.few);
    here = bit_low w lo hi r n.few ∙ n.here;
    lower = λ q h. bit_low w lo hi q (omega (arith, n.few)) ∙ n.lower q h;
    gone = λ q h. bit_low w left hi q (omega (arith, n.few)) ∙ n.gone q h;
    others = λ q h. by_cases (dec_lt q w)
        (λ l. bit_low w left hi q l ∙ n.others q h ∙ sym (bit_low w lo hi q l))
        (λ l. bit_high w left hi q (omega (arith, n.less)) (omega arith) ∙ sym (bit_high w lo hi q small (omega arith)));
    less = omega (arith, n.less);
  }

  pub lowest_high : lo ≡ 0 → Lowest w hi r left → Lowest (w + w) (hi * 2 ^ w + lo) (w + r) (left * 2 ^ w + lo)
  lowest_high none n = record {
    few = omega (arith, n.few);
    here = bit_high w lo hi (w + r) small (omega arith) ∙ ap (bit hi) back ∙ n.here;
    lower = λ q h. by_cases (dec_lt q w)
        (λ l. bit_low w lo hi q l ∙ nothing q)
        (λ l. bit_high w lo hi q small (omega arith) ∙ n.lower (q - w) (omega arith));
    gone = λ q h. by_cases (dec_lt q w)
        (λ l. bit_low w lo left q l ∙ nothing q)
        (λ l. bit_high w lo left q small (omega arith) ∙ n.gone (q - w) (omega arith));
    others = λ q h. bit_high w lo left q small (omega arith) ∙ n.others (q - w) (omega arith) ∙ sym (bit_high w lo hi q small (omega arith));
    less = smaller (2 ^ w) (pow_pos w) n.less;
  }
    where
      back : w + r - w ≡ r
      back = omega arith

      nothing : (q : ℕ) → bit lo q ≡ false
      nothing q = ap (λ x. bit x q) none ∙ bit_beyond 0 0 q (pow_pos 0) zero-le

      smaller : (p : ℕ) → 0 < p → left < hi → left * p + lo < hi * p + lo
      smaller p h l = let less = mul-lt-mul_of_pos_right l h in omega arith
