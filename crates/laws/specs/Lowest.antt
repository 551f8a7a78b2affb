-- The lowest member of a mask, as a program finds it: by a shift and a count of zeros. Assumes nothing.
use Rattle.std.specs.Prelude.{◌≡◌, refl, true, false, ℕ, zero, suc, ◌+◌, ◌/◌, ◌%◌, ◌^◌, ◌<◌, eqb}
use Rattle.std.proofs.Common.{sym, ap, ◌∙◌, subst, ⊎_elim, zero-le, not-suc-le-zero, le_of_suc-le-suc, eq-or-lt_of_le, arith, pow_pos, pow-add}
use Rattle.std.proofs.Math.Nat.{div-div-eq-div-mul}
use Rattle.std.specs.Int.Count.{count_trailing_zeros, under}
use Rattle.std.proofs.lemmas.Nat.{trailing_le}
use Rattle.laws.specs.Masks.{bit, bit_zero, bit_suc, bit_beyond, mask_ext}

-- `m >> s`
pub bit_shifted : (m s q : ℕ) → bit (m / 2 ^ s) q ≡ bit m (s + q)
bit_shifted m s q = rw (div-div-eq-div-mul, ← pow-add)

-- below the count of zeros there is no member, and at it there is one
pub trailing_none : (k n q : ℕ) → q < count_trailing_zeros k n → bit n q ≡ false
unfolding count_trailing_zeros
trailing_none zero n q h = absurd (not-suc-le-zero h)
trailing_none (suc k) n q h = go q (n % 2) refl (trailing_none k (n / 2)) h
  where
    go : (q d : ℕ) → n % 2 ≡ d → ((p : ℕ) → p < count_trailing_zeros k (n / 2) → bit (n / 2) p ≡ false) → q < under d (count_trailing_zeros k (n / 2)) → bit n q ≡ false
    go zero zero e rest l = bit_zero n ∙ ap (λ x. eqb x 1) e
    go zero (suc d) e rest l = absurd (not-suc-le-zero l)
    go (suc q) zero e rest l = bit_suc n q ∙ rest q (le_of_suc-le-suc l)
    go (suc q) (suc d) e rest l = absurd (not-suc-le-zero l)

pub trailing_found : (k n : ℕ) → count_trailing_zeros k n < k → bit n (count_trailing_zeros k n) ≡ true
unfolding count_trailing_zeros
trailing_found zero n h = absurd (not-suc-le-zero h)
trailing_found (suc k) n h = go (n % 2) refl (trailing_found k (n / 2)) h
  where
    go : (d : ℕ) → n % 2 ≡ d → (count_trailing_zeros k (n / 2) < k → bit (n / 2) (count_trailing_zeros k (n / 2)) ≡ true) → under d (count_trailing_zeros k (n / 2)) < suc k → bit n (under d (count_trailing_zeros k (n / 2))) ≡ true
    go zero e rest l = bit_suc n (count_trailing_zeros k (n / 2)) ∙ rest (le_of_suc-le-suc l)
    go (suc d) e rest l = let one : n % 2 ≡ 1 = omega arith in bit_zero n ∙ ap (λ x. eqb x 1) one

pub trailing_below : (k n : ℕ) → n < 2 ^ k → (n ≡ 0 → ⊥) → count_trailing_zeros k n < k
trailing_below k n h some = ⊎_elim
    (λ e. absurd (some (mask_ext k n 0 h (pow_pos k)
    (λ q l. trailing_none k n q (subst (λ x. q < x) (sym e) l) ∙ sym (bit_beyond 0 0 q (pow_pos 0) zero-le)))))
    (λ l. l)
    (eq-or-lt_of_le (trailing_le k n))
