-- An edge allows a date exactly when it has none of the flags for which the date bars it. Assumes nothing.
use mathlib.Core.Path.{◌≡◌, sym, ap₂, ◌∙◌, subst, subst⁻¹}
use mathlib.Core.Bool.{◌&&◌}
use mathlib.Core.Logic.{◌↔◌, by_cases}
use mathlib.Core.Logic.Iff
use Prim.Native.Nat.{ℕ, ◌+◌, ◌-◌, ◌*◌, ◌/◌, ◌%◌, ◌^◌, ◌≤◌, ◌<◌}
use native.Mathlib.Decide.{dec_lt}
use native.Mathlib.Nat.{mod-lt}
use native.Mathlib.Omega.{arith}
use mir.Syntax.{w8}
use lib.Bits.{bit_and}
use lib.Dec.{eqb, eqb→eq}
use lib.Pow.{pow_pos}
use Rattle.std.proofs.lemmas.Nat.{div-add-mod'}
use Rattle.std.proofs.lemmas.Nat.Bits.{bit_at_not}
use Rattle.laws.specs.Decided.{T-same, eq_means}
use Rattle.laws.specs.Masks.{has, bit_low, bit_high, bit_means, apart_iff, below_iff}
use Rattle.meaning.specs.Flags.{flags}
use Rattle.automaton.specs.Tables.{present, absent, word, allows}
use Rattle.automaton.proofs.TableLaws.{allows_means, present_below, word_present, word_absent}
use Rattle.walking.specs.Moving.{barred_by}

-- a number in two parts has what its parts have
module _ (w hi lo : ℕ) (small : lo < 2 ^ w) where
  has_low : (k : ℕ) → k < w → has (hi * 2 ^ w + lo) k ↔ has lo k
  has_low k h = Iff.trans (Iff.symm (bit_means (hi * 2 ^ w + lo) k)) (rw (bit_low w lo hi k h) (bit_means lo k))

  has_high : (k : ℕ) → w ≤ k → has (hi * 2 ^ w + lo) k ↔ has hi (k - w)
  has_high k h = Iff.trans (Iff.symm (bit_means (hi * 2 ^ w + lo) k)) (rw (bit_high w lo hi k small h) (bit_means hi (k - w)))

has_split : (w m k : ℕ) → has m k ↔ has (m / 2 ^ w * 2 ^ w + m % 2 ^ w) k
has_split w m k = rw (div-add-mod' m (2 ^ w)) Iff.rfl

-- what an edge wants present stands in its low bits, and what it wants absent above them
present_iff : (w e k : ℕ) → has (present w e) k ↔ ((k < w) × has e k)
present_iff w e k =
    let low = has_low w (e / 2 ^ w) (e % 2 ^ w) (mod-lt e (pow_pos w)) k in (
      λ h. let l = (below_iff w (present w e)).0 (mod-lt e (pow_pos w)) k h in (l, (has_split w e k).1 ((low l).1 h)),
      λ (l, h). (low l).0 ((has_split w e k).0 h),
    )

above_iff : (w e k : ℕ) → has (e / 2 ^ w) k ↔ has e (k + w)
above_iff w e k =
    let there : k + w - w ≡ k = omega arith in
    let high = has_high w (e / 2 ^ w) (e % 2 ^ w) (mod-lt e (pow_pos w)) (k + w) (omega arith) in (
      λ h. (has_split w e (k + w)).1 (high.1 (subst (λ (x : ℕ). has (e / 2 ^ w) x) (sym there) h)),
      λ h. subst (λ (x : ℕ). has (e / 2 ^ w) x) there (high.0 ((has_split w e (k + w)).0 h)),
    )

absent_iff : (w e k : ℕ) → has (absent w e) k ↔ ((k < w) × has e (k + w))
absent_iff w e k = Iff.trans (present_iff w (e / 2 ^ w) k) (Iff.and Iff.rfl (above_iff w e k))

module _ (e d : ℕ) (small : d < 2 ^ flags) where
  abbrev lacking : ℕ
  lacking = 2 ^ flags - 1 - d

  -- a date lacks the flags that it has not
  lacking_iff : (k : ℕ) → k < flags → has lacking k ↔ (has d k → ⊥)
  lacking_iff k h =
      let other : lacking / 2 ^ k % 2 ≡ 1 - d / 2 ^ k % 2 = bit_at_not w8 d k small h in
      (λ x y. omega (arith, other, x, y), λ f. omega (arith, other, f))

  barred_is : barred_by d ≡ d * 2 ^ flags + lacking
  barred_is = omega arith

  barred_low : (k : ℕ) → k < flags → has (barred_by d) k ↔ (has d k → ⊥)
  barred_low k h = subst⁻¹ (λ (x : ℕ). has x k ↔ (has d k → ⊥)) barred_is (Iff.trans (has_low flags d lacking (omega arith) k h) (lacking_iff k h))

  barred_high : (k : ℕ) → flags ≤ k → has (barred_by d) k ↔ has d (k - flags)
  barred_high k h = subst⁻¹ (λ (x : ℕ). has x k ↔ has d (k - flags)) barred_is (has_high flags d lacking (omega arith) k h)

  abbrev Wants : Type 0
  Wants = ((k : ℕ) → has (present flags e) k → has d k) × ((k : ℕ) → has (absent flags e) k → (has d k → ⊥))

  wants : bit_and e (barred_by d) ≡ 0 → Wants
  wants z =
      let f = (apart_iff e (barred_by d)).0 z in (
        λ k h. let (l, x) = (present_iff flags e k).0 h in by_cases (dec_lt 0 (d / 2 ^ k % 2)) (λ y. omega arith) (λ n. absurd (f k ((barred_low k l).1 (λ y. n (omega (arith, y)))) x)),
        λ k h y.
            let (l, x) = (absent_iff flags e k).0 h in
            let there : k + flags - flags ≡ k = omega arith in
            f (k + flags) ((barred_high (k + flags) (omega arith)).1 (subst (has d) (sym there) y)) x,
      )

  unbarred : Wants → bit_and e (barred_by d) ≡ 0
  unbarred (p, a) = (apart_iff e (barred_by d)).1 (λ k b x. by_cases (dec_lt k flags)
      (λ l. (barred_low k l).0 b (p k ((present_iff flags e k).1 (l, x))))
      (λ n.
      let y = (barred_high k (omega (arith, n))).0 b in
      let there : k - flags + flags ≡ k = omega (arith, n) in
      a (k - flags) ((absent_iff flags e (k - flags)).1 ((below_iff flags d).0 small (k - flags) y, subst (has e) (sym there) x)) y))

  unbarred_allows : eqb (bit_and e (barred_by d)) 0 ≡ allows flags e d
  unbarred_allows = T-same
      (λ u. (allows_means flags e d).1 (wants (eqb→eq _ 0 u)))
      (λ u. (eq_means (bit_and e (barred_by d)) 0).1 (unbarred ((allows_means flags e d).0 u)))

-- of an edge only its flags are looked at
pub allowed_unbarred : (e d p a : ℕ) → d < 2 ^ flags → p ≡ present flags e → a ≡ absent flags e
    → eqb (bit_and (word flags p a 0) (barred_by d)) 0 ≡ allows flags e d
allowed_unbarred e d p a small ep ea =
    let below : absent flags e < 2 ^ flags = mod-lt (e / 2 ^ flags) (pow_pos flags) in
    rw (ep, ea) (
    unbarred_allows (word flags (present flags e) (absent flags e) 0) d small
    ∙ ap₂ (λ x y. eqb (bit_and d x) x && eqb (bit_and d y) 0)
    (word_present flags (present flags e) (absent flags e) 0 (present_below flags e) below)
    (word_absent flags (present flags e) (absent flags e) 0 (present_below flags e) below)
    )
