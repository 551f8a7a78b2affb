-- The passes over the dates, the last first, and what the bit of the whole formula says of the series. Assumes nothing.
use Prim.Native.Nat.{ℕ, suc, ◌+◌, ◌-◌, ◌≤◌, ◌<◌}
use native.Mathlib.Omega.{arith}
use mathlib.Core.Path.{◌≡◌, sym, ap, subst, ◌∙◌}
use mathlib.Core.Bool.{Bool, true, false}
use Rattle.std.specs.Prelude.{Ok, Option, Some}
use mathlib.Core.Logic.Iff
use mathlib.Core.Logic.{◌↔◌}
use mathlib.Core.List.{[], ◌∷◌}
use lib.Dec.{T}
use lib.ListN.{length, take, drop, get_or}
use Rattle.std.proofs.Common.{reverse}
use Rattle.std.proofs.lemmas.List.{length-reverse, length-take-le, get_or-reverse, get_or-take, get_or_default}
use lib.Seq.{drop-cons, drop-length}
use Rattle.laws.specs.Masks.{bit}
use Rattle.meaning.specs.Formula.{Series}
use Rattle.meaning.specs.Meaning.{holds_by}
use Rattle.meaning.specs.Dialect.{dialect, AnswersYes}
use Rattle.meaning.specs.Rest.{Rest}
use Rattle.meaning.proofs.DialectLaws.{rest_date, answers_rest}
use Rattle.rule.specs.Numbering.{IsRule}
use Rattle.rule.proofs.ListingLaws.{rule_some, rule_whole}
use Rattle.rule.specs.Testing.{TestedAs, Tested}
use Rattle.rule.proofs.Deciding.{known_rule}
use Rattle.rule.specs.declared.numbering.Numbering.{Numbering}
use Rattle.rule.specs.declared.Rule.{Rule}
use Rattle.plain.specs.Judging.{Judging}
use Rattle.plain.specs.Masking.{MaskOf, PassOver}
use Rattle.plain.specs.EndsLaws.{mask_iff}

module _ (rule : Rule) (s : Series) where
  -- m has the formulas that, put off to the date at the place, hold of what begins there
  abbrev pub MaskFrom : Bool → ℕ → ℕ → Type 0
  MaskFrom must place m = MaskOf rule.entries (λ φ. Rest rule.profile must φ (drop place s)) rule.count m

  pub mask_last : (must : Bool) (m : ℕ) → MaskOf rule.entries (λ φ. Rest rule.profile must φ []) rule.count m → MaskFrom must (length s) m
  mask_last must m x = rw drop-length x

  pub mask_earlier : (place must may m' : ℕ) → 0 < place → place ≤ length s → MaskFrom true place must → MaskFrom false place may
      → PassOver rule (get_or s (place - 1) 0) must may rule.count m' → (b : Bool) → MaskFrom b (place - 1) m'
  mask_earlier place must may m' h l x y step b =
      let e : suc (place - 1) ≡ place = omega arith in
      subst (λ (t : Series). MaskOf rule.entries (λ φ. Rest rule.profile b φ t) rule.count m')
      (sym (drop-cons s (place - 1) 0 (omega arith) ∙ ap (λ i. get_or s (place - 1) 0 ∷ drop i s) e))
      (mask_iff rule.entries (λ φ. holds_by (dialect rule.profile).clauses φ (get_or s (place - 1) 0 ∷ drop place s))
      (λ φ. Rest rule.profile b φ (get_or s (place - 1) 0 ∷ drop place s))
      (λ φ. Iff.symm (rest_date rule.profile b φ (get_or s (place - 1) 0) (drop place s)))
      rule.count m' (step (drop place s) x y))

  -- the dates before the last, the later ones first
  abbrev pub earlier : Series
  earlier = reverse (take (length s - 1) s)

  earlier_long : length earlier ≡ length s - 1
  earlier_long = length-reverse (take (length s - 1) s) ∙ length-take-le (length s - 1) s (omega arith)

  earlier_at : (n d : ℕ) → n < length earlier → get_or earlier n d ≡ get_or s (length s - (n + 1) - 1) 0
  earlier_at n d h =
      let front = take (length s - 1) s in
      let long : length front ≡ length s - 1 = length-take-le (length s - 1) s (omega arith) in
      let same : length front - 1 - n ≡ length s - (n + 1) - 1 = omega arith in
      get_or-reverse front n d (omega (arith, earlier_long)) ∙ ap (λ i. get_or front i d) same
      ∙ get_or-take (length s - 1) s (length s - (n + 1) - 1) d (omega (arith, earlier_long))
      ∙ get_or_default s (length s - (n + 1) - 1) d 0 (omega (arith, earlier_long))

  -- where the n dates before the last have been passed, one more is
  pub mask_date : (n d after m' : ℕ) → (n < length earlier) × (d ≡ get_or earlier n d) → MaskFrom true (length s - (n + 1)) after
      → MaskFrom false (length s - (n + 1)) after → PassOver rule d after after rule.count m' → (n' : ℕ) → n' ≡ n + 1 → (b : Bool) → MaskFrom b (length s - (n' + 1)) m'
  mask_date n d after m' (h, e) x y step n' f b =
      let at : length s - (n + 1) - 1 ≡ length s - (n' + 1) = omega arith in
      subst (λ (i : ℕ). MaskFrom b i m') at
      (mask_earlier (length s - (n + 1)) after after m' (omega (arith, earlier_long)) (omega arith) x y
      (subst (λ (i : ℕ). PassOver rule i after after rule.count m') (e ∙ earlier_at n d h) step) b)

  -- the last one is, and then all are
  pub mask_all : (n m : ℕ) → n ≡ length earlier → MaskFrom true (length s - (n + 1)) m → MaskFrom true 0 m
  mask_all n m e x = let z : length s - (n + 1) ≡ 0 = omega (arith, earlier_long) in subst (λ (i : ℕ). MaskFrom true i m) z x

  -- what the bit of the whole formula says
  module _ (is : IsRule rule) (m : ℕ) (x : MaskFrom true 0 m) (b : Bool) (e : b ≡ bit m (rule.count - 1)) where
    whole_bit : T b ↔ AnswersYes rule.profile is.0 s
    whole_bit =
        Iff.trans (rw e (x.each (rule.count - 1) is.0 (omega (arith, rule_some rule is.0 is.1)) (rule_whole rule is.0 is.1)))
        (Iff.symm (answers_rest rule.profile is.0 s))

  -- so it is the answer
  pub judged : ∥ IsRule rule ∥₁ → (m : ℕ) → MaskFrom true 0 m → (b : Bool) → b ≡ bit m (rule.count - 1) → Judging rule s (Ok b)
  judged t m x true e = let is = known_rule rule t in record { right = (is.0, is.1, (whole_bit is m x true e).0 tt) }
  judged t m x false e = let is = known_rule rule t in record { right = (is.0, is.1, (whole_bit is m x false e).1) }

-- what was found to be a numbering is the rule that was given
pub same_rule : (rule : Rule) (r : Option Numbering) (n : Numbering) → Tested rule r → r ≡ Some n → n.rule.now ≡ rule
same_rule rule r n t e = (subst (TestedAs rule) e t.tested).1
