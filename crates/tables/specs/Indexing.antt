-- How many choices there are, and which one has a number: by sums and products, by quotients and remainders. Assumes nothing.
use Rattle.std.specs.Prelude.{ℕ, zero, suc, ◌+◌, ◌-◌, ◌*◌, ◌/◌, ◌%◌, ◌≤◌, ◌<◌, min, ◌≡◌, refl, List, [], ◌∷◌, ◌++◌, map, length, get_or}
use Rattle.std.proofs.Common.{suc-mul, mul-suc, mul-one, mul-zero, mul_comm, mod-eq_of_lt, not-suc-le-zero, le_of_suc-le-suc, add-one, arith, sym, ap, ap₂, ◌∙◌, length-append, get_or-append-add}
use Rattle.std.proofs.Math.Nat.{div-eq_of_lt, div-eq-sub-div, mod-eq-sub-mod}
use Rattle.std.proofs.Math.Decide.{dec_lt}
use Rattle.std.proofs.Math.Logic.{by_cases}
use Rattle.std.proofs.lemmas.List.{length-map}
use Rattle.std.proofs.Math.ListN.{get_or-append}
use Rattle.std.specs.Int.Bits.{or_zero_r}
use Rattle.laws.specs.Lists.{at_map}
use Rattle.tables.specs.declared.Choice.{Choice}
use Rattle.tables.specs.Choices.{free, join, both, only}

pub join_free : (c : Choice) → join c free ≡ c
join_free c = λ i. record { present = or_zero_r c.present i; absent = or_zero_r c.absent i; target = or_zero_r c.target i }

pub length_both : (cs es : List Choice) → length (both cs es) ≡ length cs * length es
length_both [] es = omega arith
length_both (c ∷ cs) es =
    length-append (map (join c) es) (both cs es) ∙ ap₂ ◌+◌ (length-map es (join c)) (length_both cs es) ∙ omega (arith, suc-mul (length cs) (length es))

-- in the first of two lists, and in the second
pub at_first : (cs es : List Choice) (n : ℕ) → n < length cs → get_or (cs ++ es) n free ≡ get_or cs n free
at_first cs es n h = get_or-append cs es free n h

pub at_second : (cs es : List Choice) (n : ℕ) → length cs ≤ n → get_or (cs ++ es) n free ≡ get_or es (n - length cs) free
at_second cs es n h =
    let e : n ≡ length cs + (n - length cs) = omega arith in
    ap (λ (i : ℕ). get_or (cs ++ es) i free) e ∙ get_or-append-add cs es (n - length cs) free

-- in the joined list
pub at_both : (cs es : List Choice) (n : ℕ) → n < length cs * length es
    → get_or (both cs es) n free ≡ join (get_or cs (n / length es) free) (get_or es (n % length es) free)
at_both [] es n h = absurd (omega arith)
at_both (c ∷ cs) es n h = by_cases (dec_lt n (length es))
    (λ l.
    let q : n / length es ≡ 0 = div-eq_of_lt l in
    let r : n % length es ≡ n = mod-eq_of_lt l in
    get_or-append (map (join c) es) (both cs es) free n (rw length-map l) ∙ at_map (join c) es n free free l
    ∙ sym (ap₂ (λ (i j : ℕ). join (get_or (c ∷ cs) i free) (get_or es j free)) q r))
    (λ l.
    let l' : length es ≤ n = omega arith in
    let some : 0 < length es = positive (length es) h in
    let q : n / length es ≡ suc ((n - length es) / length es) = div-eq-sub-div some l' ∙ add-one ((n - length es) / length es) in
    let r : n % length es ≡ (n - length es) % length es = mod-eq-sub-mod l' in
    let long : length (map (join c) es) ≡ length es = length-map es (join c) in
    let e : n ≡ length (map (join c) es) + (n - length es) = omega arith in
    ap (λ (i : ℕ). get_or (map (join c) es ++ both cs es) i free) e ∙ get_or-append-add (map (join c) es) (both cs es) (n - length es) free
    ∙ at_both cs es (n - length es) (omega (arith, suc-mul (length cs) (length es)))
    ∙ sym (ap₂ (λ (i j : ℕ). join (get_or (c ∷ cs) i free) (get_or es j free)) q r))
  where
    positive : (x : ℕ) → n < suc (length cs) * x → 0 < x
    positive zero h = absurd (omega (arith, mul-zero (suc (length cs))))
    positive (suc x) h = omega arith

-- joined with one choice only
pub at_both_only : (cs : List Choice) (e : Choice) (n : ℕ) → n < length cs → get_or (both cs (only e)) n free ≡ join (get_or cs n free) e
at_both_only [] e n h = absurd (not-suc-le-zero h)
at_both_only (c ∷ cs) e zero h = refl
at_both_only (c ∷ cs) e (suc n) h = at_both_only cs e n (le_of_suc-le-suc h)

pub length_both_only : (cs : List Choice) (e : Choice) → length (both cs (only e)) ≡ length cs
length_both_only cs e = length_both cs (only e) ∙ mul-one (length cs)

-- ---- counts that are cut off above 1,024

abbrev pub capped : ℕ → ℕ
capped n = min n 1025

-- a product of two counts, neither of which is 0, is no less than they are
pub factors : (a b : ℕ) → 0 < a * b → (0 < a) × (0 < b) × (a ≤ a * b) × (b ≤ a * b)
factors zero b h = absurd (omega arith)
factors (suc a) zero h = absurd (omega (arith, mul-zero (suc a)))
factors (suc a) (suc b) h = omega (arith, suc-mul a (suc b), mul-suc (suc a) b)

capped_all : (a b : ℕ) → 1025 ≤ a → capped (1025 * capped b) ≡ capped (a * b)
capped_all a zero h = omega (arith, mul-zero a)
capped_all a (suc b) h = omega (arith, mul-suc a b)

-- the product of two counts that are cut off: a 0 still wins
pub capped_product : (a b : ℕ) → capped (capped a * capped b) ≡ capped (a * b)
capped_product a b = by_cases (dec_lt a 1025)
    (λ l. by_cases (dec_lt b 1025)
    (λ m. let e : capped a ≡ a = omega arith in let f : capped b ≡ b = omega arith in ap₂ (λ (x y : ℕ). capped (x * y)) e f)
    (λ m.
    let e : capped b ≡ 1025 = omega arith in
    ap (λ (x : ℕ). capped (capped a * x)) e ∙ ap capped (mul_comm (capped a) 1025) ∙ capped_all b a (omega arith) ∙ ap capped (mul_comm b a)))
    (λ l. let e : capped a ≡ 1025 = omega arith in ap (λ (x : ℕ). capped (x * capped b)) e ∙ capped_all a b (omega arith))

pub capped_sum : (a b : ℕ) → capped (capped a + capped b) ≡ capped (a + b)
capped_sum a b = omega arith
