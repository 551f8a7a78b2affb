-- A state's members from some number on: how many choices they have, and which one a number stands for. Assumes nothing.
use Prim.Native.Nat.{ℕ, zero, suc, ◌+◌, ◌-◌, ◌*◌, ◌/◌, ◌%◌, ◌≤◌, ◌<◌}
use native.Mathlib.Nat.{one-le-mul, mod-one, div-one, mod-lt, mod-eq_of_lt, div-div-eq-div-mul, mul_comm}
use native.Mathlib.Omega.{arith}
use mathlib.Core.Path.{◌≡◌, refl, sym, ap, ap₂, ◌∙◌, subst}
use mathlib.Core.Bool.{Bool, true, false, cond}
use mathlib.Core.List.{List}
use lib.Arith.{mod-mul, digits_div, digits_mod}
use lib.ListN.{length, get_or, drop, drop_of_length-le}
use lib.Seq.{drop-cons}
use Rattle.laws.specs.Lists.{front_if}
use Rattle.laws.specs.Masks.{bit}
use Rattle.meaning.specs.Formula.{Formula as Tree, one}
use Rattle.meaning.specs.declared.Profile.{Profile}
use Rattle.rule.specs.Numbering.{formulas, number, Numbers}
use Rattle.rule.proofs.ListingLaws.{rule_count}
use Rattle.rule.specs.declared.Rule.{Rule}
use Rattle.tables.specs.declared.Choice.{Choice}
use Rattle.tables.specs.declared.Picked.{Picked}
use Rattle.tables.specs.Choices.{free, join, only, both, choices_of, choices_at, members_from, state_choices, put_off}
use Rattle.tables.specs.Indexing.{capped, capped_product, length_both, at_both, factors}
use Rattle.tables.specs.InnerContracts.{Counted, StateCount, WithinState, StateChoice, ChoiceOf, Pickable, PickedFrom}
use Rattle.tables.proofs.Known.{Ready}

module _ (π : Profile) (φ : Tree) (m : ℕ) where
  abbrev tail : ℕ → List Tree
  tail k = members_from m k (drop k (formulas φ))

  abbrev tail_choices : ℕ → List Choice
  tail_choices k = choices_of (put_off π (number φ)) (tail k)

  tail_end : (k : ℕ) → length (formulas φ) ≤ k → tail_choices k ≡ only free
  unfolding members_from choices_of
  tail_end k h = ap (λ (l : List Tree). choices_of (put_off π (number φ)) (members_from m k l)) (drop_of_length-le (formulas φ) h)

  -- the members from k on are k, where it is one, and those above
  tail_step : (k : ℕ) → k < length (formulas φ) → tail_choices k ≡ cond (bit m k) (both (choices_at π φ k) (tail_choices (suc k))) (tail_choices (suc k))
  unfolding members_from choices_of
  tail_step k h =
      ap (λ (l : List Tree). choices_of (put_off π (number φ)) (members_from m k l)) (drop-cons (formulas φ) k one h) ∙ go (bit m k)
    where
      go : (b : Bool) → choices_of (put_off π (number φ)) (front_if b (get_or (formulas φ) k one) (tail (suc k)))
          ≡ cond b (both (choices_at π φ k) (tail_choices (suc k))) (tail_choices (suc k))
      go true = refl
      go false = refl

  abbrev many : ℕ → ℕ
  many k = length (tail_choices k)

  many_step : (k : ℕ) → k < length (formulas φ) → many k ≡ cond (bit m k) (length (choices_at π φ k) * many (suc k)) (many (suc k))
  many_step k h = ap length (tail_step k h) ∙ go (bit m k)
    where
      go : (b : Bool) → length (cond b (both (choices_at π φ k) (tail_choices (suc k))) (tail_choices (suc k)))
          ≡ cond b (length (choices_at π φ k) * many (suc k)) (many (suc k))
      go true = length_both (choices_at π φ k) (tail_choices (suc k))
      go false = refl

  -- where the state has a choice, so have its members from k on, and no more
  many_some : (k : ℕ) → k ≤ length (formulas φ) → 0 < many 0 → (0 < many k) × (many k ≤ many 0)
  many_some zero l h = (h, omega arith)
  many_some (suc k) l h = let (p, q) = many_some k (omega arith) h in go (bit m k) (many_step k (omega arith)) p q
    where
      go : (b : Bool) → many k ≡ cond b (length (choices_at π φ k) * many (suc k)) (many (suc k)) → 0 < many k → many k ≤ many 0
          → (0 < many (suc k)) × (many (suc k) ≤ many 0)
      go true e p q = let f = factors (length (choices_at π φ k)) (many (suc k)) (omega arith) in (f.1, omega (arith, f.3))
      go false e p q = (omega arith, omega arith)

  -- so has a member
  member_some : (k : ℕ) → k < length (formulas φ) → 0 < many 0 → bit m k ≡ true → (0 < length (choices_at π φ k)) × (length (choices_at π φ k) ≤ many 0)
  member_some k l h b =
      let (p, q) = many_some k (omega arith) h in
      let e : many k ≡ length (choices_at π φ k) * many (suc k) = many_step k l ∙ ap (λ (x : Bool). cond x (length (choices_at π φ k) * many (suc k)) (many (suc k))) b in
      let f = factors (length (choices_at π φ k)) (many (suc k)) (omega arith) in
      (f.0, omega (arith, f.2))

-- ---- counting

-- by the counts alone: of the d numbers from k on
abbrev pub tail_by : List ℕ → ℕ → ℕ → ℕ → ℕ
tail_by counts m k zero = 1
tail_by counts m k (suc d) = cond (bit m k) (capped (get_or counts k 0 * tail_by counts m (suc k) d)) (tail_by counts m (suc k) d)

module _ (rule : Rule) (counts : List ℕ) (counted : Counted rule rule.count counts) (m : ℕ) (φ : Tree) (num : Numbers rule φ) where
  tail_by_is : (d k : ℕ) → k + d ≡ rule.count → tail_by counts m k d ≡ capped (many rule.profile φ m k)
  tail_by_is zero k e = sym (ap (λ (l : List Choice). capped (length l)) (tail_end rule.profile φ m k (omega (arith, rule_count rule φ num))))
  tail_by_is (suc d) k e =
      go (bit m k) (many_step rule.profile φ m k (omega (arith, rule_count rule φ num))) ((counted.at k (omega arith)).is φ num) (tail_by_is d (suc k) (omega arith))
    where
      go : (b : Bool) → many rule.profile φ m k ≡ cond b (length (choices_at rule.profile φ k) * many rule.profile φ m (suc k)) (many rule.profile φ m (suc k)) → get_or counts k 0 ≡ capped (length (choices_at rule.profile φ k))
          → tail_by counts m (suc k) d ≡ capped (many rule.profile φ m (suc k)) → cond b (capped (get_or counts k 0 * tail_by counts m (suc k) d)) (tail_by counts m (suc k) d) ≡ capped (many rule.profile φ m k)
      go true f x y = ap₂ (λ (u v : ℕ). capped (u * v)) x y ∙ capped_product (length (choices_at rule.profile φ k)) (many rule.profile φ m (suc k)) ∙ sym (ap capped f)
      go false f x y = y ∙ sym (ap capped f)

pub state_counted : (rule : Rule) (counts : List ℕ) (m n : ℕ) → Ready rule counts → n ≡ tail_by counts m 0 (rule.count - 0) → StateCount rule m n
state_counted rule counts m n r e = record { is = λ φ num. e ∙ tail_by_is rule counts r.counted m φ num (rule.count - 0) 0 (omega arith) }

-- ---- decoding

pub record PickedTail (rule : Rule) (m number k : ℕ) (p : Picked) : Type 0 where
  pub choice_is : (φ : Tree) → Numbers rule φ → p.choice ≡ get_or (tail_choices rule.profile φ m k) (number % many rule.profile φ m k) free
  pub left_is : (φ : Tree) → Numbers rule φ → p.left ≡ number / many rule.profile φ m k

module _ (rule : Rule) (m n : ℕ) where
  pub picked_none : PickedTail rule m n rule.count (record { choice = free; left = n })
  picked_none = record {
    choice_is = λ φ num.
        let e = tail_end rule.profile φ m rule.count (omega (arith, rule_count rule φ num)) in
        sym (ap (λ (l : List Choice). get_or l (n % length l) free) e ∙ ap (λ (x : ℕ). get_or (only free) x free) (mod-one n));
    left_is = λ φ num.
        let e = tail_end rule.profile φ m rule.count (omega (arith, rule_count rule φ num)) in
        sym (ap (λ (l : List Choice). n / length l) e ∙ div-one n);
  }

  module _ (w : WithinState rule m n) where
    pub member_pickable : (j : ℕ) → j < rule.count → bit m j ≡ true → Pickable rule j
    member_pickable j l b = record {
      some = λ φ num. (member_some rule.profile φ m j (omega (arith, rule_count rule φ num)) (omega (arith, w.some φ num)) b).0;
      few = λ φ num. omega (arith, w.few φ num, (member_some rule.profile φ m j (omega (arith, rule_count rule φ num)) (omega (arith, w.some φ num)) b).1);
    }

    module _ (j k : ℕ) (e : k ≡ suc j) (l : k ≤ rule.count) (p : Picked) (h : PickedTail rule m n k p) where
      module _ (φ : Tree) (num : Numbers rule φ) where
        inside : j < length (formulas φ)
        inside = omega (arith, rule_count rule φ num)

        abbrev P : ℕ
        P = many rule.profile φ m (suc j)

        abbrev Q : ℕ
        Q = length (choices_at rule.profile φ j)

        P-some : 0 < P
        P-some = (many_some rule.profile φ m (suc j) (omega (arith, rule_count rule φ num)) (omega (arith, w.some φ num))).0

        choice_was : p.choice ≡ get_or (tail_choices rule.profile φ m (suc j)) (n % P) free
        choice_was = subst (λ (x : ℕ). p.choice ≡ get_or (tail_choices rule.profile φ m x) (n % many rule.profile φ m x) free) e (h.choice_is φ num)

        left_was : p.left ≡ n / P
        left_was = subst (λ (x : ℕ). p.left ≡ n / many rule.profile φ m x) e (h.left_is φ num)

        -- a member
        module _ (t : bit m j ≡ true) where
          Q-some : 0 < Q
          Q-some = (member_some rule.profile φ m j inside (omega (arith, w.some φ num)) t).0

          all : tail_choices rule.profile φ m j ≡ both (choices_at rule.profile φ j) (tail_choices rule.profile φ m (suc j))
          all = tail_step rule.profile φ m j inside ∙ ap (λ (b : Bool). cond b (both (choices_at rule.profile φ j) (tail_choices rule.profile φ m (suc j))) (tail_choices rule.profile φ m (suc j))) t

          size : many rule.profile φ m j ≡ Q * P
          size = ap length all ∙ length_both (choices_at rule.profile φ j) (tail_choices rule.profile φ m (suc j))

          digits : n % (Q * P) ≡ (n / P % Q) * P + n % P
          digits = mod-mul n Q-some P-some

          joined_choice : get_or (tail_choices rule.profile φ m j) (n % many rule.profile φ m j) free ≡ join (get_or (choices_at rule.profile φ j) (n / P % Q) free) (get_or (tail_choices rule.profile φ m (suc j)) (n % P) free)
          joined_choice =
              ap₂ (λ (l : List Choice) (x : ℕ). get_or l (n % x) free) all size
              ∙ at_both (choices_at rule.profile φ j) (tail_choices rule.profile φ m (suc j)) (n % (Q * P)) (mod-lt n (positive Q P Q-some P-some))
              ∙ ap₂ (λ (x y : ℕ). join (get_or (choices_at rule.profile φ j) x free) (get_or (tail_choices rule.profile φ m (suc j)) y free))
              (ap (λ (x : ℕ). x / P) digits ∙ digits_div (n / P % Q) (mod-lt n P-some)) (ap (λ (x : ℕ). x % P) digits ∙ digits_mod (n / P % Q) (mod-lt n P-some))
            where
              positive : (a b : ℕ) → 0 < a → 0 < b → 0 < a * b
              positive a b x y = one-le-mul x y

          left_over : n / many rule.profile φ m j ≡ n / P / Q
          left_over = ap (λ (x : ℕ). n / x) (size ∙ mul_comm Q P) ∙ sym (div-div-eq-div-mul n P Q)

      pub picked_more : bit m j ≡ true → (r : Picked) → PickedFrom rule j p r → PickedTail rule m n j r
      picked_more t r f = record {
        choice_is = λ φ num.
            ap (λ (x : Picked). x.choice) (f.is φ num) ∙ ap₂ (λ (x : ℕ) (y : Choice). join (get_or (choices_at rule.profile φ j) (x % Q φ num) free) y) (left_was φ num) (choice_was φ num)
            ∙ sym (joined_choice φ num t);
        left_is = λ φ num. ap (λ (x : Picked). x.left) (f.is φ num) ∙ ap (λ (x : ℕ). x / Q φ num) (left_was φ num) ∙ sym (left_over φ num t);
      }

      -- no member
      pub picked_same : bit m j ≡ false → PickedTail rule m n j p
      picked_same t = record {
        choice_is = λ φ num. choice_was φ num ∙ sym (ap (λ (l : List Choice). get_or l (n % length l) free) (above φ num));
        left_is = λ φ num. left_was φ num ∙ sym (ap (λ (l : List Choice). n / length l) (above φ num));
      }
        where
          above : (φ : Tree) (num : Numbers rule φ) → tail_choices rule.profile φ m j ≡ tail_choices rule.profile φ m (suc j)
          above φ num = tail_step rule.profile φ m j (inside φ num) ∙ ap (λ (b : Bool). cond b (both (choices_at rule.profile φ j) (tail_choices rule.profile φ m (suc j))) (tail_choices rule.profile φ m (suc j))) t

    pub state_picked : (p : Picked) → PickedTail rule m n 0 p → StateChoice rule m n p.choice
    state_picked p h = record {
      is = λ φ num. h.choice_is φ num ∙ ap (λ (x : ℕ). get_or (state_choices rule.profile φ m) x free) (mod-eq_of_lt (w.some φ num));
    }

-- ---- one member

module _ {rule : Rule} {counts : List ℕ} (ready : Ready rule counts) {k : ℕ} (l : k < rule.count) (can : Pickable rule k) where
  exact : (φ : Tree) → Numbers rule φ → get_or counts k 0 ≡ length (choices_at rule.profile φ k)
  exact φ num = omega (arith, (ready.counted.at k l).is φ num, can.few φ num)

  pub pick_some : 0 < get_or counts k 0
  pick_some = let (φ, num) = ready.is_rule in omega (arith, exact φ num, can.some φ num)

  pub picked_one : (p : Picked) (c : Choice) → ChoiceOf rule k (p.left % get_or counts k 0) c
      → PickedFrom rule k p (record { choice = join c p.choice; left = p.left / get_or counts k 0 })
  picked_one p c h = record {
    is = λ φ num.
        ap₂ (λ (x : Choice) (y : ℕ). record { choice = join x p.choice; left = p.left / y }) (h.is φ num ∙ ap (λ (y : ℕ). get_or (choices_at rule.profile φ k) (p.left % y) free) (exact φ num)) (exact φ num);
  }
