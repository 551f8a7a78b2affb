-- The place of a mask among those met, found from the front; and the edges of a row, as a part of the slice. Assumes nothing.
use Prim.Native.Nat.{ℕ, zero, suc, ◌+◌, ◌-◌, ◌≤◌, ◌<◌}
use native.Mathlib.Numerals.{add-one}
use native.Mathlib.Omega.{arith}
use mathlib.Core.Path.{◌≡◌, sym, ap, ap₂, ◌∙◌}
use mathlib.Core.Bool.{Bool, true, false, cond, ◌||◌}
use mathlib.Core.List.{List, [], ◌∷◌}
use lib.Dec.{eqb}
use lib.ListN.{length, get_or, take, drop, length-take, length-drop}
use Rattle.std.specs.List.{between, list_any}
use Rattle.std.proofs.lemmas.List.{get_or-drop}
use Rattle.std.proofs.lemmas.List.Folds.{list_any_more}
use Rattle.laws.specs.Places.{place}
use Rattle.laws.specs.Ranges.{any_in, any_none, any_suc}

module _ (xs : List ℕ) (m : ℕ) where
  -- the place of m is i or behind it
  abbrev pub Behind : ℕ → Type 0
  Behind i = place eqb m xs ≡ i + place eqb m (drop i xs)

-- ---- the numbers from place a on

module _ (xs : List ℕ) (e a : ℕ) where
  abbrev Is : ℕ → Bool
  Is i = eqb (get_or xs i 0) e

  some_of : (n : ℕ) → a + n ≤ length xs → list_any (λ y. eqb y e) (take n (drop a xs)) ≡ any_in a (a + n) Is
  some_of zero h = sym (any_none a (a + 0) Is (omega arith))
  some_of (suc n) h =
      let below : n < length (drop a xs) = omega (arith, length-drop a xs) in
      let end : a + suc n ≡ suc (a + n) = omega arith in
      ap (λ (i : ℕ). list_any (λ y. eqb y e) (take i (drop a xs))) (sym (add-one n)) ∙ list_any_more (λ y. eqb y e) (drop a xs) n 0 below
      ∙ ap₂ ◌||◌ (some_of n (omega arith)) (ap (λ (x : ℕ). eqb x e) (get_or-drop a xs n 0)) ∙ sym (ap (λ (i : ℕ). any_in a i Is) end ∙ any_suc a (a + n) Is (omega arith))

  pub some_between : (b : ℕ) → a ≤ b → b ≤ length xs → list_any (λ y. eqb y e) (between a b xs) ≡ any_in a b Is
  some_between b l h = let end : a + (b - a) ≡ b = omega arith in some_of (b - a) (omega arith) ∙ ap (λ (i : ℕ). any_in a i Is) end

pub place_small : (a n : ℕ) (xs : List ℕ) → place eqb a (take n xs) ≤ n
place_small a n xs = omega (arith, place_le (take n xs), length-take n xs)
  where
    place_le : (l : List ℕ) → place eqb a l ≤ length l
    place_le [] = omega arith
    place_le (x ∷ l) = go (eqb a x) (place_le l)
      where
        go : (b : Bool) → place eqb a l ≤ length l → cond b 0 (suc (place eqb a l)) ≤ suc (length l)
        go true h = omega arith
        go false h = omega arith
