-- Entries laid in a slice one by one. Assumes nothing.
use Prim.Native.Nat.{ℕ, suc, ◌+◌, ◌-◌, ◌≤◌, ◌<◌}
use Rattle.std.proofs.Common.{arith, ap₂, ◌∙◌, add-one, append_assoc, length-drop, take-suc, length-take-le, drop_at}
use Rattle.std.specs.Prelude.{◌≡◌, refl, List, [], ◌∷◌, ◌++◌, map, get_or, take, replicate}
use Rattle.std.proofs.Math.Path.{sym, ap}
use Rattle.std.proofs.Math.ListN.{length, set, drop, length-append, get_or-append}
use Rattle.std.proofs.lemmas.List.{length-replicate, length-map}
use Rattle.std.proofs.lemmas.List.Edits.{fill_more}
use Rattle.std.proofs.Math.Seq.{take-append_seam, set-append_seam}
use Rattle.tables.specs.Building.{Slices, slices, laid, laid_in, zeroed}

-- the front of a slice up to its size
front_length : (n : ℕ) (l : List ℕ) → length l ≤ n → length (l ++ replicate (n - length l) 0) ≡ n
front_length n l h = omega (arith, length-append l (replicate (n - length l) 0), length-replicate {A = ℕ} (n - length l) 0)

module _ (n : ℕ) (l xs : List ℕ) where
  laid_two : laid n l xs ≡ (l ++ replicate (n - length l) 0) ++ drop n xs
  unfolding laid
  laid_two = sym (append_assoc l (replicate (n - length l) 0) (drop n xs))

  pub laid_length : length l ≤ n → n ≤ length xs → length (laid n l xs) ≡ length xs
  laid_length h k =
      ap length laid_two ∙ length-append (l ++ replicate (n - length l) 0) (drop n xs) ∙ omega (arith, front_length n l h, length-drop n xs)

  pub laid_at : (i d : ℕ) → i < length l → get_or (laid n l xs) i d ≡ get_or l i d
  unfolding laid
  laid_at i d h = get_or-append l (replicate (n - length l) 0 ++ drop n xs) d i h

  -- above the size nothing changes
  pub laid_drop : length l ≤ n → drop n (laid n l xs) ≡ drop n xs
  laid_drop h = ap (drop n) laid_two ∙ drop_at (l ++ replicate (n - length l) 0) (drop n xs) n (front_length n l h)

  -- one entry more
  pub laid_set : (v : ℕ) → length l < n → set (laid n l xs) (length l) v ≡ laid n (l ++ (v ∷ [])) xs
  unfolding laid
  laid_set v h = go (n - length l) (n - length (l ++ (v ∷ []))) (omega (arith, length-append l (v ∷ [])))
    where
      go : (a b : ℕ) → a ≡ suc b → set (l ++ (replicate a 0 ++ drop n xs)) (length l) v ≡ (l ++ (v ∷ [])) ++ (replicate b 0 ++ drop n xs)
      go a b e =
          ap (λ (x : ℕ). set (l ++ (replicate x 0 ++ drop n xs)) (length l) v) e ∙ set-append_seam l 0 (replicate b 0 ++ drop n xs) v
          ∙ sym (append_assoc l (v ∷ []) (replicate b 0 ++ drop n xs))

pub laid_take : (n : ℕ) (l xs : List ℕ) → take (length l) (laid n l xs) ≡ l
unfolding laid
laid_take n l xs = take-append_seam l (replicate (n - length l) 0 ++ drop n xs)

-- what lies above the size is all that counts of the slice
pub laid_same : (n : ℕ) (l xs ys : List ℕ) → drop n xs ≡ drop n ys → laid n l xs ≡ laid n l ys
unfolding laid
laid_same n l xs ys e = ap (λ (r : List ℕ). l ++ (replicate (n - length l) 0 ++ r)) e

-- ---- a slice zeroed from the front

laid_zeros : (n : ℕ) (xs : List ℕ) → laid n [] xs ≡ replicate n 0 ++ drop n xs
unfolding laid
laid_zeros n xs = let e : n - 0 ≡ n = omega arith in ap (λ (k : ℕ). replicate k 0 ++ drop n xs) e

pub zeroed_none : (xs : List ℕ) → xs ≡ laid 0 [] xs
zeroed_none xs = sym (laid_zeros 0 xs)

pub zeroed_more : (n : ℕ) (xs ys : List ℕ) → n < length xs → ys ≡ laid n [] xs → set ys n 0 ≡ laid (n + 1) [] xs
zeroed_more n xs ys h e = ap (λ (l : List ℕ). set l n 0) (e ∙ laid_zeros n xs) ∙ fill_more n 0 xs h ∙ sym (laid_zeros (n + 1) xs)

-- zeros written over its front
pub zeroed_front : (n : ℕ) (xs zs : List ℕ) → n ≤ length xs → zs ≡ replicate (length (take n xs)) 0 → zs ++ drop n xs ≡ laid n [] xs
zeroed_front n xs zs h e = ap (λ (l : List ℕ). l ++ drop n xs) (e ∙ ap (λ (k : ℕ). replicate k 0) (length-take-le n xs h)) ∙ sym (laid_zeros n xs)

-- ---- entries made one by one from another list

pub laid_map_more : (n : ℕ) (f : ℕ → ℕ) (l xs ys : List ℕ) (k v : ℕ) → k < length l → k < n → v ≡ f (get_or l k 0) → ys ≡ laid n (map f (take k l)) xs
    → set ys k v ≡ laid n (map f (take (k + 1) l)) xs
laid_map_more n f l xs ys k v h s e g =
    let long : length (map f (take k l)) ≡ k = length-map (take k l) f ∙ length-take-le k l (omega arith) in
    ap₂ (λ (x : List ℕ) (y : ℕ). set x y v) g (sym long) ∙ laid_set n (map f (take k l)) xs v (omega arith)
    ∙ ap (λ (x : List ℕ). laid n x xs) (ap (λ (x : ℕ). map f (take k l) ++ (x ∷ [])) e ∙ sym (map_last (take k l) (get_or l k 0))
    ∙ ap (map f) (sym (take-suc l k 0 h)) ∙ ap (λ (i : ℕ). map f (take i l)) (sym (add-one k)))
  where
    map_last : (xs : List ℕ) (x : ℕ) → map f (xs ++ (x ∷ [])) ≡ map f xs ++ (f x ∷ [])
    map_last [] x = refl
    map_last (y ∷ xs) x = ap (λ (r : List ℕ). f y ∷ r) (map_last xs x)

-- ---- the four slices together

pub slices_same : {m m' s s' a a' e e' : List ℕ} → m ≡ m' → s ≡ s' → a ≡ a' → e ≡ e' → slices m s a e ≡ slices m' s' a' e'
slices_same p q r t = λ i. record { masks = p i; starts = q i; accepts = r i; edges = t i }

-- one mask in slices that are zeroed
pub first_entered : (x : Slices) (m s a e : List ℕ) (v w : ℕ) → v ≡ w → slices m s a e ≡ zeroed x → slices (set m 0 v) s a e ≡ laid_in x (w ∷ []) [] [] []
first_entered x m s a e v w h z =
    slices_same (ap₂ (λ (l : List ℕ) (y : ℕ). set l 0 y) (ap (λ (t : Slices). t.masks) z) h ∙ laid_set 128 [] x.masks w (omega arith))
    (ap (λ (t : Slices). t.starts) z) (ap (λ (t : Slices). t.accepts) z) (ap (λ (t : Slices). t.edges) z)
