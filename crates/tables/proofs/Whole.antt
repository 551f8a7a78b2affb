-- The whole build, from slices that are long enough. Assumes nothing.
use Prim.Native.Nat.{ℕ, ◌≤◌}
use native.Mathlib.Omega.{arith}
use mathlib.Core.Path.{◌≡◌, sym, ap, ap₂, ◌∙◌, subst, subst⁻¹}
use mathlib.Core.Bool.{false}
use mathlib.Core.List.{List, [], ◌∷◌, map}
use Rattle.std.specs.Prelude.{Option, None}
use lib.Bits.{bit_and}
use lib.Dec.{eqb}
use lib.ListN.{length, take, drop}
use Rattle.laws.specs.Ranges.{one}
use Rattle.answers.specs.Answers.{refuses}
use Rattle.meaning.specs.Rest.{Rest}
use Rattle.rule.specs.Numbering.{IsRule}
use Rattle.rule.specs.declared.Rule.{Rule}
use Rattle.plain.specs.Masking.{MaskOf}
use Rattle.tables.specs.declared.Counts.{Counts}
use Rattle.tables.specs.Tables.{states, start_entries, accept_entries, edge_entries}
use Rattle.tables.specs.InnerContracts.{start_set}
use Rattle.tables.specs.Building.{Answer, counts, Slices, slices, Long, laid, laid_in, zeroed, Builds, too_much, tables}
use Rattle.tables.specs.Laying.{laid_length, laid_drop, laid_same, laid_take, slices_same}
use Rattle.tables.specs.RowLaws.{states_few}
use Rattle.tables.specs.Accepting.{accept_entries_lem}
use Rattle.tables.specs.Progress.{up_to, Explores, Fresh}

module _ (rule : Rule) {m s a e : List ℕ} (long : Long (slices m s a e)) {m₁ s₁ a₁ e₁ : List ℕ}
    (p : slices m₁ s₁ a₁ e₁ ≡ laid_in (slices m s a e) (start_set rule ∷ []) [] [] []) where
  masks_are : m₁ ≡ laid 128 (start_set rule ∷ []) m
  masks_are = ap (λ (x : Slices). x.masks) p

  starts_are : s₁ ≡ laid 129 [] s
  starts_are = ap (λ (x : Slices). x.starts) p

  accepts_are : a₁ ≡ laid 128 [] a
  accepts_are = ap (λ (x : Slices). x.accepts) p

  edges_are : e₁ ≡ laid 8192 [] e
  edges_are = ap (λ (x : Slices). x.edges) p

  masks_drop : drop 128 m₁ ≡ drop 128 m
  masks_drop = ap (drop 128) masks_are ∙ laid_drop 128 _ m (omega arith)

  starts_drop : drop 129 s₁ ≡ drop 129 s
  starts_drop = ap (drop 129) starts_are ∙ laid_drop 129 [] s (omega arith)

  accepts_drop : drop 128 a₁ ≡ drop 128 a
  accepts_drop = ap (drop 128) accepts_are ∙ laid_drop 128 [] a (omega arith)

  edges_drop : drop 8192 e₁ ≡ drop 8192 e
  edges_drop = ap (drop 8192) edges_are ∙ laid_drop 8192 [] e (omega arith)

  masks_long : length m₁ ≡ length m
  masks_long = ap length masks_are ∙ laid_length 128 _ m (omega arith) long.masks_long

  starts_long : length s₁ ≡ length s
  starts_long = ap length starts_are ∙ laid_length 129 [] s (omega arith) long.starts_long

  accepts_long : length a₁ ≡ length a
  accepts_long = ap length accepts_are ∙ laid_length 128 [] a (omega arith) long.accepts_long

  edges_long : length e₁ ≡ length e
  edges_long = ap length edges_are ∙ laid_length 8192 [] e (omega arith) long.edges_long

  pub prepared_fresh : Fresh rule m₁ s₁ e₁
  prepared_fresh = record {
    masks_fresh = masks_are ∙ sym (laid_same 128 _ m₁ m masks_drop);
    starts_fresh = starts_are ∙ sym (laid_same 129 [] s₁ s starts_drop);
    edges_fresh = edges_are ∙ sym (laid_same 8192 [] e₁ e edges_drop);
    masks_long = omega (arith, masks_long, long.masks_long);
    starts_long = omega (arith, starts_long, long.starts_long);
    edges_long = omega (arith, edges_long, long.edges_long);
  }

  -- the accept bytes are still zero
  pub accepts_fresh : a₁ ≡ laid 128 [] a₁
  accepts_fresh = accepts_are ∙ sym (laid_same 128 [] a₁ a accepts_drop)

  module _ {r : Option Counts} {m₂ s₂ e₂ : List ℕ} (x : Explores rule m₁ s₁ e₁ r m₂ s₂ e₂) where
    pub explored_long : Long (slices m₂ s₂ a₁ e₂)
    explored_long = record {
      masks_long = omega (arith, masks_long, long.masks_long, x.masks_long);
      starts_long = omega (arith, starts_long, long.starts_long, x.starts_long);
      accepts_long = omega (arith, accepts_long, long.accepts_long);
      edges_long = omega (arith, edges_long, long.edges_long, x.edges_long);
    }

    pub build_too_much : IsRule rule → r ≡ None → {z : Slices} → z ≡ zeroed (slices m₂ s₂ a₁ e₂) → Builds rule (slices m s a e) (refuses 9 tt) z
    build_too_much (φ, num) h {z} f =
        let (t, dm, ds, de) = (subst (λ (y : Option Counts). Explores rule m₁ s₁ e₁ y m₂ s₂ e₂) h x).ends φ num in
        subst⁻¹ (Builds rule (slices m s a e) (refuses 9 tt))
        (f ∙ slices_same (laid_same 128 [] m₂ m (dm ∙ masks_drop)) (laid_same 129 [] s₂ s (ds ∙ starts_drop)) (laid_same 128 [] a₁ a accepts_drop)
        (laid_same 8192 [] e₂ e (de ∙ edges_drop)))
        (too_much φ num long t)

    module _ {n k : ℕ} (h : r ≡ up_to n k) where
      done : Explores rule m₁ s₁ e₁ (up_to n k) m₂ s₂ e₂
      done = subst (λ (y : Option Counts). Explores rule m₁ s₁ e₁ y m₂ s₂ e₂) h x

      pub done_few : IsRule rule → n ≤ 128
      done_few (φ, num) = let d = done.ends φ num in omega (arith, d.1, states_few rule.profile φ d.0)

      pub done_room : IsRule rule → n ≤ length m₂
      done_room r = omega (arith, done_few r, explored_long.masks_long)

      pub build_done : IsRule rule → {ends : ℕ} → MaskOf rule.entries (λ ψ. Rest rule.profile false ψ []) rule.count ends → {a₂ : List ℕ}
          → a₂ ≡ laid 128 (map (λ (y : ℕ). one (eqb (bit_and ends y) y)) (take n m₂)) a₁ → Builds rule (slices m s a e) (counts n k) (slices m₂ s₂ a₂ e₂)
      build_done (φ, num) {ends} is_mask {a₂} g =
          let (f, c, d, pm, ps, pe) = done.ends φ num in
          let met : take n m₂ ≡ states rule.profile φ = ap₂ take c pm ∙ laid_take 128 (states rule.profile φ) m₁ in
          subst⁻¹ (λ (y : Answer). Builds rule (slices m s a e) y (slices m₂ s₂ a₂ e₂)) (ap₂ counts c d)
          (subst⁻¹ (Builds rule (slices m s a e) (counts (length (states rule.profile φ)) (length (edge_entries rule.profile φ))))
          (slices_same (pm ∙ laid_same 128 (states rule.profile φ) m₁ m masks_drop) (ps ∙ laid_same 129 (start_entries rule.profile φ) s₁ s starts_drop)
          (g ∙ ap (λ (l : List ℕ). laid 128 l a₁) (ap (map (λ (y : ℕ). one (eqb (bit_and ends y) y))) met ∙ accept_entries_lem rule φ num ends is_mask)
          ∙ laid_same 128 (accept_entries rule.profile φ) a₁ a accepts_drop) (pe ∙ laid_same 8192 (edge_entries rule.profile φ) e₁ e edges_drop))
          (tables φ num long f))
