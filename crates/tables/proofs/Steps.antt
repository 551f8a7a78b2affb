-- The two loops of `explore`, step by step. Assumes nothing.
use Prim.Native.Nat.{ℕ, suc, ◌+◌, ◌*◌, ◌≤◌, ◌<◌}
use native.Mathlib.Omega.{arith}
use mathlib.Core.Path.{◌≡◌, sym, ap, ◌∙◌, subst, subst⁻¹}
use mathlib.Core.List.{List, ◌++◌, map}
use Rattle.std.specs.Prelude.{Option, None}
use lib.ListN.{length, get_or, set, drop, length-append, length-map}
use Rattle.laws.specs.Lists.{all_at, in_at}
use Rattle.laws.specs.Ranges.{list_of, length_list_of}
use Rattle.meaning.specs.Flags.{flags}
use Rattle.meaning.specs.Formula.{Formula as Tree}
use Rattle.meaning.specs.declared.Profile.{Profile}
use Rattle.rule.specs.Numbering.{Numbers, IsRule}
use Rattle.rule.specs.declared.Rule.{Rule}
use Rattle.tables.specs.declared.Choice.{Choice}
use Rattle.tables.specs.declared.Counts.{Counts}
use Rattle.tables.specs.Choices.{free, state_choices}
use Rattle.tables.specs.Indexing.{capped}
use Rattle.tables.specs.InnerContracts.{StateCount, WithinState, StateChoice}
use Rattle.tables.specs.Tables.{word, start_of}
use Rattle.tables.specs.Building.{laid}
use Rattle.tables.specs.Laying.{laid_length, laid_drop, laid_same}
use Rattle.tables.specs.Bounds.{Bounded, choices_within}
use Rattle.tables.specs.Progress.{up_to, Lies, AddsTo, Adds, after, row_mask, rows_before, AtRow, kept_of, found_of, InRow, Explores, Fresh, Rows, Choosing}
use Rattle.tables.specs.RowLaws.{fresh_row, row_inside, mask_is, starts_entered, row_entered, count_excess, row_last, choice_added, choice_excess, row_done}

-- ---- the slices that a statement is about may be any with the same rest above the size

module _ (π : Profile) (φ : Tree) (m s e m' s' e' : List ℕ) (dm : drop 128 m ≡ drop 128 m') (ds : drop 129 s ≡ drop 129 s') (de : drop 8192 e ≡ drop 8192 e') where
  lies_rebase : (found : List ℕ) (before kept : List Choice) (masks edges : List ℕ) (count first filled : ℕ)
      → Lies found before kept m e masks edges count first filled → Lies found before kept m' e' masks edges count first filled
  lies_rebase found before kept masks edges count first filled l = record {
    masks_are = l.masks_are ∙ laid_same 128 found m m' dm;
    edges_are = l.edges_are ∙ laid_same 8192 _ e e' de;
    count_is = l.count_is;
    first_is = l.first_is;
    filled_is = l.filled_is;
    met = l.met;
    bounded = l.bounded;
  }

  at_row_rebase : (row count filled : ℕ) (masks starts edges : List ℕ) → AtRow π φ m s e row count filled masks starts edges
      → AtRow π φ m' s' e' row count filled masks starts edges
  at_row_rebase row count filled masks starts edges a = record {
    lies = lies_rebase (after π φ row) (rows_before π φ row) _ masks edges count filled filled a.lies;
    starts_are = a.starts_are ∙ laid_same 129 _ s s' ds;
    row_in = a.row_in;
    few = a.few;
    begun = a.begun;
  }

  in_row_rebase : (row first number count filled : ℕ) (masks starts edges : List ℕ) → InRow π φ m s e row first number count filled masks starts edges
      → InRow π φ m' s' e' row first number count filled masks starts edges
  in_row_rebase row first number count filled masks starts edges i = record {
    lies = lies_rebase (found_of π φ row number) (rows_before π φ row) (kept_of π φ row number) masks edges count first filled i.lies;
    starts_are = i.starts_are ∙ laid_same 129 _ s s' ds;
    row_in = i.row_in;
    few = i.few;
    few_kept = i.few_kept;
    few_choices = i.few_choices;
    begun = i.begun;
  }

-- the entries that lie are no more than their sizes
module _ (found : List ℕ) (before kept : List Choice) (m e masks edges : List ℕ) (count first filled : ℕ)
    (l : Lies found before kept m e masks edges count first filled) (few : length found ≤ 128) (room : length before + length kept ≤ 8192) where
  all_length : length (map (word found) (before ++ kept)) ≤ 8192
  all_length = omega (arith, length-map (before ++ kept) (word found), length-append before kept)

  masks_drop : drop 128 masks ≡ drop 128 m
  masks_drop = ap (drop 128) l.masks_are ∙ laid_drop 128 found m few

  edges_drop : drop 8192 edges ≡ drop 8192 e
  edges_drop = ap (drop 8192) l.edges_are ∙ laid_drop 8192 _ e all_length

  masks_length : 128 ≤ length m → length masks ≡ length m
  masks_length h = ap length l.masks_are ∙ laid_length 128 found m few h

  edges_length : 8192 ≤ length e → length edges ≡ length e
  edges_length h = ap length l.edges_are ∙ laid_length 8192 _ e all_length h

-- ---- rows

pub record RowBounds (m s e : List ℕ) (row count filled : ℕ) (masks starts edges : List ℕ) : Type 0 where
  pub masks_long : length masks ≡ length m
  pub starts_long : length starts ≡ length s
  pub edges_long : length edges ≡ length e
  pub row_count : row ≤ count
  pub count_small : count ≤ 128
  pub filled_small : filled ≤ 64 * row

module _ {rule : Rule} (is_rule : IsRule rule) {m s e : List ℕ} (fresh : Fresh rule m s e) where
  pub rows_start : Rows rule m s e 0 1 0 m s e
  rows_start = record { at = λ φ num. fresh_row rule φ num m s e fresh }

  module _ {row count filled : ℕ} {masks starts edges : List ℕ} (r : Rows rule m s e row count filled masks starts edges) where
    module _ (φ : Tree) (num : Numbers rule φ) where
      here : AtRow rule.profile φ m s e row count filled masks starts edges
      here = r.at φ num

      room : length (rows_before rule.profile φ row) + 0 ≤ 8192
      room = let a = here in omega (arith, a.begun.few_edges, a.row_in, a.few)

      starts_now : set starts row filled ≡ laid 129 (list_of (suc row) (start_of rule.profile φ (after rule.profile φ row))) s
      starts_now = starts_entered rule φ num m s e row count filled masks starts edges here

      starts_few : length (list_of (suc row) (start_of rule.profile φ (after rule.profile φ row))) ≤ 129
      starts_few = let a = here in omega (arith, length_list_of (suc row) (start_of rule.profile φ (after rule.profile φ row)), a.row_in, a.few)

      starts_drop : drop 129 (set starts row filled) ≡ drop 129 s
      starts_drop = ap (drop 129) starts_now ∙ laid_drop 129 _ s starts_few

      starts_length : length (set starts row filled) ≡ length s
      starts_length = ap length starts_now ∙ laid_length 129 _ s starts_few fresh.starts_long

      masks_as : drop 128 masks ≡ drop 128 m
      masks_as = masks_drop _ _ _ m e masks edges count filled filled here.lies here.few room

      edges_as : drop 8192 edges ≡ drop 8192 e
      edges_as = edges_drop _ _ _ m e masks edges count filled filled here.lies here.few room

    bounds_at : (φ : Tree) → Numbers rule φ → RowBounds m s e row count filled masks starts edges
    bounds_at φ num =
        let a = here φ num in
        let l = a.lies in
        let b = a.begun in
        record {
          masks_long = masks_length _ _ _ m e masks edges count filled filled l a.few (room φ num) fresh.masks_long;
          starts_long = ap length a.starts_are ∙ laid_length 129 _ s (omega (arith, length_list_of row (start_of rule.profile φ (after rule.profile φ row)), a.row_in, a.few)) fresh.starts_long;
          edges_long = edges_length _ _ _ m e masks edges count filled filled l a.few (room φ num) fresh.edges_long;
          row_count = omega (arith, a.row_in, l.count_is);
          count_small = omega (arith, a.few, l.count_is);
          filled_small = omega (arith, b.few_edges, l.first_is);
        }

    pub row_bounds : RowBounds m s e row count filled masks starts edges
    row_bounds = bounds_at is_rule.0 is_rule.1

    -- every row is done
    pub rows_done : row ≡ count → Explores rule m s e (up_to count filled) masks (set starts row filled) edges
    rows_done h = record {
      ends = λ φ num. row_last rule φ num m s e row count filled masks starts edges (here φ num) h;
      masks_long = row_bounds.masks_long;
      starts_long = starts_length is_rule.0 is_rule.1;
      edges_long = row_bounds.edges_long;
    }

    module _ (d : row ≡ count → ⊥) {choices : ℕ} (c : StateCount rule (get_or masks row 0) choices) where
      module _ (φ : Tree) (num : Numbers rule φ) where
        inside : row < length (after rule.profile φ row)
        inside = row_inside rule φ num m s e row count filled masks starts edges (here φ num) d

        mask_now : get_or masks row 0 ≡ row_mask rule.profile φ row
        mask_now = mask_is rule φ num m s e row count filled masks starts edges (here φ num) inside

        count_now : choices ≡ capped (length (state_choices rule.profile φ (row_mask rule.profile φ row)))
        count_now = c.is φ num ∙ ap (λ (x : ℕ). capped (length (state_choices rule.profile φ x))) mask_now

      -- over 1,024 choices
      pub rows_over : 1024 < choices → Explores rule m s e None masks (set starts row filled) edges
      rows_over h = record {
        ends = λ φ num. (
          count_excess rule φ num m s e row count filled masks starts edges (here φ num) (inside φ num) (omega (arith, count_now φ num)),
          masks_as φ num,
          starts_drop φ num,
          edges_as φ num,
        );
        masks_long = row_bounds.masks_long;
        starts_long = starts_length is_rule.0 is_rule.1;
        edges_long = row_bounds.edges_long;
      }

      module _ (few : choices ≤ 1024) where
        pub choosing_start : Choosing rule masks edges row (get_or masks row 0) choices filled 0 count filled masks (set starts row filled) edges
        choosing_start = record {
          at = λ φ num.
              in_row_rebase rule.profile φ m s e masks (set starts row filled) edges (sym (masks_as φ num)) (sym (starts_drop φ num)) (sym (edges_as φ num))
              row filled 0 count filled masks (set starts row filled) edges
              (row_entered rule φ num m s e row count filled masks starts edges (here φ num) (inside φ num) (omega (arith, count_now φ num)));
          mask_is = mask_now;
          choices_are = λ φ num. omega (arith, count_now φ num);
        }

        -- ---- the choices of a row

        module _ {number count' filled' : ℕ} {masks' edges' : List ℕ}
            (q : Choosing rule masks edges row (get_or masks row 0) choices filled number count' filled' masks' (set starts row filled) edges') where
          module _ (φ : Tree) (num : Numbers rule φ) where
            now_in : InRow rule.profile φ masks (set starts row filled) edges row filled number count' filled' masks' (set starts row filled) edges'
            now_in = q.at φ num

            room' : length (rows_before rule.profile φ row) + length (kept_of rule.profile φ row number) ≤ 8192
            room' = let i = now_in in let a = here φ num in omega (arith, i.few_kept, a.begun.few_edges, i.row_in, a.few)

            masks_as' : drop 128 masks' ≡ drop 128 m
            masks_as' = masks_drop _ _ _ masks edges masks' edges' count' filled filled' now_in.lies now_in.few room' ∙ masks_as φ num

            edges_as' : drop 8192 edges' ≡ drop 8192 e
            edges_as' = edges_drop _ _ _ masks edges masks' edges' count' filled filled' now_in.lies now_in.few room' ∙ edges_as φ num

          pub record ChoiceBounds : Type 0 where
            pub masks_long : length masks' ≡ length m
            pub edges_long : length edges' ≡ length e
            pub masks_room : 128 ≤ length masks'
            pub edges_room : 8192 ≤ length edges'
            pub count_small : count' ≤ 128
            pub first_below : filled ≤ filled'
            pub row_room : filled' ≤ filled + 64
            pub edge_room : filled + 64 ≤ 8192
            pub row_small : row < 128

          choice_bounds_at : (φ : Tree) → Numbers rule φ → ChoiceBounds
          choice_bounds_at φ num =
              let i = now_in φ num in
              let l = i.lies in
              let a = here φ num in
              let lm : length masks' ≡ length m =
              masks_length _ _ _ masks edges masks' edges' count' filled filled' l i.few (room' φ num) (omega (arith, row_bounds.masks_long, fresh.masks_long)) ∙ row_bounds.masks_long in
              let le : length edges' ≡ length e =
              edges_length _ _ _ masks edges masks' edges' count' filled filled' l i.few (room' φ num) (omega (arith, row_bounds.edges_long, fresh.edges_long)) ∙ row_bounds.edges_long in
              record {
                masks_long = lm;
                edges_long = le;
                masks_room = omega (arith, fresh.masks_long);
                edges_room = omega (arith, fresh.edges_long);
                count_small = omega (arith, l.count_is, i.few);
                first_below = omega (arith, l.first_is, l.filled_is);
                row_room = omega (arith, l.first_is, l.filled_is, i.few_kept);
                edge_room = omega (arith, l.first_is, a.begun.few_edges, i.row_in, a.few);
                row_small = omega (arith, i.row_in, a.few);
              }

          pub choice_bounds : ChoiceBounds
          choice_bounds = choice_bounds_at is_rule.0 is_rule.1

          pub choice_within : number < choices → WithinState rule (get_or masks row 0) number
          choice_within h = record {
            some = λ φ num. subst⁻¹ (λ (x : ℕ). number < length (state_choices rule.profile φ x)) (mask_now φ num) (omega (arith, q.choices_are φ num));
            few = λ φ num. subst⁻¹ (λ (x : ℕ). length (state_choices rule.profile φ x) ≤ 1024) (mask_now φ num) (omega (arith, q.choices_are φ num));
          }

          module _ (h : number < choices) {ch : Choice} (is : StateChoice rule (get_or masks row 0) number ch) where
            module _ (φ : Tree) (num : Numbers rule φ) where
              choice_now : ch ≡ get_or (state_choices rule.profile φ (row_mask rule.profile φ row)) number free
              choice_now = is.is φ num ∙ ap (λ (x : ℕ). get_or (state_choices rule.profile φ x) number free) (mask_now φ num)

              inside_row : number < length (state_choices rule.profile φ (row_mask rule.profile φ row))
              inside_row = omega (arith, q.choices_are φ num)

              choice_bounded : Bounded flags ch
              choice_bounded = subst⁻¹ (Bounded flags) choice_now
                  (all_at (Bounded flags) (state_choices rule.profile φ (row_mask rule.profile φ row)) (choices_within rule φ num (row_mask rule.profile φ row)) _
                  (in_at (state_choices rule.profile φ (row_mask rule.profile φ row)) number free inside_row))

              stepped : (g : Option Counts) (masks'' edges'' : List ℕ) → Adds masks' edges' count' filled filled' ch g masks'' edges''
                  → AddsTo (found_of rule.profile φ row number) (rows_before rule.profile φ row) (kept_of rule.profile φ row number) masks edges filled
                  (get_or (state_choices rule.profile φ (row_mask rule.profile φ row)) number free) masks' edges' masks'' edges'' g
              stepped g masks'' edges'' ad = subst (λ (x : Choice). AddsTo (found_of rule.profile φ row number) (rows_before rule.profile φ row) (kept_of rule.profile φ row number) masks edges filled x masks' edges' masks'' edges'' g) choice_now
                  (ad.to (found_of rule.profile φ row number) (rows_before rule.profile φ row) (kept_of rule.profile φ row number) masks edges (now_in φ num).lies
                  (omega (arith, row_bounds.masks_long, fresh.masks_long)) (omega (arith, row_bounds.edges_long, fresh.edges_long)) choice_bounded)

            pub choosing_more : {masks'' edges'' : List ℕ} {x y : ℕ} → Adds masks' edges' count' filled filled' ch (up_to x y) masks'' edges''
                → Choosing rule masks edges row (get_or masks row 0) choices filled (number + 1) x y masks'' (set starts row filled) edges''
            choosing_more {masks''} {edges''} {x} {y} ad = record {
              at = λ φ num. choice_added rule φ num masks (set starts row filled) edges row filled number count' filled' masks' (set starts row filled) edges' (now_in φ num)
                  (inside_row φ num) masks'' edges'' x y (stepped φ num (up_to x y) masks'' edges'' ad);
              mask_is = q.mask_is;
              choices_are = q.choices_are;
            }

            pub choosing_over : {masks'' edges'' : List ℕ} → Adds masks' edges' count' filled filled' ch None masks'' edges''
                → Explores rule m s e None masks'' (set starts row filled) edges''
            choosing_over {masks''} {edges''} ad = record {
              ends = λ φ num.
                  let st = stepped φ num None masks'' edges'' ad in (
                    choice_excess rule φ num masks (set starts row filled) edges row filled number count' filled' masks' (set starts row filled) edges' (now_in φ num)
                        (inside_row φ num) masks'' edges'' st,
                    ap (drop 128) st.1 ∙ masks_as' φ num,
                    starts_drop φ num,
                    ap (drop 8192) st.2 ∙ edges_as' φ num,
                  );
              masks_long = ap length unchanged.0 ∙ choice_bounds.masks_long;
              starts_long = starts_length is_rule.0 is_rule.1;
              edges_long = ap length unchanged.1 ∙ choice_bounds.edges_long;
            }
              where
                unchanged : (masks'' ≡ masks') × (edges'' ≡ edges')
                unchanged = let st = stepped is_rule.0 is_rule.1 None masks'' edges'' ad in (st.1, st.2)

          -- the row is done
          pub rows_next : number ≡ choices → Rows rule m s e (row + 1) count' filled' masks' (set starts row filled) edges'
          rows_next h = record {
            at = λ φ num.
                at_row_rebase rule.profile φ masks (set starts row filled) edges m s e (masks_as φ num) (starts_drop φ num) (edges_as φ num) (row + 1) count' filled' masks' (set starts row filled) edges'
                (row_done rule φ num masks (set starts row filled) edges row filled number count' filled' masks' (set starts row filled) edges' (now_in φ num) (h ∙ q.choices_are φ num));
          }

-- what came of a choice, once the answer is known
pub grown_to : {masks edges : List ℕ} {count first filled : ℕ} {c : Choice} {r g : (Option Counts)} {masks' edges' : List ℕ} → r ≡ g
    → Adds masks edges count first filled c r masks' edges' → Adds masks edges count first filled c g masks' edges'
grown_to {masks} {edges} {count} {first} {filled} {c} {r} {g} {masks'} {edges'} e a = subst (λ (x : Option Counts). Adds masks edges count first filled c x masks' edges') e a
