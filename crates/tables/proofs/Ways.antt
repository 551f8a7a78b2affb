-- What `add_edge` comes to on each of its ways, by what its tests found. Assumes nothing.
use Prim.Native.Nat.{ℕ, ◌+◌, ◌-◌, ◌%◌, ◌^◌, ◌≤◌, ◌<◌}
use native.Mathlib.Nat.{mod-eq_of_lt}
use native.Mathlib.Omega.{arith}
use mathlib.Core.Path.{◌≡◌, sym, ap, ◌∙◌}
use mathlib.Core.Bool.{Bool, true, false}
use mathlib.Core.List.{List}
use Rattle.std.specs.Prelude.{None}
use lib.Bits.{bit_and}
use lib.Dec.{eqb}
use lib.ListN.{length, set, take}
use borrow.Author.Tests.{eq-eqb}
use Rattle.laws.specs.Places.{is_in, place}
use Rattle.std.specs.List.{between, list_any}
use Rattle.meaning.specs.Flags.{flags}
use Rattle.automaton.specs.Tables.{word as edge_word, target_bits}
use Rattle.tables.specs.declared.Choice.{Choice}
use Rattle.tables.specs.Tables.{consistent, same_choice}
use Rattle.tables.specs.Bounds.{Bounded}
use Rattle.tables.specs.Progress.{up_to, Lies, Adds}
use Rattle.tables.proofs.Finding.{some_between, place_small}
use Rattle.tables.specs.AddingLaws.{adds_again, full_row, full_states, adds_old, adds_new, word_is, repeats_is, new_is, old_is}

module _ (masks edges : List ℕ) {count first filled : ℕ} (c : Choice) (few : count ≤ 128) (above : first ≤ filled) (room : filled ≤ first + 64) (size : first + 64 ≤ 8192)
    (long : 8192 ≤ length edges) where
  module _ (d : bit_and c.present c.absent ≡ 0) {p edge : ℕ} {r : Bool} (at : p ≡ place eqb c.target (take count masks))
      (w : edge ≡ edge_word flags c.present c.absent (p % 2 ^ target_bits)) (t : r ≡ list_any (λ y. eqb y edge) (between first filled edges)) where
    -- the target is a state or the next one, so all of its number is in the edge
    exact : edge ≡ edge_word flags c.present c.absent p
    exact =
        w ∙ ap (edge_word flags c.present c.absent) (mod-eq_of_lt (let h : p < 2 ^ target_bits = omega (arith, place_small c.target count masks) in h))

    fair : consistent c ≡ true
    fair = eq-eqb _ _ d

    test : (v : Bool) → r ≡ v → (found : List ℕ) (before kept : List Choice) (m e : List ℕ) (l : Lies found before kept m e masks edges count first filled)
        (b : Bounded flags c) → is_in same_choice c kept ≡ v
    test v h found before kept m e l b =
        sym (repeats_is found before kept m e masks edges count first filled l c b edge (word_is found before kept m e masks edges count first filled l c b edge p exact at))
        ∙ sym (some_between edges edge first filled above (omega arith)) ∙ sym t ∙ h

    pub way_again : r ≡ true → Adds masks edges count first filled c (up_to count filled) masks edges
    way_again h = record {
      to = λ found before kept m e l x y b.
          adds_again found before kept m e masks edges count first filled l c b few room fair (test true h found before kept m e l b);
    }

    module _ (h : r ≡ false) where
      pub way_full_row : filled - first ≡ 64 → Adds masks edges count first filled c None masks edges
      way_full_row f = record {
        to = λ found before kept m e l x y b.
            full_row found before kept m e masks edges count first filled l c b few room fair (test false h found before kept m e l b) f;
      }

      pub way_full_states : p ≡ count → count ≡ 128 → Adds masks edges count first filled c None masks edges
      way_full_states k f = record {
        to = λ found before kept m e l x y b.
            full_states found before kept m e masks edges count first filled l c b few room fair (test false h found before kept m e l b)
            (new_is found before kept m e masks edges count first filled l c b p at k) f;
      }

      module _ (f : filled - first ≡ 64 → ⊥) where
        pub way_old : (p ≡ count → ⊥) → Adds masks edges count first filled c (up_to count (filled + 1)) masks (set edges filled edge)
        way_old k = record {
          to = λ found before kept m e l x y b.
              let a : filled < first + 64 = omega arith in
              adds_old found before kept m e masks edges count first filled l c b few room fair (test false h found before kept m e l b)
              (old_is found before kept m e masks edges count first filled l c b p at k) edge
              (word_is found before kept m e masks edges count first filled l c b edge p exact at) a (omega arith);
        }

        pub way_new : p ≡ count → (count ≡ 128 → ⊥)
            → Adds masks edges count first filled c (up_to (count + 1) (filled + 1)) (set masks count c.target) (set edges filled edge)
        way_new k u = record {
          to = λ found before kept m e l x y b.
              let a : filled < first + 64 = omega arith in
              let q : count < 128 = omega arith in
              adds_new found before kept m e masks edges count first filled l c b few room fair (test false h found before kept m e l b)
              (new_is found before kept m e masks edges count first filled l c b p at k) edge
              (word_is found before kept m e masks edges count first filled l c b edge p exact at) q a (omega arith);
        }
