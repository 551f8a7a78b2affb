-- Texts stored one after the other, and what room they have. Assumes nothing.
use mathlib.Core.Path.{◌≡◌, sym, ap, ◌∙◌, subst}
use mathlib.Core.List.{List, [], ◌∷◌, ◌++◌}
use Prim.Native.Nat.{ℕ, suc, ◌+◌, ◌≤◌, ◌<◌}
use native.Mathlib.Omega.{arith}
use native.Mathlib.Nat.{add-zero, add-suc, suc-add}
use borrow.Author.Tests.{le-leb, lt-leb}
use lib.ListN.{length, length-append, set, take, drop}
use Rattle.std.proofs.Common.{append_assoc, drop-drop}
use lib.Seq.{sets, length-sets, sets-eq}
use borrow.Rule.Slice.PartMut.{put_mid}
use Rattle.meaning.specs.Formula.{Formula as Tree}
use Rattle.rule.specs.Standing.{Stands}
use Rattle.rule.specs.declared.FormulaNo.{FormulaNo}
use Rattle.rule.specs.declared.Formula.{Formula}
use Rattle.reading.specs.Grammar.{left, right}
use Rattle.printing.specs.Text.{Written, written_as, level_of, bare, printed}
use Rattle.printing.specs.Shapes.{Shaped, ShapeIs, BinaryIs, level_of_shape}
use Rattle.printing.specs.Writing.{Puts, Adds, Room, BareRoom, Wrote, WroteBare}
use Rattle.printing.specs.declared.Joint.{Joint}
use Rattle.printing.specs.declared.Shape.{Shape}
use Rattle.printing.specs.declared.Text.{Text}
use Rattle.printing.specs.declared.Shape.TheVariants.{Leaf, NotFlag, Prefix, Binary}

sets_append : (l : List ℕ) (i : ℕ) (t u : List ℕ) → sets (sets l i t) (i + length t) u ≡ sets l i (t ++ u)
sets_append l i [] u = ap (λ (j : ℕ). sets l j u) (add-zero i)
sets_append l i (x ∷ t) u = ap (λ (j : ℕ). sets (sets (set l i x) (suc i) t) j u) (add-suc i (length t) ∙ sym (suc-add i (length t))) ∙ sets_append (set l i x) (suc i) t u

-- What a copy into a part of a slice leaves.
pub stored_at : (out bytes now : List ℕ) (at k : ℕ) → at + length bytes ≤ length out → k ≡ length bytes → now ≡ bytes → put_mid at k out now ≡ sets out at bytes
stored_at out bytes now at k h e f = rw (e, f) (ap (λ (t : List ℕ). take at out ++ (bytes ++ t)) (drop-drop (length bytes) at out) ∙ sym (append_assoc (take at out) bytes (drop (at + length bytes) out)) ∙ sym (sets-eq bytes out at h))

puts_join : {a b c : List ℕ} {at r s : ℕ} {t u : List ℕ} → Puts a b at t r → Puts b c r u s → Puts a c at (t ++ u) s
puts_join {a} {b} {c} {at} {r} {s} {t} {u} x y = record {
  stored = y.stored ∙ ap (λ (l : List ℕ). sets l r u) x.stored ∙ ap (λ (i : ℕ). sets (sets a at t) i u) x.end ∙ sets_append a at t u;
  end = omega (arith, x.end, y.end, length-append t u);
}

adds_join : {a b c : Text} {t u : List ℕ} → Adds a t b → Adds b u c → Adds a (t ++ u) c
adds_join x y = record { same_slice = y.same_slice ∙ x.same_slice; puts = puts_join x.puts y.puts }

adds_as : {a b : Text} {t u : List ℕ} → t ≡ u → Adds a t b → Adds a u b
adds_as {a} {b} e x = subst (λ (t : List ℕ). Adds a t b) e x

-- A slice keeps its length.
adds_long : {a b : Text} {t : List ℕ} → Adds a t b → length b.out.now ≡ length a.out.now
adds_long {a} {t = t} x = ap length x.puts.stored ∙ length-sets a.out.now a.end t

-- ---- in parentheses, or bare

level_is : (entries : List Formula) (k : ℕ) (φ : Tree) (s : Shape) → Shaped entries k φ s → level_of_shape s ≡ level_of (written_as φ)
level_is entries k φ (Leaf b) x = rw x.written
level_is entries k φ (NotFlag b) x = rw x.written
level_is entries k φ (Prefix b i) x = rw x.written
level_is entries k φ (Binary j i l) x = rw x.written x.joint.level_is

printed_loose : (slot : ℕ) (w : Written) → slot < level_of w → printed slot w ≡ 40 ∷ (bare w ++ (41 ∷ []))
printed_loose slot w h = rw (lt-leb (level_of w) slot h)

pub printed_tight : (slot : ℕ) (w : Written) → level_of w ≤ slot → printed slot w ≡ bare w
printed_tight slot w h = rw (le-leb (level_of w) slot h)

module _ (entries : List Formula) (k slot : ℕ) (s : Shape) (h : ShapeIs entries k s) where
  module _ (l : slot < level_of_shape s) where
    loose_text : (φ : Tree) → Stands entries φ k → printed slot (written_as φ) ≡ 40 ∷ (bare (written_as φ) ++ (41 ∷ []))
    loose_text φ x = printed_loose slot (written_as φ) (omega (arith, level_is entries k φ s (h.shaped φ x)))

    module _ (a : Text) (x : Room entries k slot a) where
      loose_long : length (printed slot (written_as x.formula)) ≡ length (bare (written_as x.formula)) + 2
      loose_long = omega (arith, ap length (loose_text x.formula x.stands), length-append (bare (written_as x.formula)) (41 ∷ []))

      module _ (b : Text) (p : Adds a (40 ∷ []) b) where
        pub close_room : (c : Text) → WroteBare entries k s b c → c.end < length c.out.now
        close_room c q =
            let y = q.adds x.formula (h.shaped x.formula x.stands) in
            omega (arith, x.room, loose_long, adds_long p, adds_long y, p.puts.end, y.puts.end)

    pub loose_wrote : {a b c d : Text} → Adds a (40 ∷ []) b → WroteBare entries k s b c → Adds c (41 ∷ []) d → Wrote entries k slot a d
    loose_wrote p q p' = record { adds = λ φ x. adds_as (sym (loose_text φ x)) (adds_join p (adds_join (q.adds φ (h.shaped φ x)) p')) }

  module _ (l : level_of_shape s ≤ slot) where
    tight_text : (φ : Tree) → Stands entries φ k → printed slot (written_as φ) ≡ bare (written_as φ)
    tight_text φ x = printed_tight slot (written_as φ) (omega (arith, level_is entries k φ s (h.shaped φ x)))

    pub tight_wrote : {a b : Text} → WroteBare entries k s a b → Wrote entries k slot a b
    tight_wrote q = record { adds = λ φ x. adds_as (sym (tight_text φ x)) (q.adds φ (h.shaped φ x)) }

-- ---- a bare text, by its shape

module _ (entries : List Formula) (k : ℕ) (s : Shape) where
  shaped_by : (φ : Tree) (t : Shape) → s ≡ t → Shaped entries k φ s → Shaped entries k φ t
  shaped_by φ t e x = subst (Shaped entries k φ) e x

  module _ (j : Joint) (i l : FormulaNo) (e : s ≡ Binary j i l) where
    binary_text : (φ : Tree) (x : BinaryIs entries k φ j i l)
        → bare (written_as φ) ≡ printed j.left (written_as x.first) ++ (32 ∷ j.byte ∷ 32 ∷ printed j.right (written_as x.second))
    binary_text φ x =
        let o = x.joint in
        ap bare x.written
        ∙ ap (λ (t : List ℕ). printed (left x.sign) (written_as x.first) ++ (t ++ printed (right x.sign) (written_as x.second))) o.bytes
        ∙ ap (λ (m : ℕ). printed m (written_as x.first) ++ (32 ∷ j.byte ∷ 32 ∷ printed (right x.sign) (written_as x.second))) (sym o.left_is)
        ∙ ap (λ (m : ℕ). printed j.left (written_as x.first) ++ (32 ∷ j.byte ∷ 32 ∷ printed m (written_as x.second))) (sym o.right_is)

    module _ (a : Text) (x : BareRoom entries k s a) where
      known : BinaryIs entries k x.formula j i l
      known = shaped_by x.formula (Binary j i l) e x.shaped

      long : length (bare (written_as x.formula))
          ≡ length (printed j.left (written_as known.first)) + (3 + length (printed j.right (written_as known.second)))
      long = omega (
        arith,
        ap length (binary_text x.formula known),
        length-append (printed j.left (written_as known.first)) (32 ∷ j.byte ∷ 32 ∷ printed j.right (written_as known.second)),
      )

      pub first_below : i.0 < k
      first_below = known.first_below

      pub second_below : l.0 < k
      second_below = known.second_below

      module _ (c : Text) (p : Wrote entries i.0 j.left a c) where
        wrote : Adds a (printed j.left (written_as known.first)) c
        wrote = p.adds known.first known.first_stands

        pub sign_room : c.end + 3 ≤ length c.out.now
        sign_room = omega (arith, x.room, long, adds_long wrote, wrote.puts.end)

        pub second_room : (d : Text) → Adds c (32 ∷ j.byte ∷ 32 ∷ []) d → Room entries l.0 j.right d
        second_room d q = record {
          formula = known.second;
          stands = known.second_stands;
          few = omega (arith, x.few, known.second_below);
          room = omega (arith, x.room, long, adds_long wrote, adds_long q, wrote.puts.end, q.puts.end);
        }

    pub binary_wrote : {a c d f : Text} → Wrote entries i.0 j.left a c → Adds c (32 ∷ j.byte ∷ 32 ∷ []) d → Wrote entries l.0 j.right d f
        → WroteBare entries k s a f
    binary_wrote p q p' = record {
      adds = λ φ x.
          let y = shaped_by φ (Binary j i l) e x in
          adds_as (sym (binary_text φ y)) (adds_join (p.adds y.first y.first_stands) (adds_join q (p'.adds y.second y.second_stands)));
    }
