-- How a formula is written, read off its entry. Assumes nothing.
use mathlib.Core.Path.{◌≡◌, refl, ap, ◌∙◌, subst}
use mathlib.Core.Logic.{⊎_elim}
use mathlib.Core.List.{List, [], ◌∷◌}
use Prim.Native.Nat.{ℕ}
use Rattle.meaning.specs.Formula.{Formula as Tree, one, zero, until, release}
use Rattle.rule.specs.Numbering.{formula_at}
use Rattle.rule.specs.Standing.{Stands, One, Two, Reads, stands_reads}
use Rattle.rule.specs.declared.FormulaNo.{FormulaNo}
use Rattle.rule.specs.declared.Formula.{Formula}
use Rattle.rule.specs.declared.Formula.TheVariants.{True, False}
use Rattle.reading.specs.Grammar.{Prefix as Leading, finally, globally, Binary as Sign}
use Rattle.printing.specs.Text.{written_as, prefix, binary, prefix_bytes}
use Rattle.printing.specs.Pushing.{until_written, release_written}
use Rattle.printing.specs.Shapes.{JointIs, Standing, Shaped, ShapeIs, PrefixIs, BinaryIs}
use Rattle.printing.specs.declared.Joint.{Joint}
use Rattle.printing.specs.declared.Shape.{Shape}

-- ---- the rows of the table of binary signs

pub until_joint : JointIs Sign.until (record { byte = 85; level = 1; left = 0; right = 1; deeper = 1 })
until_joint = record { bytes = refl; level_is = refl; left_is = refl; right_is = refl; deeper_is = refl }

pub release_joint : JointIs Sign.release (record { byte = 82; level = 1; left = 0; right = 1; deeper = 1 })
release_joint = record { bytes = refl; level_is = refl; left_is = refl; right_is = refl; deeper_is = refl }

pub and_joint : JointIs Sign.and (record { byte = 38; level = 2; left = 2; right = 1; deeper = 0 })
and_joint = record { bytes = refl; level_is = refl; left_is = refl; right_is = refl; deeper_is = refl }

pub or_joint : JointIs Sign.or (record { byte = 124; level = 3; left = 3; right = 2; deeper = 0 })
or_joint = record { bytes = refl; level_is = refl; left_is = refl; right_is = refl; deeper_is = refl }

-- ---- an entry

module _ (entries : List Formula) (k : ℕ) where
  pub read_off : (f : Formula) → Standing entries k → formula_at entries k ≡ f → (φ : Tree) × Reads entries k φ f
  read_off f s e = (s.formula, subst (Reads entries k s.formula) e (stands_reads entries k s.formula s.stands))

  pub shape_is : (f : Formula) (s : Shape) → formula_at entries k ≡ f → ((φ : Tree) → Reads entries k φ f → Shaped entries k φ s) → ShapeIs entries k s
  shape_is f s e g = record { shaped = λ φ x. g φ (subst (Reads entries k φ) e (stands_reads entries k φ x)) }

  -- A formula that is a prefix before one part, or a binary sign between two.
  pub led : (o : Leading) (f : Tree → Tree) (b : ℕ) → prefix_bytes o ≡ b ∷ 32 ∷ [] → ((p : Tree) → written_as (f p) ≡ prefix o (written_as p))
      → (φ : Tree) (i : FormulaNo) → One entries k φ i f → PrefixIs entries k φ b i
  led o f b e w φ i x = record { sign = o; part = x.part; written = ap written_as x.whole ∙ w x.part; bytes = e; below = x.below; stands = x.stands }

  module _ (φ : Tree) (i l : FormulaNo) (f : Tree → Tree → Tree) (x : Two entries k φ i l f) where
    led_right : (o : Leading) (b : ℕ) → prefix_bytes o ≡ b ∷ 32 ∷ [] → written_as (f x.left x.right) ≡ prefix o (written_as x.right) → PrefixIs entries k φ b l
    led_right o b e w = record {
      sign = o;
      part = x.right;
      written = ap written_as x.whole ∙ w;
      bytes = e;
      below = x.right_below;
      stands = x.right_stands;
    }

    pub joined_by : (o : Sign) (j : Joint) → JointIs o j → written_as (f x.left x.right) ≡ binary o (written_as x.left) (written_as x.right) → BinaryIs entries k φ j i l
    joined_by o j h w = record {
      sign = o;
      first = x.left;
      second = x.right;
      written = ap written_as x.whole ∙ w;
      joint = h;
      first_below = x.left_below;
      second_below = x.right_below;
      first_stands = x.left_stands;
      second_stands = x.right_stands;
    }

    left_reads : (g : Formula) → formula_at entries i.0 ≡ g → Reads entries i.0 x.left g
    left_reads g e = subst (Reads entries i.0 x.left) e (stands_reads entries i.0 x.left x.left_stands)

  pub finally_shaped : (φ : Tree) (i l : FormulaNo) → formula_at entries i.0 ≡ True → Two entries k φ i l until → PrefixIs entries k φ 70 l
  finally_shaped φ i l e x = ⊎_elim
      (λ w. led_right φ i l until x finally 70 refl w.1)
      (λ w. absurd (w.0 (left_reads φ i l until x True e)))
      (until_written x.left x.right)

  pub until_shaped : (φ : Tree) (i l : FormulaNo) (j : Joint) → JointIs Sign.until j → (formula_at entries i.0 ≡ True → ⊥) → Two entries k φ i l until → BinaryIs entries k φ j i l
  until_shaped φ i l j h n x = ⊎_elim
      (λ w. let y : Stands entries one i.0 = subst (λ ψ. Stands entries ψ i.0) w.0 x.left_stands in absurd (n y.here))
      (λ w. joined_by φ i l until x Sign.until j h w.1)
      (until_written x.left x.right)

  pub globally_shaped : (φ : Tree) (i l : FormulaNo) → formula_at entries i.0 ≡ False → Two entries k φ i l release → PrefixIs entries k φ 71 l
  globally_shaped φ i l e x = ⊎_elim
      (λ w. led_right φ i l release x globally 71 refl w.1)
      (λ w. absurd (w.0 (left_reads φ i l release x False e)))
      (release_written x.left x.right)

  pub release_shaped : (φ : Tree) (i l : FormulaNo) (j : Joint) → JointIs Sign.release j → (formula_at entries i.0 ≡ False → ⊥) → Two entries k φ i l release → BinaryIs entries k φ j i l
  release_shaped φ i l j h n x = ⊎_elim
      (λ w. let y : Stands entries zero i.0 = subst (λ ψ. Stands entries ψ i.0) w.0 x.left_stands in absurd (n y.here))
      (λ w. joined_by φ i l release x Sign.release j h w.1)
      (release_written x.left x.right)
