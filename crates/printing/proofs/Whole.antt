-- The whole rule: what its size says, and what is left in the slice. Assumes nothing.
use mathlib.Core.Path.{◌≡◌, refl, sym, ap, ◌∙◌}
use mathlib.Core.Logic.{◌⊎◌, inl, inr}
use mathlib.Core.List.{List, ◌++◌}
use Prim.Native.Nat.{ℕ, ◌+◌, ◌-◌, ◌≤◌, ◌<◌, min}
use native.Mathlib.Omega.{arith}
use lib.ListN.{length, drop}
use lib.Seq.{sets, sets-eq}
use Rattle.std.specs.Prelude.{Ok, Err}
use Rattle.answers.specs.declared.Refusal.TheVariants.{TooLong}
use Rattle.meaning.specs.Formula.{Formula as Tree}
use Rattle.rule.specs.Numbering.{IsRule}
use Rattle.rule.proofs.ListingLaws.{rule_whole, rule_some, rule_few}
use Rattle.rule.specs.declared.Rule.{Rule}
use Rattle.reading.specs.Grammar.{Sound}
use Rattle.printing.specs.Text.{tree, written_as, level_of, bare, text_of}
use Rattle.printing.specs.Spelling.{deep_in, deep, level_most, raised_tight}
use Rattle.printing.specs.Fewest.{deep_exactly, depth_printed}
use Rattle.printing.specs.Pushing.{known_written}
use Rattle.printing.specs.Shapes.{SizeIs, size_of}
use Rattle.printing.specs.Writing.{Room, Wrote}
use Rattle.printing.specs.Printing.{Excessive, too_long, Printing}
use Rattle.printing.specs.declared.Size.{Size}
use Rattle.printing.specs.declared.Text.{Text}
use Rattle.printing.proofs.Storing.{printed_tight}

whole_text : (φ : Tree) → text_of φ ≡ bare (written_as φ)
unfolding text_of
whole_text φ = printed_tight 4 (written_as φ) (level_most (written_as φ))

module _ (rule : Rule) (rule_is : IsRule rule) (s : Size) (h : SizeIs rule.entries (rule.count - 1) s) where
  abbrev φ : Tree
  φ = rule_is.0

  size_is : s ≡ size_of (written_as φ)
  size_is = h.size φ (rule_whole rule φ rule_is.1)

  bytes_are : s.bytes ≡ min (length (text_of φ)) 1025
  bytes_are = ap (λ (z : Size). z.bytes) size_is ∙ ap (λ (t : List ℕ). min (length t) 1025) (sym (whole_text φ))

  depth_is : s.depth ≡ min (deep_in 4 (written_as φ)) 33
  depth_is = ap (λ (z : Size). z.depth) size_is ∙ ap (λ (n : ℕ). min n 33) (sym (raised_tight 4 (level_of (written_as φ)) (deep (written_as φ)) (level_most (written_as φ))))

  excessive : (1024 < s.bytes) ⊎ (32 < s.depth) → Excessive φ
  unfolding text_of
  excessive (inl b) = inl (omega (arith, bytes_are))
  excessive (inr d) = inr (deep_in 4 (written_as φ), depth_printed (written_as φ) (known_written φ rule_is.1.fits.known), omega (arith, depth_is))

  pub excessive_refused : (a : List ℕ) → 1024 ≤ length a → (1024 < s.bytes) ⊎ (32 < s.depth) → Printing rule a a (Err TooLong)
  excessive_refused a l x = record { right = (too_long rule_is.1 l (excessive x), refl) }

  module _ (b : s.bytes ≤ 1024) (d : s.depth ≤ 32) where
    fine : Sound (text_of φ) (tree (written_as φ))
    unfolding text_of
    fine = record {
      short = omega (arith, bytes_are);
      spells = (deep_exactly (written_as φ) (known_written φ rule_is.1.fits.known) 4 32).1 (omega (arith, depth_is));
    }

    pub whole_room : (t : Text) → t.end ≡ 0 → 1024 ≤ length t.out.now → Room rule.entries (rule.count - 1) 4 t
    unfolding text_of
    whole_room t e l = record {
      formula = φ;
      stands = rule_whole rule φ rule_is.1;
      few = omega (arith, rule_few rule φ rule_is.1, rule_some rule φ rule_is.1);
      room = omega (arith, fine.short, e);
    }

    pub same_slice : {t u : Text} → Wrote rule.entries (rule.count - 1) 4 t u → u.out.ghost_name ≡ t.out.ghost_name
    same_slice w = (w.adds φ (rule_whole rule φ rule_is.1)).same_slice

    pub printed_right : (t u : Text) → t.end ≡ 0 → 1024 ≤ length t.out.now → Wrote rule.entries (rule.count - 1) 4 t u → Printing rule t.out.now u.out.now (Ok u.end)
    unfolding text_of
    printed_right t u b l w =
        let p = (w.adds φ (rule_whole rule φ rule_is.1)).puts in
        let e : u.end ≡ length (text_of φ) = omega (arith, p.end, b) in
        let f : 0 + length (text_of φ) ≡ u.end = omega (arith, e) in
        record {
          right = record {
            formula = φ;
            numbers = rule_is.1;
            large = l;
            sound = fine;
            long = e;
            left = p.stored ∙ ap (λ (i : ℕ). sets t.out.now i (text_of φ)) b ∙ sets-eq (text_of φ) t.out.now 0 (omega (arith, fine.short)) ∙ ap (λ (m : ℕ). text_of φ ++ drop m t.out.now) f;
          };
        }
