-- What a formula is written as is that formula again, once negation is pushed to the flags. Assumes nothing.
use Rattle.std.specs.Prelude.{◌≡◌, refl, ◌⊎◌}
use Rattle.std.proofs.Common.{sym, ap, ap₂, ◌∙◌, inl, inr, ⊎_elim}
use Rattle.laws.specs.Decided.{tested, T_true, T_false}
use Rattle.laws.specs.Lists.{All, all_append}
use Rattle.meaning.specs.Flags.{flags}
use Rattle.meaning.specs.Formula.{Formula, flag, not_flag, one, zero, and, or, next, weak, until, release}
use Rattle.meaning.specs.Syntax.{signed, nnf}
use Rattle.rule.specs.Numbering.{parts, same_tree, KnownFlag}
use Rattle.rule.proofs.Ordering.{same_tree_means}
use Rattle.rule.specs.Trees.{both, shape}
use Rattle.rule.proofs.TreesLaws.{all_parts}
use Rattle.reading.specs.Grammar.{finally, globally, Binary}
use Rattle.printing.specs.Text.{prefix, binary, tree, written_as}
use Rattle.printing.specs.Spelling.{Known}

-- The two ways of an until, and of a release.
pub until_written : (p q : Formula)
    → ((p ≡ one) × (written_as (until p q) ≡ prefix finally (written_as q))) ⊎ ((p ≡ one → ⊥) × (written_as (until p q) ≡ binary Binary.until (written_as p) (written_as q)))
until_written p q = ⊎_elim
    (λ t. inl ((same_tree_means p one).0 t, rw (T_true {b = same_tree p one} t)))
    (λ f. inr (λ e. f ((same_tree_means p one).1 e), rw (T_false {b = same_tree p one} f)))
    (tested (same_tree p one))

pub release_written : (p q : Formula)
    → ((p ≡ zero) × (written_as (release p q) ≡ prefix globally (written_as q))) ⊎ ((p ≡ zero → ⊥) × (written_as (release p q) ≡ binary Binary.release (written_as p) (written_as q)))
release_written p q = ⊎_elim
    (λ t. inl ((same_tree_means p zero).0 t, rw (T_true {b = same_tree p zero} t)))
    (λ f. inr (λ e. f ((same_tree_means p zero).1 e), rw (T_false {b = same_tree p zero} f)))
    (tested (same_tree p zero))

pub nnf_written : (φ : Formula) → nnf (tree (written_as φ)) ≡ φ
unfolding nnf signed
nnf_written (flag k) = refl
nnf_written (not_flag k) = refl
nnf_written one = refl
nnf_written zero = refl
nnf_written (and p q) = ap₂ and (nnf_written p) (nnf_written q)
nnf_written (or p q) = ap₂ or (nnf_written p) (nnf_written q)
nnf_written (next p) = ap next (nnf_written p)
nnf_written (weak p) = ap weak (nnf_written p)
nnf_written (until p q) = ⊎_elim
    (λ x. ap (λ w. nnf (tree w)) x.1 ∙ ap₂ until (sym x.0) (nnf_written q))
    (λ x. ap (λ w. nnf (tree w)) x.1 ∙ ap₂ until (nnf_written p) (nnf_written q))
    (until_written p q)
nnf_written (release p q) = ⊎_elim
    (λ x. ap (λ w. nnf (tree w)) x.1 ∙ ap₂ release (sym x.0) (nnf_written q))
    (λ x. ap (λ w. nnf (tree w)) x.1 ∙ ap₂ release (nnf_written p) (nnf_written q))
    (release_written p q)

-- ---- its flags are those that a date has, where the formula's are

halves : (φ p q : Formula) → shape φ ≡ both p q → All (KnownFlag flags) (parts φ) → All (KnownFlag flags) (parts p) × All (KnownFlag flags) (parts q)
halves φ p q e h = (all_append (KnownFlag flags) (parts p) (parts q)).0 (rw e at (all_parts (KnownFlag flags) φ h).0)

pub known_written : (φ : Formula) → All (KnownFlag flags) (parts φ) → Known (written_as φ)
known_written (flag k) h = h.0
known_written (not_flag k) h = h.0
known_written one h = tt
known_written zero h = tt
known_written (and p q) h = let (l, r) = halves (and p q) p q refl h in (known_written p l, known_written q r)
known_written (or p q) h = let (l, r) = halves (or p q) p q refl h in (known_written p l, known_written q r)
known_written (next p) h = known_written p (all_parts (KnownFlag flags) (next p) h).0
known_written (weak p) h = known_written p (all_parts (KnownFlag flags) (weak p) h).0
known_written (until p q) h =
    let (l, r) = halves (until p q) p q refl h in
    ⊎_elim (λ x. rw x.1 (known_written q r)) (λ x. rw x.1 (known_written p l, known_written q r)) (until_written p q)
known_written (release p q) h =
    let (l, r) = halves (release p q) p q refl h in
    ⊎_elim (λ x. rw x.1 (known_written q r)) (λ x. rw x.1 (known_written p l, known_written q r)) (release_written p q)
