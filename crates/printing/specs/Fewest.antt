-- No text of the same tree has fewer parentheses than the printed one, or lies less deep: so parentheses stand exactly where they must, and the depth
-- is exact. Assumes nothing.
use Rattle.std.specs.Prelude.{◌≡◌, refl, ◌↔◌, List, [], ◌∷◌, ◌++◌, map, ℕ, ◌+◌, ◌≤◌, ◌<◌}
use Rattle.std.proofs.Common.{sym, ap, ap₂, ◌∙◌, subst, arith, le-leb}
use Rattle.std.proofs.Math.Logic.{by_cases}
use Rattle.std.proofs.lemmas.List.{map-append}
use Rattle.std.proofs.Math.Decide.{dec_le}
use Rattle.std.proofs.Math.Nat.{max-le}
use Rattle.std.proofs.lemmas.Bool.{lt-leb}
use Rattle.meaning.specs.Syntax.{Syntax}
use Rattle.reading.specs.Grammar.{Leaf, flag, one, zero, Prefix, not, next, weak, finally, globally, Binary, until, release, and, or, implies, single, prefixed, joined, Sign, blank, opening, closing, sign_of, level, left, right, signs, Spells, leaf_spells, parenthesis_spells, prefix_spells, binary_spells, blank_before, blank_after, looser, DepthIs}
use Rattle.reading.specs.Complete.{unambiguous}
use Rattle.printing.specs.Text.{Written, leaf, prefix, binary, tree, prefix_bytes, level_of, placed, bare, printed}
use Rattle.printing.specs.Spelling.{raised, deep, deep_in, Known, level_most, leaf_sign, around, printed_spells, raised_tight}

-- The pairs of parentheses of a printed text, and the opening ones of any.
abbrev pairs : Written → ℕ
pairs (leaf x) = 0
pairs (prefix p w) = raised 0 (level_of w) (pairs w)
pairs (binary o u v) = raised (left o) (level_of u) (pairs u) + raised (right o) (level_of v) (pairs v)

abbrev opens : Sign → ℕ
opens (Sign.leaf x) = 0
opens (Sign.prefix p) = 0
opens (Sign.binary o) = 0
opens blank = 0
opens Sign.dash = 0
opens opening = 1
opens closing = 0
opens Sign.other = 0

abbrev pub openings : List Sign → ℕ
openings [] = 0
openings (σ ∷ t) = opens σ + openings t

openings_append : (t u : List Sign) → openings (t ++ u) ≡ openings t + openings u
openings_append [] u = omega arith
openings_append (σ ∷ t) u = omega (arith, openings_append t u)

-- Back from reading's tree.
abbrev of_tree : Syntax → Written
of_tree (Syntax.flag k) = leaf (flag k)
of_tree Syntax.one = leaf one
of_tree Syntax.zero = leaf zero
of_tree (Syntax.not s) = prefix not (of_tree s)
of_tree (Syntax.next s) = prefix next (of_tree s)
of_tree (Syntax.weak s) = prefix weak (of_tree s)
of_tree (Syntax.finally s) = prefix finally (of_tree s)
of_tree (Syntax.globally s) = prefix globally (of_tree s)
of_tree (Syntax.until s t) = binary until (of_tree s) (of_tree t)
of_tree (Syntax.release s t) = binary release (of_tree s) (of_tree t)
of_tree (Syntax.and s t) = binary and (of_tree s) (of_tree t)
of_tree (Syntax.or s t) = binary or (of_tree s) (of_tree t)
of_tree (Syntax.implies s t) = binary implies (of_tree s) (of_tree t)

of_single : (x : Leaf) → of_tree (single x) ≡ leaf x
of_single (flag k) = refl
of_single one = refl
of_single zero = refl

of_prefixed : (p : Prefix) (s : Syntax) → of_tree (prefixed p s) ≡ prefix p (of_tree s)
of_prefixed not s = refl
of_prefixed next s = refl
of_prefixed weak s = refl
of_prefixed finally s = refl
of_prefixed globally s = refl

of_joined : (o : Binary) (s t : Syntax) → of_tree (joined o s t) ≡ binary o (of_tree s) (of_tree t)
of_joined until s t = refl
of_joined release s t = refl
of_joined and s t = refl
of_joined or s t = refl
of_joined implies s t = refl

of_tree_lem : (w : Written) → of_tree (tree w) ≡ w
of_tree_lem (leaf x) = of_single x
of_tree_lem (prefix p w) = of_prefixed p (tree w) ∙ ap (prefix p) (of_tree_lem w)
of_tree_lem (binary o u v) = of_joined o (tree u) (tree v) ∙ ap₂ (binary o) (of_tree_lem u) (of_tree_lem v)

-- In parentheses there is one more, and a looser slot never asks for more.
raised_loose : (slot l n : ℕ) → slot < l → raised slot l n ≡ n + 1
raised_loose slot l n h = rw (lt-leb l slot h)

raised_most : (slot l n : ℕ) → raised slot l n ≤ n + 1
raised_most slot l n = by_cases (dec_le l slot) (λ h. omega (arith, raised_tight slot l n h)) (λ h. omega (arith, raised_loose slot l n (omega arith)))

raised_falls : (slot l n : ℕ) → raised (slot + 1) l n ≤ raised slot l n
raised_falls slot l n = by_cases (dec_le l slot)
    (λ h. omega (arith, raised_tight slot l n h, raised_tight (slot + 1) l n (omega arith)))
    (λ h. omega (arith, raised_loose slot l n (omega arith), raised_most (slot + 1) l n))

record Least (slot m : ℕ) (t : List Sign) (w : Written) : Type 0 where
  depth : deep_in slot w ≤ m
  parentheses : raised slot (level_of w) (pairs w) ≤ openings t

least : {slot m : ℕ} {t : List Sign} {s : Syntax} → Spells slot m t s → Least slot m t (of_tree s)
least (leaf_spells x) = rw (of_single x) (record { depth = omega arith; parentheses = omega arith })
least (parenthesis_spells {t = t} {s = s} x) =
    let h = least x in
    let w = of_tree s in
    let n : deep w ≡ deep_in 4 w = sym (raised_tight 4 (level_of w) (deep w) (level_most w)) in
    let k : pairs w ≡ raised 4 (level_of w) (pairs w) = sym (raised_tight 4 (level_of w) (pairs w) (level_most w)) in
    record {
      depth = omega (arith, raised_most 0 (level_of w) (deep w));
      parentheses = omega (arith, raised_most 0 (level_of w) (pairs w), openings_append t (closing ∷ []));
    }
least (prefix_spells {s = s} p x) = let h = least x in rw (of_prefixed p s) (record { depth = omega arith; parentheses = omega arith })
least (binary_spells {t = t} {u = u} {p = p} {q = q} o x y) =
    let h = least x in
    let k = least y in
    let e = raised_tight (level o) (level o) (deep (binary o (of_tree p) (of_tree q))) (omega arith) in
    let f = raised_tight (level o) (level o) (pairs (binary o (of_tree p) (of_tree q))) (omega arith) in
    rw (of_joined o p q) (record {
      depth = rw e (max-le h.depth (omega arith));
      parentheses = rw f (omega (arith, openings_append t (signs o ++ u), openings_append (signs o) u));
    })
least (blank_before x) = let h = least x in record { depth = h.depth; parentheses = omega arith }
least (blank_after {t = t} x) = let h = least x in record { depth = h.depth; parentheses = omega (arith, openings_append t (blank ∷ [])) }
least (looser {l = l} {s = s} x) =
    let h = least x in
    let w = of_tree s in
    record { depth = omega (arith, raised_falls l (level_of w) (deep w)); parentheses = omega (arith, raised_falls l (level_of w) (pairs w)) }

-- ---- the parentheses and the depth of a printed text

openings_placed : (slot l : ℕ) (t : List ℕ) → openings (map sign_of (placed slot l t)) ≡ raised slot l (openings (map sign_of t))
unfolding sign_of
openings_placed slot l t = by_cases (dec_le l slot)
    (λ h. rw (le-leb l slot h))
    (λ h. rw (lt-leb l slot (omega arith)) (omega (arith, ap openings (map-append sign_of t (41 ∷ [])), openings_append (map sign_of t) (closing ∷ []))))

openings_prefix : (p : Prefix) (t : List ℕ) → openings (map sign_of (prefix_bytes p ++ t)) ≡ openings (map sign_of t)
unfolding sign_of
openings_prefix not t = omega arith
openings_prefix next t = omega arith
openings_prefix weak t = omega arith
openings_prefix finally t = omega arith
openings_prefix globally t = omega arith

openings_signs : (o : Binary) (t : List Sign) → openings (signs o ++ t) ≡ openings t
openings_signs until t = omega arith
openings_signs release t = omega arith
openings_signs and t = omega arith
openings_signs or t = omega arith
openings_signs implies t = omega arith

openings_bare : (w : Written) → Known w → openings (map sign_of (bare w)) ≡ pairs w
openings_bare (leaf x) h = rw (leaf_sign x h)
openings_bare (prefix p w) h =
    openings_prefix p (printed 0 w) ∙ openings_placed 0 (level_of w) (bare w) ∙ ap (raised 0 (level_of w)) (openings_bare w h)
openings_bare (binary o u v) h =
    rw (map-append, openings_append, around o, openings_placed (left o) (level_of u) (bare u), openings_bare u h.0)
    (omega (
      arith,
      openings_signs o (blank ∷ map sign_of (printed (right o) v)),
      openings_placed (right o) (level_of v) (bare v) ∙ ap (raised (right o) (level_of v)) (openings_bare v h.1),
    ))

-- A part stands bare exactly where its bare text is read as that part: where it would group otherwise, it stands in parentheses.
pub bare_exactly : (w : Written) → Known w → (slot : ℕ) → (printed slot w ≡ bare w) ↔ ((m : ℕ) × Spells slot m (map sign_of (bare w)) (tree w))
bare_exactly w h slot = (
  λ e. (deep_in slot w, subst (λ t. Spells slot (deep_in slot w) (map sign_of t) (tree w)) e ((printed_spells w h slot).from (deep_in slot w) (omega arith))),
  λ x. by_cases (dec_le (level_of w) slot) (λ l. rw (le-leb (level_of w) slot l)) (λ l.
      let k = subst (λ v. raised slot (level_of v) (pairs v) ≤ openings (map sign_of (bare w))) (of_tree_lem w) (least x.1).parentheses in
      absurd (omega (arith, openings_bare w h, raised_loose slot (level_of w) (pairs w) (omega arith)))),
)

-- No text of the same tree has fewer parentheses.
pub fewest_parentheses : (w : Written) → Known w → (slot m : ℕ) (t : List Sign) → Spells slot m t (tree w) → openings (map sign_of (printed slot w)) ≤ openings t
fewest_parentheses w h slot m t x =
    rw (openings_placed slot (level_of w) (bare w), openings_bare w h) (subst (λ v. raised slot (level_of v) (pairs v) ≤ openings t) (of_tree_lem w) (least x).parentheses)

-- A printed text goes exactly as deep as `deepIn` says.
pub deep_exactly : (w : Written) → Known w → (slot m : ℕ) → Spells slot m (map sign_of (printed slot w)) (tree w) ↔ (deep_in slot w ≤ m)
deep_exactly w h slot m = (λ x. subst (λ v. deep_in slot v ≤ m) (of_tree_lem w) (least x).depth, (printed_spells w h slot).from m)

-- So that is its depth, by the rule of reading.
pub depth_printed : (w : Written) → Known w → DepthIs (printed 4 w) (deep_in 4 w)
depth_printed w h = record {
  spelled = (tree w, own);
  least = λ m (p, x). (deep_exactly w h 4 m).0 (subst (Spells 4 m (map sign_of (printed 4 w))) (unambiguous x own) x);
}
  where
    own : Spells 4 (deep_in 4 w) (map sign_of (printed 4 w)) (tree w)
    own = (deep_exactly w h 4 (deep_in 4 w)).1 (omega arith)
