-- A sound text has no flag but those that a date has, so its tree has a numbering, or too many formulas. Assumes nothing.
use Rattle.std.specs.Prelude.{ℕ, ◌≤◌, ◌<◌, refl, Bool, true, false, not as other, List, [], ◌∷◌, ◌++◌, map, length}
use Rattle.laws.specs.Lists.{All, all_append}
use Rattle.meaning.specs.Flags.{flags}
use Rattle.meaning.specs.Formula.{Formula as Tree}
use Rattle.meaning.specs.Syntax.{Syntax, flag, one, zero, not, next, weak, finally, globally, until, release, and, or, implies, signed, nnf}
use Rattle.meaning.specs.Dialect.{dialect}
use Rattle.meaning.specs.declared.Profile.{Profile}
use Rattle.rule.specs.Numbering.{parts, formulas, numbering, KnownFlag, Numbers}
use Rattle.reading.specs.Grammar as grammar
use Rattle.reading.specs.Grammar.{Sign, sign_of, Prefix, prefixed, Binary, joined, Spells, leaf_spells, parenthesis_spells, prefix_spells, binary_spells, blank_before, blank_after, looser, Sound}
use Rattle.reading.specs.Signs.{KnownSign, byte_known}

-- ---- of the tree

abbrev KnownTree : Syntax → Type 0
KnownTree (flag k) = k < flags
KnownTree one = Unit
KnownTree zero = Unit
KnownTree (not p) = KnownTree p
KnownTree (next p) = KnownTree p
KnownTree (weak p) = KnownTree p
KnownTree (finally p) = KnownTree p
KnownTree (globally p) = KnownTree p
KnownTree (until p q) = KnownTree p × KnownTree q
KnownTree (release p q) = KnownTree p × KnownTree q
KnownTree (and p q) = KnownTree p × KnownTree q
KnownTree (or p q) = KnownTree p × KnownTree q
KnownTree (implies p q) = KnownTree p × KnownTree q

bytes_known : (text : List ℕ) → All KnownSign (map sign_of text)
bytes_known [] = tt
bytes_known (b ∷ text) = (byte_known b, bytes_known text)

prefixed_known : (o : Prefix) (p : Syntax) → KnownTree p → KnownTree (prefixed o p)
prefixed_known grammar.not p h = h
prefixed_known grammar.next p h = h
prefixed_known grammar.weak p h = h
prefixed_known grammar.finally p h = h
prefixed_known grammar.globally p h = h

joined_known : (o : Binary) (p q : Syntax) → KnownTree p → KnownTree q → KnownTree (joined o p q)
joined_known grammar.until p q h k = (h, k)
joined_known grammar.release p q h k = (h, k)
joined_known grammar.and p q h k = (h, k)
joined_known grammar.or p q h k = (h, k)
joined_known grammar.implies p q h k = (h, k)

spelled_known : {l m : ℕ} {t : List Sign} {p : Syntax} → Spells l m t p → All KnownSign t → KnownTree p
spelled_known (leaf_spells (grammar.flag k)) h = h.0
spelled_known (leaf_spells grammar.one) h = tt
spelled_known (leaf_spells grammar.zero) h = tt
spelled_known (parenthesis_spells {t = t} x) h = spelled_known x ((all_append KnownSign t (grammar.closing ∷ [])).0 h.1).0
spelled_known (prefix_spells {s = p} o x) h = prefixed_known o p (spelled_known x h.1)
spelled_known (binary_spells {t = t} {u = u} {p = p} {q = q} o x y) h =
    let (a, b) = (all_append KnownSign t (grammar.signs o ++ u)).0 h in
    joined_known o p q (spelled_known x a) (spelled_known y ((all_append KnownSign (grammar.signs o) u).0 b).1)
spelled_known (blank_before x) h = spelled_known x h.1
spelled_known (blank_after {t = t} x) h = spelled_known x ((all_append KnownSign t (grammar.blank ∷ [])).0 h).0
spelled_known (looser x) h = spelled_known x h

-- ---- of the formula

abbrev KnownFormula : Tree → Type 0
KnownFormula (Tree.flag k) = k < flags
KnownFormula (Tree.not_flag k) = k < flags
KnownFormula Tree.one = Unit
KnownFormula Tree.zero = Unit
KnownFormula (Tree.and p q) = KnownFormula p × KnownFormula q
KnownFormula (Tree.or p q) = KnownFormula p × KnownFormula q
KnownFormula (Tree.next p) = KnownFormula p
KnownFormula (Tree.weak p) = KnownFormula p
KnownFormula (Tree.until p q) = KnownFormula p × KnownFormula q
KnownFormula (Tree.release p q) = KnownFormula p × KnownFormula q

signed_known : (b : Bool) (p : Syntax) → KnownTree p → KnownFormula (signed b p)
unfolding signed
signed_known true (flag k) h = h
signed_known false (flag k) h = h
signed_known true one h = tt
signed_known false one h = tt
signed_known true zero h = tt
signed_known false zero h = tt
signed_known b (not p) h = signed_known (other b) p h
signed_known true (next p) h = signed_known true p h
signed_known false (next p) h = signed_known false p h
signed_known true (weak p) h = signed_known true p h
signed_known false (weak p) h = signed_known false p h
signed_known true (finally p) h = (tt, signed_known true p h)
signed_known false (finally p) h = (tt, signed_known false p h)
signed_known true (globally p) h = (tt, signed_known true p h)
signed_known false (globally p) h = (tt, signed_known false p h)
signed_known true (until p q) h = (signed_known true p h.0, signed_known true q h.1)
signed_known false (until p q) h = (signed_known false p h.0, signed_known false q h.1)
signed_known true (release p q) h = (signed_known true p h.0, signed_known true q h.1)
signed_known false (release p q) h = (signed_known false p h.0, signed_known false q h.1)
signed_known true (and p q) h = (signed_known true p h.0, signed_known true q h.1)
signed_known false (and p q) h = (signed_known false p h.0, signed_known false q h.1)
signed_known true (or p q) h = (signed_known true p h.0, signed_known true q h.1)
signed_known false (or p q) h = (signed_known false p h.0, signed_known false q h.1)
signed_known true (implies p q) h = (signed_known false p h.0, signed_known true q h.1)
signed_known false (implies p q) h = (signed_known true p h.0, signed_known false q h.1)

-- a part more, behind
more : (l : List Tree) (φ : Tree) → KnownFlag flags φ → All (KnownFlag flags) l → All (KnownFlag flags) (l ++ (φ ∷ []))
more l φ k h = (all_append (KnownFlag flags) l (φ ∷ [])).1 (h, (k, tt))

parts_known : (φ : Tree) → KnownFormula φ → All (KnownFlag flags) (parts φ)
parts_known (Tree.flag k) h = (h, tt)
parts_known (Tree.not_flag k) h = (h, tt)
parts_known Tree.one h = (tt, tt)
parts_known Tree.zero h = (tt, tt)
parts_known (Tree.next p) h = more (parts p) (Tree.next p) tt (parts_known p h)
parts_known (Tree.weak p) h = more (parts p) (Tree.weak p) tt (parts_known p h)
parts_known (Tree.and p q) (h, k) = more (parts p ++ parts q) (Tree.and p q) tt ((all_append (KnownFlag flags) (parts p) (parts q)).1 (parts_known p h, parts_known q k))
parts_known (Tree.or p q) (h, k) = more (parts p ++ parts q) (Tree.or p q) tt ((all_append (KnownFlag flags) (parts p) (parts q)).1 (parts_known p h, parts_known q k))
parts_known (Tree.until p q) (h, k) = more (parts p ++ parts q) (Tree.until p q) tt ((all_append (KnownFlag flags) (parts p) (parts q)).1 (parts_known p h, parts_known q k))
parts_known (Tree.release p q) (h, k) = more (parts p ++ parts q) (Tree.release p q) tt ((all_append (KnownFlag flags) (parts p) (parts q)).1 (parts_known p h, parts_known q k))

pub sound_numbers : (π : Profile) (text : List ℕ) (p : Syntax) → Sound text p → length (formulas (nnf p)) ≤ (dialect π).most → Numbers (numbering π (nnf p)) (nnf p)
unfolding nnf numbering
sound_numbers π text p x few = record {
  fits = record { known = parts_known (nnf p) (signed_known true p (spelled_known x.spells (bytes_known text))); few = few };
  same = refl;
}
