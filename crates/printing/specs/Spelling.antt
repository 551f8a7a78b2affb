-- How deep a printed text goes by the rule of reading, and that it spells what it is printed from. Assumes nothing.
use Rattle.std.specs.Prelude.{◌≡◌, refl, List, [], ◌∷◌, ◌++◌, map, cond, ℕ, ◌+◌, ◌-◌, ◌≤◌, max, leb}
use Rattle.std.proofs.Common.{ap, ◌∙◌, subst, arith, le-leb}
use Rattle.std.proofs.Math.Logic.{by_cases}
use Rattle.std.proofs.lemmas.List.{map-append}
use Rattle.std.proofs.Math.Decide.{dec_le}
use Rattle.std.proofs.Math.Nat.{le-max_left, le-max_right}
use Rattle.std.proofs.lemmas.Bool.{lt-leb}
use Rattle.std.proofs.Math.Seq.{append_snoc}
use Rattle.meaning.specs.Syntax.{Syntax}
use Rattle.reading.specs.Grammar.{Leaf, flag, one, zero, Prefix, not, next, weak, finally, globally, Binary, until, release, and, or, implies, prefixed, joined, Sign, blank, opening, closing, sign_of, level, left, right, deeper, signs, Spells, leaf_spells, parenthesis_spells, prefix_spells, binary_spells, blank_before, blank_after, looser}
use Rattle.reading.specs.Layout.{KnownLeaf}
use Rattle.reading.specs.Signs.{sign_flag}
use Rattle.reading.specs.Complete.{levels}
use Rattle.printing.specs.Text.{Written, leaf, prefix, binary, tree, leaf_byte, prefix_bytes, binary_bytes, level_of, placed, bare, printed}

-- ---- how deep a printed text goes, by the rule of reading

-- One more where it stands in parentheses.
abbrev pub raised : ℕ → ℕ → ℕ → ℕ
raised slot l n = cond (leb l slot) n (n + 1)

abbrev pub deep : Written → ℕ
deep (leaf x) = 0
deep (prefix p w) = raised 0 (level_of w) (deep w) + 1
deep (binary o u v) = max (raised (left o) (level_of u) (deep u)) (raised (right o) (level_of v) (deep v) + deeper o)

abbrev pub deep_in : ℕ → Written → ℕ
deep_in slot w = raised slot (level_of w) (deep w)

pub raised_tight : (slot l n : ℕ) → l ≤ slot → raised slot l n ≡ n
raised_tight slot l n h = rw (le-leb l slot h)

-- ---- a printed text spells what it is printed from

-- Its flags are those that a date has.
abbrev pub Known : Written → Type 0
Known (leaf x) = KnownLeaf x
Known (prefix p w) = Known w
Known (binary o u v) = Known u × Known v

looser_by : {l m : ℕ} {t : List Sign} {s : Syntax} (n : ℕ) → Spells l m t s → Spells (l + n) m t s
looser_by {l} {m} {t} {s} ℕ.zero x = subst (λ k. Spells k m t s) (omega arith) x
looser_by {l} {m} {t} {s} (ℕ.suc n) x = subst (λ k. Spells k m t s) (omega arith) (looser (looser_by n x))

at_most : {k m : ℕ} {t : List Sign} {s : Syntax} (l : ℕ) → k ≤ l → Spells k m t s → Spells l m t s
at_most {k} {m} {t} {s} l h x = subst (λ n. Spells n m t s) (omega arith) (looser_by (l - k) x)

pub level_most : (w : Written) → level_of w ≤ 4
level_most (leaf x) = omega arith
level_most (prefix p w) = omega arith
level_most (binary o u v) = (levels o).high

pub leaf_sign : (x : Leaf) → KnownLeaf x → sign_of (leaf_byte x) ≡ Sign.leaf x
unfolding sign_of
leaf_sign (flag k) h = sign_flag (97 + k) (omega arith) (omega arith) ∙ ap (λ (i : ℕ). Sign.leaf (flag i)) (omega arith)
leaf_sign one h = refl
leaf_sign zero h = refl

-- The text spells s at level l, whatever the limit of depth from n on.
pub record Spelt (l n : ℕ) (t : List ℕ) (s : Syntax) : Type 0 where
  pub from : (m : ℕ) → n ≤ m → Spells l m (map sign_of t) s

in_slot : (slot l n : ℕ) (t : List ℕ) (s : Syntax) → l ≤ 4 → Spelt l n t s → Spelt slot (raised slot l n) (placed slot l t) s
unfolding sign_of
in_slot slot l n t s h x = by_cases (dec_le l slot)
    (λ b. rw (le-leb l slot b) (record { from = λ m d. at_most slot b (x.from m d) }))
    (λ b. rw (lt-leb l slot (omega arith)) (record {
      from = λ m d.
          let y = parenthesis_spells (at_most 4 h (x.from (m - 1) (omega arith))) in
          rw (map-append sign_of t (41 ∷ [])) (subst (λ k. Spells slot k (opening ∷ (map sign_of t ++ (closing ∷ []))) s) (omega arith) (at_most slot (omega arith) y));
    }))

prefix_in : (p : Prefix) (n : ℕ) (t : List ℕ) (s : Syntax) → Spelt 0 n t s → Spelt 0 (n + 1) (prefix_bytes p ++ t) (prefixed p s)
unfolding sign_of
prefix_in p n t s x = record {
  from = λ m d. subst (λ k. Spells 0 k (map sign_of (prefix_bytes p ++ t)) (prefixed p s)) (omega arith) (led p (x.from (m - 1) (omega arith)));
}
  where
    led : {m : ℕ} (p : Prefix) → Spells 0 m (map sign_of t) s → Spells 0 (m + 1) (map sign_of (prefix_bytes p ++ t)) (prefixed p s)
    led not y = prefix_spells not y
    led next y = prefix_spells next (blank_before y)
    led weak y = prefix_spells weak (blank_before y)
    led finally y = prefix_spells finally (blank_before y)
    led globally y = prefix_spells globally (blank_before y)

pub around : (o : Binary) (u : List ℕ) → map sign_of (binary_bytes o ++ u) ≡ blank ∷ (signs o ++ (blank ∷ map sign_of u))
unfolding sign_of
around until u = refl
around release u = refl
around and u = refl
around or u = refl
around implies u = refl

binary_in : (o : Binary) (n k : ℕ) (t u : List ℕ) (p q : Syntax) → Spelt (left o) n t p → Spelt (right o) k u q
    → Spelt (level o) (max n (k + deeper o)) (t ++ (binary_bytes o ++ u)) (joined o p q)
binary_in o n k t u p q x y = record {
  from = λ m d.
      let e : m - deeper o + deeper o ≡ m = omega (arith, le-max_right n (k + deeper o)) in
      let l = blank_after (x.from (m - deeper o + deeper o) (omega (arith, le-max_left n (k + deeper o)))) in
      let r = blank_before (y.from (m - deeper o) (omega (arith, le-max_right n (k + deeper o)))) in
      let z = rw append_snoc at (binary_spells o l r) in
      rw (map-append, around o) (subst (λ i. Spells (level o) i (map sign_of t ++ (blank ∷ (signs o ++ (blank ∷ map sign_of u)))) (joined o p q)) e z);
}

bare_spells : (w : Written) → Known w → Spelt (level_of w) (deep w) (bare w) (tree w)
bare_spells (leaf x) h = record { from = λ m d. rw (leaf_sign x h) (leaf_spells x) }
bare_spells (prefix p w) h = prefix_in p _ _ _ (in_slot 0 (level_of w) (deep w) (bare w) (tree w) (level_most w) (bare_spells w h))
bare_spells (binary o u v) h =
    binary_in o _ _ _ _ _ _ (in_slot (left o) (level_of u) (deep u) (bare u) (tree u) (level_most u) (bare_spells u h.0))
    (in_slot (right o) (level_of v) (deep v) (bare v) (tree v) (level_most v) (bare_spells v h.1))

-- In a slot it is spelled at the slot's level, from its depth there on.
pub printed_spells : (w : Written) → Known w → (slot : ℕ) → Spelt slot (deep_in slot w) (printed slot w) (tree w)
printed_spells w h slot = in_slot slot (level_of w) (deep w) (bare w) (tree w) (level_most w) (bare_spells w h)
