-- A row's edges, one choice after the other. Assumes nothing.
use Rattle.std.specs.Prelude.{◌≡◌, refl, Bool, true, false, cond, ◌&&◌, ◌↔◌, List, [], ◌∷◌, ◌++◌, T, eqb}
use Rattle.std.proofs.Common.{sym, ap, ◌∙◌, subst, append-nil, append_assoc}
use Rattle.std.proofs.Math.Logic.Iff
use Rattle.laws.specs.Decided.{and_means, eq_means}
use Rattle.laws.specs.Lists.{keep, front_if, distinct, distinct_iff}
use Rattle.laws.specs.Places.{Grows, grows_same, grows_on, is_in, is_in_means, distinct_new, distinct_old, keep_last}
use Rattle.tables.specs.declared.Choice.{Choice}
use Rattle.tables.specs.Tables.{consistent, same_choice, edges_of}

pub same_choice_means : (c e : Choice) → T (same_choice c e) ↔ (c ≡ e)
same_choice_means c e =
    Iff.trans
    (and_means (eqb c.present e.present) (eqb c.absent e.absent && eqb c.target e.target) (eq_means c.present e.present)
    (and_means (eqb c.absent e.absent) (eqb c.target e.target) (eq_means c.absent e.absent) (eq_means c.target e.target))) (
      λ h. λ i. record { present = h.0 i; absent = h.1.0 i; target = h.1.1 i },
      λ p. (ap (λ (x : Choice). x.present) p, (ap (λ (x : Choice). x.absent) p, ap (λ (x : Choice). x.target) p)),
    )

-- the edges once c is looked at
abbrev pub added : List Choice → Choice → List Choice
added kept c = cond (consistent c) (cond (is_in same_choice c kept) kept (kept ++ (c ∷ []))) kept

pub edges_snoc : (cs : List Choice) (c : Choice) → edges_of (cs ++ (c ∷ [])) ≡ added (edges_of cs) c
unfolding edges_of
edges_snoc cs c = ap (distinct same_choice) (keep_last same_choice same_choice_means consistent c cs) ∙ go (consistent c)
  where
    kept : List Choice
    kept = keep consistent cs

    inner : (b : Bool) → is_in same_choice c (distinct same_choice kept) ≡ b
        → distinct same_choice (kept ++ (c ∷ [])) ≡ cond b (distinct same_choice kept) (distinct same_choice kept ++ (c ∷ []))
    inner true e =
        distinct_old same_choice same_choice_means c kept ((distinct_iff (λ (x : Choice). c ≡ x) same_choice same_choice_means kept).0
        ((is_in_means same_choice same_choice_means c (distinct same_choice kept)).0 (rw e tt)))
    inner false e =
        distinct_new same_choice same_choice_means c kept (λ h. rw e at ((is_in_means same_choice same_choice_means c (distinct same_choice kept)).1
        ((distinct_iff (λ (x : Choice). c ≡ x) same_choice same_choice_means kept).1 h)))

    go : (b : Bool) → distinct same_choice (kept ++ front_if b c [])
        ≡ cond b (cond (is_in same_choice c (distinct same_choice kept)) (distinct same_choice kept) (distinct same_choice kept ++ (c ∷ []))) (distinct same_choice kept)
    go true = inner (is_in same_choice c (distinct same_choice kept)) refl
    go false = ap (distinct same_choice) (append-nil kept)

added_grows : (kept : List Choice) (c : Choice) → Grows kept (added kept c)
added_grows kept c = go (consistent c) (is_in same_choice c kept)
  where
    go : (a b : Bool) → Grows kept (cond a (cond b kept (kept ++ (c ∷ []))) kept)
    go true true = grows_same kept
    go true false = record { rest = c ∷ []; grown = refl }
    go false b = grows_same kept

-- more choices, more edges, and those that were there stay where they are
pub edges_grow : (cs es : List Choice) → Grows (edges_of cs) (edges_of (cs ++ es))
edges_grow cs [] = subst (λ (l : List Choice). Grows (edges_of cs) (edges_of l)) (sym (append-nil cs)) (grows_same (edges_of cs))
edges_grow cs (e ∷ es) =
    subst (λ (l : List Choice). Grows (edges_of cs) (edges_of l)) (append_assoc cs (e ∷ []) es)
    (grows_on (subst (Grows (edges_of cs)) (sym (edges_snoc cs e)) (added_grows (edges_of cs) e)) (edges_grow (cs ++ (e ∷ [])) es))
