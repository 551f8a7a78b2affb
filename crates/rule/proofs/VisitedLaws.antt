-- A visit that ends with all numbers taken, over entries of which no two are equal, is what makes them a numbering. Assumes nothing.
use Rattle.std.specs.Prelude.{Bool, true, false, ◌≡◌, refl, ◌⊎◌, ℕ, ◌+◌, ◌-◌, ◌≤◌, ◌<◌, ltb, get_or, Option, Some, None}
use Rattle.std.proofs.Math.Path.{sym, ap, subst}
use Rattle.std.proofs.Common.{◌∙◌, inl, inr, ⊎_elim, arith, ltb→lt, length-append, lt-ltb}
use mathlib.Core.List.{List, [], ◌∷◌, ◌++◌, append_assoc, append-nil}
use Rattle.std.proofs.Math.ListN.{length}
use Rattle.laws.specs.Decided.{tested}
use Rattle.laws.specs.Lists.{All, In, all_to, all_at, all_from, at_in, at_last, some_append, distinct, distinct_iff}
use Rattle.laws.specs.Places.{Grows, grows_same, grows_on, grows_at, grows_longer, is_in, is_in_means, distinct_new, distinct_olds, distinct_grows}
use Rattle.meaning.specs.Flags.{flags}
use Rattle.meaning.specs.Formula.{Formula as Tree, flag, not_flag, one, zero, and, or, next, weak, until, release}
use Rattle.meaning.specs.Dialect.{dialect}
use Rattle.rule.specs.Numbering.{parts, same_tree, formulas, number, KnownFlag, IsRule, formula_at}
use Rattle.rule.specs.Trees.{Shape, alone, over, both, shape, inner, inner_of, Under, tree_ind}
use Rattle.rule.proofs.TreesLaws.{parts_inner, not_inner, all_parts, parts_closed}
use Rattle.rule.specs.Standing.{headed, rebuilt, Stands, StandsBy, stands_shape, stands_same, Apart, stands_once}
use Rattle.rule.proofs.Ordering.{same_tree_means, number_at}
use Rattle.rule.specs.Listing.{Listed, Unused}
use Rattle.rule.proofs.ListingLaws.{listed_at, listed_parts, listed_more, listed_none, listed_rule, stands_known, rule_listed, rule_count, rule_some, rule_most, rule_unused, rule_whole}
use Rattle.rule.specs.Visiting.{flag_parts, parts_of, Visits}
use Rattle.rule.specs.Visiting as visit
use Rattle.rule.specs.declared.FormulaNo.{FormulaNo}
use Rattle.rule.specs.declared.Formula.{Formula}
use Rattle.rule.specs.declared.Formula.TheVariants.{Flag, NotFlag, True, False, And, Or, Next, WeakNext, Until, Release}
use Rattle.rule.specs.declared.Rule.{Rule}
use Rattle.rule.specs.declared.Parts.{Parts}
use Rattle.rule.specs.declared.Parts.TheVariants.{Nothing, One, Two}

-- ---- a visit ends at once, or behind its number

pub visits_end : {entries : List Formula} {k next m : ℕ} → Visits entries k next m → ((k < next) × (m ≡ next)) ⊎ ((next ≤ k) × (m ≡ k + 1))
visits_end (visit.taken h) = inl (h, refl)
visits_end (visit.alone e) = inr (omega arith, refl)
visits_end (visit.over i e h l v) = inr (h, refl)
visits_end (visit.both i j e h l n v w) = inr (h, refl)

-- ---- what an entry's parts tell of it

abbrev none : FormulaNo
none = record { 0 = 0 }

abbrev Told : Formula → Tree → Tree → Option Parts → Type 0
Told c p q (Some Nothing) = (shape (rebuilt c p q) ≡ alone) × (c ≡ headed (rebuilt c p q) none none) × KnownFlag flags (rebuilt c p q)
Told c p q (Some (One i)) = (shape (rebuilt c p q) ≡ over p) × (c ≡ headed (rebuilt c p q) i none)
Told c p q (Some (Two i j)) = (shape (rebuilt c p q) ≡ both p q) × (c ≡ headed (rebuilt c p q) i j)
Told c p q None = Unit {0}

told : (c : Formula) (p q : Tree) → Told c p q (parts_of c)
told (Flag f) p q = go (ltb f flags) refl
  where
    go : (b : Bool) → ltb f flags ≡ b → Told (Flag f) p q (flag_parts b)
    go true e = (refl, refl, ltb→lt f flags (rw e tt))
    go false e = tt
told (NotFlag f) p q = go (ltb f flags) refl
  where
    go : (b : Bool) → ltb f flags ≡ b → Told (NotFlag f) p q (flag_parts b)
    go true e = (refl, refl, ltb→lt f flags (rw e tt))
    go false e = tt
told True p q = (refl, refl, tt)
told False p q = (refl, refl, tt)
told (And i j) p q = (refl, refl)
told (Or i j) p q = (refl, refl)
told (Next i) p q = (refl, refl)
told (WeakNext i) p q = (refl, refl)
told (Until i j) p q = (refl, refl)
told (Release i j) p q = (refl, refl)

told_by : (c : Formula) (p q : Tree) (x : Option Parts) → parts_of c ≡ x → Told c p q x
told_by c p q x e = subst (Told c p q) e (told c p q)

-- ---- a visit finds the formula that its number stands for, and lists it behind its parts

abbrev distinct_trees : List Tree → List Tree
distinct_trees = distinct same_tree

module _ (entries : List Formula) (n : ℕ) (apart : Apart entries n) where
  pub record Finds (k m : ℕ) (l : List Tree) : Type 0 where
    pub found : Tree
    pub stands : Stands entries found k
    pub listed : Listed entries (distinct_trees (l ++ parts found))
    pub long : length (distinct_trees (l ++ parts found)) ≡ m

  -- a formula that stands at the next number is new
  new : (φ : Tree) (l : List Tree) → Listed entries (distinct_trees l) → length (distinct_trees l) < n → Stands entries φ (length (distinct_trees l)) → In φ l → ⊥
  new φ l listed h s i =
      let (k, b, e) = at_in φ (distinct_trees l) one ((distinct_iff (λ χ. φ ≡ χ) same_tree same_tree_means l).1 i) in
      let f : k ≡ length (distinct_trees l) =
      stands_once entries n apart φ k (length (distinct_trees l)) (omega arith) h (subst (λ ψ. Stands entries ψ k) e (listed.stand k b)) s in
      omega arith

  -- behind its parts, it is the next
  finds_next : (φ : Tree) (l : List Tree) (k : ℕ) → k < n → Listed entries (distinct_trees (l ++ inner φ)) → length (distinct_trees (l ++ inner φ)) ≡ k
      → Stands entries φ k → Finds k (k + 1) l
  finds_next φ l k h listed e s =
      let t : Stands entries φ (length (distinct_trees (l ++ inner φ))) = subst (Stands entries φ) (sym e) s in
      let f : distinct_trees (l ++ parts φ) ≡ distinct_trees (l ++ inner φ) ++ (φ ∷ []) =
      ap (λ r. distinct_trees (l ++ r)) (parts_inner φ) ∙ ap distinct_trees (sym (append_assoc l (inner φ) (φ ∷ [])))
      ∙ distinct_new same_tree same_tree_means φ (l ++ inner φ) (new φ (l ++ inner φ) listed (omega arith) t) in
      record {
        found = φ;
        stands = s;
        listed = subst (Listed entries) (sym f) (listed_more entries (distinct_trees (l ++ inner φ)) listed φ t);
        long = omega (arith, ap length f, length-append (distinct_trees (l ++ inner φ)) (φ ∷ []));
      }

  finds_by : (φ : Tree) (l : List Tree) (k : ℕ) → k < n → (s : Shape) → shape φ ≡ s → Listed entries (distinct_trees (l ++ inner_of s))
      → length (distinct_trees (l ++ inner_of s)) ≡ k → StandsBy entries φ k s → Finds k (k + 1) l
  finds_by φ l k h s e listed f x =
      finds_next φ l k h (subst (λ r. Listed entries (distinct_trees (l ++ inner_of r))) (sym e) listed)
      (subst (λ r. length (distinct_trees (l ++ inner_of r)) ≡ k) (sym e) f) ((stands_shape entries φ k).1 (subst (StandsBy entries φ k) (sym e) x))

  pub visits_find : {k next m : ℕ} → Visits entries k next m → (l : List Tree) → Listed entries (distinct_trees l) → length (distinct_trees l) ≡ next → k < n → Finds k m l
  visits_find {k = k} (visit.taken h) l listed e b =
      let i : k < length (distinct_trees l) = omega arith in
      let φ = get_or (distinct_trees l) k one in
      let s = listed.stand k i in
      let f : distinct_trees (l ++ parts φ) ≡ distinct_trees l =
      distinct_olds same_tree same_tree_means l (parts φ)
      (all_to (λ ψ. (distinct_iff (λ χ. ψ ≡ χ) same_tree same_tree_means l).0) (parts φ) (listed_parts entries (distinct_trees l) listed φ k i s)) in
      record { found = φ; stands = s; listed = subst (Listed entries) (sym f) listed; long = ap length f ∙ e }
  visits_find {k = k} (visit.alone p) l listed e b =
      let (s, f, w) = told_by (formula_at entries k) one one (Some Nothing) p in
      finds_by (rebuilt (formula_at entries k) one one) l k b alone s (subst (λ r. Listed entries (distinct_trees r)) (sym (append-nil l)) listed)
      (ap (λ r. length (distinct_trees r)) (append-nil l) ∙ e) (record { first = none; second = none; here = f; known = w })
  visits_find {k = k} (visit.over i p h x v) l listed e b =
      let r = visits_find v l listed e (omega arith) in
      let (s, f) = told_by (formula_at entries k) r.found one (Some (One i)) p in
      finds_by (rebuilt (formula_at entries k) r.found one) l k b (over r.found) s r.listed r.long
      (record { first = i; second = none; here = f; below = x; part = r.stands })
  visits_find {k = k} (visit.both i j p h x y v w) l listed e b =
      let r = visits_find v l listed e (omega arith) in
      let q = visits_find w (l ++ parts r.found) r.listed r.long (omega arith) in
      let (s, f) = told_by (formula_at entries k) r.found q.found (Some (Two i j)) p in
      let a : (l ++ parts r.found) ++ parts q.found ≡ l ++ (parts r.found ++ parts q.found) = append_assoc l (parts r.found) (parts q.found) in
      finds_by (rebuilt (formula_at entries k) r.found q.found) l k b (both r.found q.found) s
      (subst (λ t. Listed entries (distinct_trees t)) a q.listed) (ap (λ t. length (distinct_trees t)) (sym a) ∙ q.long)
      (record { first = i; second = j; here = f; left_below = x; right_below = y; left = r.stands; right = q.stands })

-- ---- and where the entries are a numbering, the visit goes through

parts_for : Shape → FormulaNo → FormulaNo → Option Parts
parts_for alone i j = Some Nothing
parts_for (over p) i j = Some (One i)
parts_for (both p q) i j = Some (Two i j)

parts_headed : (φ : Tree) (i j : FormulaNo) → KnownFlag flags φ → parts_of (headed φ i j) ≡ parts_for (shape φ) i j
unfolding parts_for
parts_headed (flag f) i j h = ap flag_parts (lt-ltb f flags h)
parts_headed (not_flag f) i j h = ap flag_parts (lt-ltb f flags h)
parts_headed one i j h = refl
parts_headed zero i j h = refl
parts_headed (and p q) i j h = refl
parts_headed (or p q) i j h = refl
parts_headed (next p) i j h = refl
parts_headed (weak p) i j h = refl
parts_headed (until p q) i j h = refl
parts_headed (release p q) i j h = refl

-- the parts of all its formulas are in the list
Closed : List Tree → Type 0
Closed l = (φ : Tree) → In φ l → All (λ ψ. In ψ l) (parts φ)

closed_more : (l : List Tree) (φ : Tree) → Closed l → Closed (l ++ parts φ)
unfolding Closed
closed_more l φ c ψ i =
    ⊎_elim (λ h. all_to (λ χ j. (some_append (λ z. χ ≡ z) l (parts φ)).1 (inl j)) (parts ψ) (c ψ h))
    (λ h. all_to (λ χ j. (some_append (λ z. χ ≡ z) l (parts φ)).1 (inr j)) (parts ψ) (all_at (λ χ. All (λ z. In z (parts φ)) (parts χ)) (parts φ)
    (parts_closed (λ z. In z (parts φ)) φ (all_from (λ z. In z (parts φ)) (parts φ) (λ z h. h))) ψ h))
    ((some_append (λ z. ψ ≡ z) l (parts φ)).0 i)

module _ (entries : List Formula) (φ : Tree) (listed : Listed entries (formulas φ)) where
  -- a formula stands at its number only
  at_number : (ψ : Tree) (i k : ℕ) → i < length (formulas φ) → k < length (formulas φ) → get_or (formulas φ) i one ≡ ψ → Stands entries ψ k → i ≡ k
  at_number ψ i k hi hk e s =
      sym (number_at φ i hi) ∙ ap (number φ) (e ∙ sym (listed_at entries (formulas φ) listed ψ k hk s)) ∙ number_at φ k hk

  abbrev Goes : Tree → Type 0
  Goes ψ = (l : List Tree) (k : ℕ) → Closed l → Grows (distinct_trees (l ++ parts ψ)) (formulas φ) → k < length (formulas φ) → Stands entries ψ k
      → Visits entries k (length (distinct_trees l)) (length (distinct_trees (l ++ parts ψ)))

  -- a formula that is there already
  goes_taken : (ψ : Tree) (l : List Tree) (k : ℕ) → In ψ l → Closed l → Grows (distinct_trees (l ++ parts ψ)) (formulas φ) → k < length (formulas φ) → Stands entries ψ k
      → Visits entries k (length (distinct_trees l)) (length (distinct_trees (l ++ parts ψ)))
  unfolding Closed
  goes_taken ψ l k i c g h s =
      let e : distinct_trees (l ++ parts ψ) ≡ distinct_trees l = distinct_olds same_tree same_tree_means l (parts ψ) (c ψ i) in
      let (j, b, f) = at_in ψ (distinct_trees l) one ((distinct_iff (λ χ. ψ ≡ χ) same_tree same_tree_means l).1 i) in
      let g' : Grows (distinct_trees l) (formulas φ) = subst (λ m. Grows m (formulas φ)) e g in
      let same : j ≡ k = at_number ψ j k (omega (arith, grows_longer g')) h (grows_at j one g' b ∙ f) s in
      subst (λ m. Visits entries k (length (distinct_trees l)) (length m)) (sym e) (visit.taken (omega arith))

  -- behind its parts, a new formula has the next number
  next_number : (ψ : Tree) (l : List Tree) (k : ℕ) → (In ψ l → ⊥) → Grows (distinct_trees (l ++ parts ψ)) (formulas φ) → k < length (formulas φ) → Stands entries ψ k
      → (length (distinct_trees (l ++ inner ψ)) ≡ k) × (length (distinct_trees (l ++ parts ψ)) ≡ k + 1)
  next_number ψ l k n g h s =
      let away : In ψ (l ++ inner ψ) → ⊥ = λ i. ⊎_elim n (not_inner ψ) ((some_append (λ z. ψ ≡ z) l (inner ψ)).0 i) in
      let e : distinct_trees (l ++ parts ψ) ≡ distinct_trees (l ++ inner ψ) ++ (ψ ∷ []) =
      ap (λ r. distinct_trees (l ++ r)) (parts_inner ψ) ∙ ap distinct_trees (sym (append_assoc l (inner ψ) (ψ ∷ [])))
      ∙ distinct_new same_tree same_tree_means ψ (l ++ inner ψ) away in
      let g' : Grows (distinct_trees (l ++ inner ψ) ++ (ψ ∷ [])) (formulas φ) = subst (λ m. Grows m (formulas φ)) e g in
      let m : length (distinct_trees (l ++ inner ψ) ++ (ψ ∷ [])) ≡ length (distinct_trees (l ++ inner ψ)) + 1 = length-append (distinct_trees (l ++ inner ψ)) (ψ ∷ []) in
      let b : length (distinct_trees (l ++ inner ψ)) < length (distinct_trees (l ++ inner ψ) ++ (ψ ∷ [])) = omega arith in
      let same : length (distinct_trees (l ++ inner ψ)) ≡ k = at_number ψ (length (distinct_trees (l ++ inner ψ))) k (omega (arith, grows_longer g')) h
      (grows_at (length (distinct_trees (l ++ inner ψ))) one g' b ∙ at_last (distinct_trees (l ++ inner ψ)) ψ one) s in
      (same, ap length e ∙ m ∙ ap (λ (x : ℕ). x + 1) same)

  goes_by : (ψ : Tree) (l : List Tree) (k : ℕ) (s : Shape) → shape ψ ≡ s → KnownFlag flags ψ → Under Goes s → Closed l → Grows (distinct_trees (l ++ inner_of s)) (formulas φ)
      → k < length (formulas φ) → StandsBy entries ψ k s → length (distinct_trees (l ++ inner_of s)) ≡ k → Visits entries k (length (distinct_trees l)) (k + 1)
  unfolding parts_for
  goes_by ψ l k alone e w f c g h x m =
      subst (λ (i : ℕ). Visits entries k i (k + 1)) (sym (ap (λ r. length (distinct_trees r)) (sym (append-nil l)) ∙ m))
      (visit.alone (ap parts_of x.here ∙ parts_headed ψ x.first x.second w ∙ ap (λ r. parts_for r x.first x.second) e))
  goes_by ψ l k (over p) e w f c g h x m =
      let less : length (distinct_trees l) ≤ k = omega (arith, grows_longer (distinct_grows same_tree same_tree_means l (parts p))) in
      visit.over x.first (ap parts_of x.here ∙ parts_headed ψ x.first x.second w ∙ ap (λ r. parts_for r x.first x.second) e)
      less x.below
      (subst (Visits entries x.first.0 (length (distinct_trees l))) m (f l x.first.0 c g (omega arith) x.part))
  goes_by ψ l k (both p q) e w f c g h x m =
      let a : l ++ (parts p ++ parts q) ≡ (l ++ parts p) ++ parts q = sym (append_assoc l (parts p) (parts q)) in
      let g₂ : Grows (distinct_trees ((l ++ parts p) ++ parts q)) (formulas φ) = subst (λ r. Grows (distinct_trees r) (formulas φ)) a g in
      let g₁ : Grows (distinct_trees (l ++ parts p)) (formulas φ) = grows_on (distinct_grows same_tree same_tree_means (l ++ parts p) (parts q)) g₂ in
      let less : length (distinct_trees l) ≤ k = omega (arith, grows_longer (distinct_grows same_tree same_tree_means l (parts p ++ parts q))) in
      visit.both x.first x.second (ap parts_of x.here ∙ parts_headed ψ x.first x.second w ∙ ap (λ r. parts_for r x.first x.second) e)
      less x.left_below x.right_below
      (f.0 l x.first.0 c g₁ (omega arith) x.left)
      (subst (Visits entries x.second.0 (length (distinct_trees (l ++ parts p)))) (ap (λ r. length (distinct_trees r)) (sym a) ∙ m)
      (f.1 (l ++ parts p) x.second.0 (closed_more l p c) g₂ (omega arith) x.right))

  goes : (ψ : Tree) → Goes ψ
  goes = tree_ind Goes (λ ψ f l k c g h s. ⊎_elim
      (λ t. goes_taken ψ l k ((is_in_means same_tree same_tree_means ψ l).0 t) c g h s)
      (λ n.
      let (m, m') = next_number ψ l k (λ i. n ((is_in_means same_tree same_tree_means ψ l).1 i)) g h s in
      let w = (all_parts (KnownFlag flags) ψ (stands_known entries ψ k s)).1 in
      let g' : Grows (distinct_trees (l ++ inner ψ)) (formulas φ) =
      grows_on (subst (λ r. Grows (distinct_trees (l ++ inner ψ)) (distinct_trees r)) (append_assoc l (inner ψ) (ψ ∷ []) ∙ ap (λ r. l ++ r) (sym (parts_inner ψ)))
      (distinct_grows same_tree same_tree_means (l ++ inner ψ) (ψ ∷ []))) g in
      subst (Visits entries k (length (distinct_trees l))) (sym m')
      (goes_by ψ l k (shape ψ) refl w f c g' h ((stands_shape entries ψ k).0 s) m))
      (tested (is_in same_tree ψ l)))

  -- the visit of the whole formula takes all numbers
  pub visits_whole : (k : ℕ) → k < length (formulas φ) → Stands entries φ k → Visits entries k 0 (length (formulas φ))
  unfolding formulas Closed
  visits_whole k h s = goes φ [] k (λ ψ i. absurd i) (grows_same (formulas φ)) h s

-- ---- the tests that together say whether a rule is the numbering of a formula

pub record Passes (rule : Rule) : Type 0 where
  pub some : 0 < rule.count
  pub few : rule.count ≤ (dialect rule.profile).most
  pub apart : Apart rule.entries rule.count
  pub unused : Unused rule.entries rule.count
  pub visits : (m : ℕ) × Visits rule.entries (rule.count - 1) 0 m

pub passes_rule : (rule : Rule) → length rule.entries ≡ 64 → Passes rule → IsRule rule
unfolding formulas
passes_rule rule long p =
    let (m, v) = p.visits in
    let f = visits_find rule.entries rule.count p.apart v [] (listed_none rule.entries) refl (let s = p.some in omega arith) in
    let e : m ≡ rule.count = ⊎_elim (λ h. omega arith) (λ h. let s = p.some in omega arith) (visits_end v) in
    (f.found, listed_rule rule f.found f.listed (sym e ∙ sym f.long) p.few long p.unused)

pub rule_passes : (rule : Rule) → IsRule rule → Passes rule
rule_passes rule (φ, n) =
    let listed = rule_listed rule φ n in
    let count = rule_count rule φ n in
    let some = rule_some rule φ n in
    record {
      some = some;
      few = rule_most rule φ n;
      apart = λ a b ha hb e.
          let ha' : a < length (formulas φ) = omega arith in
          let hb' : b < length (formulas φ) = omega arith in
          sym (number_at φ a ha') ∙ ap (number φ) (stands_same rule.entries (get_or (formulas φ) a one) (get_or (formulas φ) b one) a b e (listed.stand a ha') (listed.stand b hb'))
          ∙ number_at φ b hb';
      unused = rule_unused rule φ n;
      visits = (length (formulas φ), visits_whole rule.entries φ listed (rule.count - 1) (omega arith) (rule_whole rule φ n));
    }
