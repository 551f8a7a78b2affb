-- Entries that list formulas, number by number; when they are the numbering of a formula. Assumes nothing.
use Rattle.std.specs.Prelude.{ℕ, ◌+◌, ◌-◌, ◌≤◌, ◌<◌, ◌≡◌, refl, List, [], ◌∷◌, ◌++◌, map, replicate}
use Rattle.std.proofs.Common.{arith, ap₂, ◌∙◌, subst}
use Rattle.std.proofs.Math.Decide.{dec_lt}
use Rattle.std.proofs.Math.Path.{sym, ap}
use Rattle.std.proofs.Math.Logic.{by_cases}
use Rattle.std.proofs.Math.ListN.{length, get_or, length-append, length-map, length-replicate, get_or-replicate, get_or-append}
use Rattle.std.proofs.Math.Seq.{ext_get_or, get_or-append-add}
use Rattle.laws.specs.Lists.{All, In, Once, all_append, all_at, in_at, at_last, at_map}
use Rattle.laws.specs.Places.{place, place_at}
use Rattle.meaning.specs.Flags.{flags}
use Rattle.meaning.specs.Formula.{Formula as Tree, flag, not_flag, one, zero, and, or, next, weak, until, release}
use Rattle.meaning.specs.Dialect.{dialect}
use Rattle.meaning.proofs.DialectLaws.{most_few}
use Rattle.meaning.specs.declared.Profile.{Profile}
use Rattle.meaning.specs.declared.Profile.TheVariants.{Finite, Last}
use Rattle.rule.specs.Numbering.{parts, same_tree, formulas, number, entry_of, numbering, KnownFlag, Numbers, formula_at}
use Rattle.rule.specs.Trees.{Shape, alone, over, both, shape, inner, inner_of, Under, tree_ind}
use Rattle.rule.proofs.TreesLaws.{parts_all, whole_in}
use Rattle.rule.specs.Standing.{headed, headed_alone, headed_over, Stands, StandsBy, stands_shape, stands_one}
use Rattle.rule.proofs.Ordering.{same_tree_means, formulas_once, number_stands, number_whole, number_inner, formulas_in}
use Rattle.rule.specs.declared.FormulaNo.{FormulaNo}
use Rattle.rule.specs.declared.Formula.TheVariants.{False, Flag}
use Rattle.rule.specs.declared.Formula.{Formula}
use Rattle.rule.specs.declared.Rule.{Rule}
use Rattle.rule.specs.Listing.{Listed, Unused}

module _ (entries : List Formula) (l : List Tree) (listed : Listed entries l) where
  -- a number below the length stands for the formula that is listed there
  pub listed_at : (φ : Tree) (k : ℕ) → k < length l → Stands entries φ k → get_or l k one ≡ φ
  listed_at φ k h s = stands_one entries (get_or l k one) φ k (listed.stand k h) s

  -- the parts of a listed formula are listed
  abbrev PartsIn : Tree → Type 0
  PartsIn φ = (k : ℕ) → k < length l → Stands entries φ k → All (λ ψ. In ψ l) (parts φ)

  inner_in_list : (φ : Tree) (k : ℕ) → k < length l → (s : Shape) → Under PartsIn s → StandsBy entries φ k s → All (λ ψ. In ψ l) (inner_of s)
  inner_in_list φ k h alone f x = tt
  inner_in_list φ k h (over p) f x = f x.first.0 (omega arith) x.part
  inner_in_list φ k h (both p q) f x =
      (all_append (λ ψ. In ψ l) (parts p) (parts q)).1 (f.0 x.first.0 (omega arith) x.left, f.1 x.second.0 (omega arith) x.right)

  pub listed_parts : (φ : Tree) → PartsIn φ
  listed_parts = tree_ind PartsIn (λ φ f k h s.
      parts_all (λ ψ. In ψ l) φ (inner_in_list φ k h (shape φ) f ((stands_shape entries φ k).0 s)) (subst (λ ψ. In ψ l) (listed_at φ k h s) (in_at l k one h)))

  -- one formula more
  pub listed_more : (φ : Tree) → Stands entries φ (length l) → Listed entries (l ++ (φ ∷ []))
  listed_more φ s = record {
    stand = λ k h. by_cases (dec_lt k (length l))
        (λ b. subst (λ ψ. Stands entries ψ k) (sym (get_or-append l (φ ∷ []) one k b)) (listed.stand k b))
        (λ b.
        let e : k ≡ length l = omega (arith, length-append l (φ ∷ [])) in
        subst (λ i. Stands entries (get_or (l ++ (φ ∷ [])) i one) i) (sym e) (subst (λ ψ. Stands entries ψ (length l)) (sym (at_last l φ one)) s));
  }

pub listed_none : (entries : List Formula) → Listed entries []
listed_none entries = record { stand = λ k h. absurd (omega arith) }

-- ---- a numbering's entries list its formulas

-- the numbers of a formula's parts
abbrev pub numbers_of : (Tree → ℕ) → Shape → FormulaNo × FormulaNo
numbers_of f alone = (record { 0 = 0 }, record { 0 = 0 })
numbers_of f (over p) = (record { 0 = f p }, record { 0 = 0 })
numbers_of f (both p q) = (record { 0 = f p }, record { 0 = f q })

pub entry_headed : (f : Tree → ℕ) (φ : Tree) → entry_of f φ ≡ headed φ (numbers_of f (shape φ)).0 (numbers_of f (shape φ)).1
entry_headed f (flag k) = refl
entry_headed f (not_flag k) = refl
entry_headed f one = refl
entry_headed f zero = refl
entry_headed f (and p q) = refl
entry_headed f (or p q) = refl
entry_headed f (next p) = refl
entry_headed f (weak p) = refl
entry_headed f (until p q) = refl
entry_headed f (release p q) = refl

module _ (π : Profile) (φ : Tree) where
  abbrev made : Tree → Formula
  made ψ = entry_of (number φ) ψ

  abbrev rest : List Formula
  rest = replicate (64 - length (formulas φ)) False

  numbering_at : (k : ℕ) → k < length (formulas φ) → formula_at (numbering π φ).entries k ≡ entry_of (number φ) (get_or (formulas φ) k one)
  unfolding numbering
  numbering_at k h =
      (get_or-append (map made (formulas φ)) rest (Flag 0) k (rw length-map h)
      ∙ at_map made (formulas φ) k one (Flag 0) h)

  numbering_unused : Unused (numbering π φ).entries (length (formulas φ))
  unfolding numbering
  numbering_unused k h l =
      (ap (λ (i : ℕ). get_or (map made (formulas φ) ++ rest) i (Flag 0)) (sym e)
      ∙ get_or-append-add (map made (formulas φ)) rest (k - length (formulas φ)) (Flag 0)
      ∙ get_or-replicate (64 - length (formulas φ)) (k - length (formulas φ)) False (Flag 0) (omega arith))
    where
      e : length (map made (formulas φ)) + (k - length (formulas φ)) ≡ k
      e = omega (arith, length-map (formulas φ) made)

  numbering_long : length (formulas φ) ≤ 64 → length (numbering π φ).entries ≡ 64
  unfolding numbering
  numbering_long h = omega (arith, length-append (map made (formulas φ)) rest, length-map (formulas φ) made, length-replicate (64 - length (formulas φ)) False)

  -- ---- number k stands for formula k

  module _ (known : All (KnownFlag flags) (parts φ)) where
    abbrev AtNumber : Tree → Type 0
    AtNumber ψ = (k : ℕ) → k < length (formulas φ) → get_or (formulas φ) k one ≡ ψ → Stands (numbering π φ).entries ψ k

    known_at : (k : ℕ) → k < length (formulas φ) → KnownFlag flags (get_or (formulas φ) k one)
    known_at k h = all_at (KnownFlag flags) (parts φ) known (get_or (formulas φ) k one) ((formulas_in φ (get_or (formulas φ) k one)).0 (in_at (formulas φ) k one h))

    at_number : (ψ : Tree) (k : ℕ) → k < length (formulas φ) → get_or (formulas φ) k one ≡ ψ → (s : Shape) → shape ψ ≡ s
        → All (λ χ. (number φ χ < k) × (get_or (formulas φ) (number φ χ) one ≡ χ)) (inner_of s) → Under AtNumber s
        → formula_at (numbering π φ).entries k ≡ headed ψ (numbers_of (number φ) s).0 (numbers_of (number φ) s).1 → StandsBy (numbering π φ).entries ψ k s
    at_number ψ k h e alone es a f c = record { first = record { 0 = 0 }; second = record { 0 = 0 }; here = c; known = subst (KnownFlag flags) e (known_at k h) }
    at_number ψ k h e (over p) es a f c =
        let (l, d) = all_at (λ χ. (number φ χ < k) × (get_or (formulas φ) (number φ χ) one ≡ χ)) (parts p) a p (whole_in p) in
        record { first = record { 0 = number φ p }; second = record { 0 = 0 }; here = c; below = l; part = f (number φ p) (omega arith) d }
    at_number ψ k h e (both p q) es a f c =
        let b = (all_append (λ χ. (number φ χ < k) × (get_or (formulas φ) (number φ χ) one ≡ χ)) (parts p) (parts q)).0 a in
        let (l, d) = all_at (λ χ. (number φ χ < k) × (get_or (formulas φ) (number φ χ) one ≡ χ)) (parts p) b.0 p (whole_in p) in
        let (l', d') = all_at (λ χ. (number φ χ < k) × (get_or (formulas φ) (number φ χ) one ≡ χ)) (parts q) b.1 q (whole_in q) in
        record {
          first = record { 0 = number φ p };
          second = record { 0 = number φ q };
          here = c;
          left_below = l;
          right_below = l';
          left = f.0 (number φ p) (omega arith) d;
          right = f.1 (number φ q) (omega arith) d';
        }

    pub numbering_listed : Listed (numbering π φ).entries (formulas φ)
    numbering_listed = record {
      stand = λ k h. tree_ind AtNumber (λ ψ f k h e.
          (stands_shape (numbering π φ).entries ψ k).1 (at_number ψ k h e (shape ψ) refl
          (subst (λ χ. All (λ χ. (number φ χ < k) × (get_or (formulas φ) (number φ χ) one ≡ χ)) (inner χ)) e (number_inner φ k h)) f
          (numbering_at k h ∙ ap (entry_of (number φ)) e ∙ entry_headed (number φ) ψ))) (get_or (formulas φ) k one) k h refl;
    }

-- a rule's number k stands for formula k of the formula that it numbers
pub rule_listed : (rule : Rule) (φ : Tree) → Numbers rule φ → Listed rule.entries (formulas φ)
rule_listed rule φ n = subst (λ (r : Rule). Listed r.entries (formulas φ)) (sym n.same) (numbering_listed rule.profile φ n.fits.known)

pub rule_count : (rule : Rule) (φ : Tree) → Numbers rule φ → rule.count ≡ length (formulas φ)
unfolding numbering
rule_count rule φ n = ap (λ (r : Rule). r.count) n.same

pub rule_some : (rule : Rule) (φ : Tree) → Numbers rule φ → 0 < rule.count
rule_some rule φ n = omega (arith, rule_count rule φ n, number_whole φ)

pub rule_few : (rule : Rule) (φ : Tree) → Numbers rule φ → rule.count ≤ 64
rule_few rule φ n = omega (arith, rule_count rule φ n, n.fits.few, most_few rule.profile)

pub rule_most : (rule : Rule) (φ : Tree) → Numbers rule φ → rule.count ≤ (dialect rule.profile).most
rule_most rule φ n = omega (arith, rule_count rule φ n, n.fits.few)

pub rule_unused : (rule : Rule) (φ : Tree) → Numbers rule φ → Unused rule.entries rule.count
unfolding numbering
rule_unused rule φ n = subst (λ (r : Rule). Unused r.entries r.count) (sym n.same) (numbering_unused rule.profile φ)

pub rule_long : (rule : Rule) (φ : Tree) → Numbers rule φ → length rule.entries ≡ 64
rule_long rule φ n = ap (λ (r : Rule). length r.entries) n.same ∙ numbering_long rule.profile φ (omega (arith, n.fits.few, most_few rule.profile))

-- the whole formula has the highest number
pub rule_whole : (rule : Rule) (φ : Tree) → Numbers rule φ → Stands rule.entries φ (rule.count - 1)
rule_whole rule φ n =
    let e : number φ φ ≡ rule.count - 1 = omega (arith, rule_count rule φ n, number_whole φ) in
    let (h, f) = number_stands φ φ (whole_in φ) in
    subst (Stands rule.entries φ) e (subst (λ ψ. Stands rule.entries ψ (number φ φ)) f ((rule_listed rule φ n).stand (number φ φ) h))

-- a rule is the numbering of one formula only
pub rule_one : (rule : Rule) (φ ψ : Tree) → Numbers rule φ → Numbers rule ψ → φ ≡ ψ
rule_one rule φ ψ m n = stands_one rule.entries φ ψ (rule.count - 1) (rule_whole rule φ m) (rule_whole rule ψ n)

-- ---- entries that list the formulas of φ are its numbering

module _ (entries : List Formula) where
  known_two : (φ p q : Tree) → shape φ ≡ both p q → KnownFlag flags φ → All (KnownFlag flags) (parts p) → All (KnownFlag flags) (parts q) → All (KnownFlag flags) (parts φ)
  known_two φ p q e k hp hq = parts_all (KnownFlag flags) φ (rw e ((all_append (KnownFlag flags) (parts p) (parts q)).1 (hp, hq))) k

  -- what stands for a formula has no flag that a date has not
  pub stands_known : (φ : Tree) (k : ℕ) → Stands entries φ k → All (KnownFlag flags) (parts φ)
  stands_known (flag f) k x = (x.known, tt)
  stands_known (not_flag f) k x = (x.known, tt)
  stands_known one k x = (tt, tt)
  stands_known zero k x = (tt, tt)
  stands_known (and p q) k x = known_two (and p q) p q refl tt (stands_known p x.first.0 x.left) (stands_known q x.second.0 x.right)
  stands_known (or p q) k x = known_two (or p q) p q refl tt (stands_known p x.first.0 x.left) (stands_known q x.second.0 x.right)
  stands_known (next p) k x = parts_all (KnownFlag flags) (next p) (stands_known p x.first.0 x.part) tt
  stands_known (weak p) k x = parts_all (KnownFlag flags) (weak p) (stands_known p x.first.0 x.part) tt
  stands_known (until p q) k x = known_two (until p q) p q refl tt (stands_known p x.first.0 x.left) (stands_known q x.second.0 x.right)
  stands_known (release p q) k x = known_two (release p q) p q refl tt (stands_known p x.first.0 x.left) (stands_known q x.second.0 x.right)

  -- entries that list formulas, none of them twice, have the places of their parts
  module _ (l : List Tree) (once : Once l) (listed : Listed entries l) where
    part_place : (ψ : Tree) (i k : ℕ) → i < k → k < length l → Stands entries ψ i → place same_tree ψ l ≡ i
    part_place ψ i k b h s =
        ap (λ χ. place same_tree χ l) (sym (listed_at entries l listed ψ i (omega arith) s)) ∙ place_at same_tree same_tree_means one l once i (omega arith)

    listed_by : (ψ : Tree) (k : ℕ) → k < length l → (s : Shape) → shape ψ ≡ s → StandsBy entries ψ k s
        → formula_at entries k ≡ headed ψ (numbers_of (λ χ. place same_tree χ l) s).0 (numbers_of (λ χ. place same_tree χ l) s).1
    listed_by ψ k h alone e x = x.here ∙ headed_alone ψ x.first x.second (record { 0 = 0 }) (record { 0 = 0 }) e
    listed_by ψ k h (over p) e x =
        x.here ∙ headed_over ψ p x.first x.second (record { 0 = 0 }) e
        ∙ ap (λ (i : ℕ). headed ψ (record { 0 = i }) (record { 0 = 0 })) (sym (part_place p x.first.0 k x.below h x.part))
    listed_by ψ k h (both p q) e x =
        x.here ∙ ap₂ (λ (i j : ℕ). headed ψ (record { 0 = i }) (record { 0 = j })) (sym (part_place p x.first.0 k x.left_below h x.left))
        (sym (part_place q x.second.0 k x.right_below h x.right))

    pub listed_entry : (k : ℕ) → k < length l → formula_at entries k ≡ entry_of (λ χ. place same_tree χ l) (get_or l k one)
    listed_entry k h =
        let ψ = get_or l k one in
        listed_by ψ k h (shape ψ) refl ((stands_shape entries ψ k).0 (listed.stand k h)) ∙ sym (entry_headed (λ χ. place same_tree χ l) ψ)

  listed_entries : (π : Profile) (φ : Tree) → Listed entries (formulas φ) → length (formulas φ) ≤ 64 → length entries ≡ 64 → Unused entries (length (formulas φ))
      → entries ≡ (numbering π φ).entries
  unfolding number
  listed_entries π φ listed few long unused =
      ext_get_or (Flag 0) entries (numbering π φ).entries (long ∙ sym (numbering_long π φ few))
      (λ k h. (by_cases (dec_lt k (length (formulas φ)))
      (λ l. listed_entry (formulas φ) (formulas_once φ) listed k l ∙ sym (numbering_at π φ k l))
      (λ l. unused k (omega arith) (omega arith) ∙ sym (numbering_unused π φ k (omega arith) (omega arith)))))

pub listed_rule : (rule : Rule) (φ : Tree) → Listed rule.entries (formulas φ) → rule.count ≡ length (formulas φ) → rule.count ≤ (dialect rule.profile).most
    → length rule.entries ≡ 64 → Unused rule.entries rule.count → Numbers rule φ
unfolding numbering
listed_rule rule φ listed count few long unused =
    let few' : length (formulas φ) ≤ (dialect rule.profile).most = omega arith in
    let few'' : length (formulas φ) ≤ 64 = omega (arith, most_few rule.profile) in
    let (h, f) = number_stands φ φ (whole_in φ) in
    record {
      fits = record { known = stands_known rule.entries φ (number φ φ) (subst (λ ψ. Stands rule.entries ψ (number φ φ)) f (listed.stand (number φ φ) h)); few = few' };
      same = ap₂ (λ (n : ℕ) (e : List Formula). record { profile = rule.profile; count = n; entries = e }) count
          (listed_entries rule.entries rule.profile φ listed few'' long (subst (Unused rule.entries) count unused));
    }

-- ---- the rules of 1 and of 0

pub numbers_one : (π : Profile) → Numbers (numbering π one) one
unfolding formulas numbering
numbers_one Finite = record { fits = record { known = (tt, tt); few = omega arith }; same = refl }
numbers_one Last = record { fits = record { known = (tt, tt); few = omega arith }; same = refl }

pub numbers_zero : (π : Profile) → Numbers (numbering π zero) zero
unfolding formulas numbering
numbers_zero Finite = record { fits = record { known = (tt, tt); few = omega arith }; same = refl }
numbers_zero Last = record { fits = record { known = (tt, tt); few = omega arith }; same = refl }
