-- Printing's statement admits one outcome only; a printed text reads as the rule that it was printed from. Assumes nothing.
use Rattle.std.specs.Prelude.{◌≡◌, List, ◌∷◌, ◌++◌, ℕ, ◌≤◌, length, take, drop, Result, Ok}
use Rattle.std.proofs.Math.Path.{refl, subst⁻¹}
use Rattle.std.proofs.Common.{sym, ap, ◌∙◌, subst, subst₂, ⊎_elim, arith, take_at, drop_at}
use Rattle.answers.specs.Answers.{Outcome, refuses}
use Rattle.answers.specs.Refusals.{Answer, outcome}
use Rattle.answers.specs.Laws.Outcomes.{outcome_one}
use Rattle.answers.specs.Laws.Told.{outcome_told}
use Rattle.meaning.specs.Formula.{Formula as Tree, one}
use Rattle.meaning.specs.Dialect.{dialect}
use Rattle.meaning.specs.declared.Profile.{Profile}
use Rattle.rule.specs.Numbering.{Numbers, numbering}
use Rattle.rule.proofs.ListingLaws.{rule_one, numbers_one}
use Rattle.rule.specs.declared.Rule.{Rule}
use Rattle.reading.specs.Grammar.{Leaf, sign_of, leaf_spells, looser, Sound, ReadAs}
use Rattle.reading.specs.Promise.{Outcome as ReadOutcome, Reads}
use Rattle.reading.specs.Outcomes.{reads_one, reads_as}
use Rattle.reading.specs.declared.Refusal.{Refusal as ReadRefusal}
use Rattle.printing.specs.Text.{tree, written_as, text_of}
use Rattle.printing.specs.Pushing.{nnf_written}
use Rattle.printing.specs.Printing.{Refuses, not_a_rule, short_slice, too_long, Prints, Right, Printing}

module _ (rule : Rule) where
  -- one refusal at most is due, and none where the text is printed
  refuses_one : (size m n : ℕ) → Refuses rule size m → Refuses rule size n → m ≡ n
  refuses_one size m n (not_a_rule f) (not_a_rule g) = refl
  refuses_one size m n (not_a_rule f) (short_slice h l) = absurd (f h)
  refuses_one size m n (not_a_rule f) (too_long h l e) = absurd (f (_, h))
  refuses_one size m n (short_slice h l) (not_a_rule g) = absurd (g h)
  refuses_one size m n (short_slice h l) (short_slice h' l') = refl
  refuses_one size m n (short_slice h l) (too_long h' l' e) = absurd (omega arith)
  refuses_one size m n (too_long h l e) (not_a_rule g) = absurd (g (_, h))
  refuses_one size m n (too_long h l e) (short_slice h' l') = absurd (omega arith)
  refuses_one size m n (too_long h l e) (too_long h' l' e') = refl

  printed_not_refused : (before after : List ℕ) (n m : ℕ) → Prints rule before after n → Refuses rule (length before) m → ⊥
  printed_not_refused before after n m x (not_a_rule f) = f (x.formula, x.numbers)
  printed_not_refused before after n m x (short_slice h l) = omega (arith, x.large)
  printed_not_refused before after n m x (too_long {φ = φ} h l e) =
      let s = subst (λ ψ. Sound (text_of ψ) (tree (written_as ψ))) (rule_one rule x.formula φ x.numbers h) x.sound in
      ⊎_elim (λ b. omega (arith, s.short)) (λ (d, is, deep). omega (arith, is.least 32 (tree (written_as φ), s.spells))) e

  module _ (before : List ℕ) where
    printed_one : (after after' : List ℕ) (n n' : ℕ) → Prints rule before after n → Prints rule before after' n' → (n ≡ n') × (after ≡ after')
    printed_one after after' n n' x y =
        let e : text_of x.formula ≡ text_of y.formula = ap text_of (rule_one rule x.formula y.formula x.numbers y.numbers) in
        let f : n ≡ n' = x.long ∙ ap length e ∙ sym y.long in
        (f, x.left ∙ ap (λ t. t ++ drop n before) e ∙ ap (λ k. text_of y.formula ++ drop k before) f ∙ sym y.left)

    right_one : (after after' : List ℕ) (x y : Outcome ℕ (Unit {0})) → Right rule before after x → Right rule before after' y → (x ≡ y) × (after ≡ after')
    right_one = outcome_one (Right rule before) printed_one
        (λ a b m n k l x y. (refuses_one (length before) m n x.0 y.0, refl, x.1 ∙ sym y.1))
        (λ a b n m l x y. printed_not_refused before a n m x y.0)

  -- one outcome only: one answer, and one later content of the slice
  pub printing_one : (before after after' : List ℕ) (r r' : Answer ℕ) → Printing rule before after r → Printing rule before after' r' → (r ≡ r') × (after ≡ after')
  printing_one before after after' r r' x y =
      let (e, f) = right_one before after after' (outcome r) (outcome r') x.right y.right in
      (outcome_told r r' e, f)

  module _ (before after : List ℕ) (r : Answer ℕ) (x : Printing rule before after r) where
    -- a rule whose text is sound is printed, and so
    pub printing_sound : (φ : Tree) → Numbers rule φ → 1024 ≤ length before → Sound (text_of φ) (tree (written_as φ))
        → (r ≡ Ok (length (text_of φ))) × (after ≡ text_of φ ++ drop (length (text_of φ)) before)
    printing_sound φ n l s = printing_one before after (text_of φ ++ drop (length (text_of φ)) before) r (Ok (length (text_of φ))) x
        (record { right = record { formula = φ; numbers = n; large = l; sound = s; long = refl; left = refl } })

    -- bytes after the text are as they were
    pub behind_untouched : (n : ℕ) → r ≡ Ok n → drop n after ≡ drop n before
    behind_untouched n e =
        let y = (subst (Printing rule before after) e x).right in
        ap (drop n) y.left ∙ drop_at (text_of y.formula) (drop n before) n (sym y.long)

    -- and all are, where there is a refusal
    pub refused_untouched : (n : ℕ) → outcome r ≡ refuses n tt → after ≡ before
    refused_untouched n e = (subst (Right rule before after) e x.right).1

-- no printer refuses all, by 7 or otherwise: of the rule of `1` the text is due in every slice that has the size
pub one_printed : (π : Profile) (before after : List ℕ) (r : Answer ℕ) → 1024 ≤ length before → Printing (numbering π one) before after r
    → (r ≡ Ok 1) × (after ≡ 49 ∷ drop 1 before)
unfolding text_of sign_of
one_printed π before after r long x =
    printing_sound (numbering π one) before after r x one (numbers_one π) long (record { short = omega arith; spells = looser (looser (looser (looser (leaf_spells Leaf.one)))) })

-- ---- the round trip: `Reads` is what `reading::read` promises of a text

module _ (rule : Rule) (before after : List ℕ) (n : ℕ) (x : Printing rule before after (Ok n)) where
  front : take n after ≡ text_of x.right.formula
  front = ap (take n) x.right.left ∙ take_at (text_of x.right.formula) (drop n before) n (sym x.right.long)

  -- what is printed reads as the rule, under its profile
  pub round_trip : ReadAs rule.profile (take n after) rule
  round_trip = record {
    profile_is = refl;
    tree = tree (written_as x.right.formula);
    sound = subst (λ t. Sound t (tree (written_as x.right.formula))) (sym front) x.right.sound;
    numbers = subst (Numbers rule) (sym (nnf_written x.right.formula)) x.right.numbers;
  }

  -- so whatever reading promises of the printed text, by the number of the rule's profile, is that rule
  pub read_back : (r : Result Rule ReadRefusal) → Reads (dialect rule.profile).number (take n after) r → r ≡ Ok rule
  read_back r y = reads_one (dialect rule.profile).number (take n after) r (Ok rule) y (reads_as round_trip)

-- two rules of one profile and one text are one rule: no printer has one text for all
pub text_tells : (rule rule' : Rule) (before before' after after' : List ℕ) (n n' : ℕ) → Printing rule before after (Ok n)
    → Printing rule' before' after' (Ok n') → rule.profile ≡ rule'.profile → take n after ≡ take n' after' → rule ≡ rule'
text_tells rule rule' before before' after after' n n' x y p e =
    let z = subst₂ (λ π t. ReadAs π t rule) p e (round_trip rule before after n x) in
    let same : ◌≡◌ {A = Result Rule ReadRefusal} (Ok rule) (Ok rule') = read_back rule' before' after' n' y (Ok rule) (reads_as z) in
    cc

-- a text that is read, and then printed, gives a text that is read the same under the same profile
pub read_print_read : (π : Profile) (text : List ℕ) (r r' : Result Rule ReadRefusal) (rule : Rule) → r ≡ Ok rule → Reads (dialect π).number text r
    → (before after : List ℕ) (n : ℕ) → Printing rule before after (Ok n) → Reads (dialect π).number (take n after) r' → r' ≡ r
read_print_read π text r r' rule e h before after n x y =
    let p = (subst (ReadOutcome π text) e (h.known π refl).outcome).profile_is in
    read_back rule before after n x r' (subst⁻¹ (λ (z : Profile). Reads (dialect z).number (take n after) r') p y) ∙ sym e
