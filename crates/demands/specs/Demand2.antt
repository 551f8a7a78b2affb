-- Demand 2: a text means what the grammar says, a printed rule reads back as the same rule, and the plain judge says yes exactly when the definition of
-- the rule's profile does, the series with no dates included. Definitions, to be believed. Assumes nothing.
use Rattle.std.specs.Prelude.{◌≡◌, ◌↔◌, List, ◌++◌, ℕ, ◌≤◌, length, take, drop, Result, Ok, Err, Bool, false, true}
use Rattle.answers.specs.Refusals.{Answer}
use Rattle.answers.specs.declared.Refusal.TheVariants.{NotARule}
use Rattle.meaning.specs.Formula.{Formula as Tree, Series}
use Rattle.meaning.specs.Meaning.{holds}
use Rattle.meaning.specs.Listed.{lists}
use Rattle.meaning.specs.Syntax.{Syntax, nnf}
use Rattle.meaning.specs.Dialect.{dialect, TextAnswersYes}
use Rattle.meaning.specs.declared.Profile.{Profile}
use Rattle.meaning.specs.declared.Profile.TheVariants.{Finite, Last}
use Rattle.rule.specs.Numbering.{formulas, Numbers, IsRule}
use Rattle.rule.specs.declared.Rule.{Rule}
use Rattle.reading.specs.declared.Refusal.{Refusal}
use Rattle.reading.specs.Grammar.{Sound}
use Rattle.reading.specs.Promise.{Reads}
use Rattle.printing.specs.Text.{text_of}
use Rattle.printing.specs.Printing.{Printing}
use Rattle.plain.specs.Judging.{Judging}
use Rattle.calls.specs.ByteForm.{Encodes}
use Rattle.calls.specs.Promises.{JudgedPlainly, ReadSlots, ReadCall, PrintCall}
use Rattle.demands.specs.RefusalTable.{ReadWithRoom}

-- the answer is yes exactly where P, and no exactly where not; `Ok true` and `Ok false`, from C 1 and 0
abbrev pub YesExactly : {A : Type 0} → A → A → A → Type 0 → Type 0
YesExactly said_yes said_no answer P = ((answer ≡ said_yes) ↔ P) × ((answer ≡ said_no) ↔ (¬ P))

-- a text was read from C, and these are the rule's count and its 192 bytes
pub record ReadFromC (π : Profile) (text : List ℕ) (count : ℕ) (bytes : List ℕ) : Type 0 where
  pub lent : ReadSlots
  pub left : ReadSlots
  pub call : ReadCall (dialect π).number text lent 0 left
  pub count_is : left.count ≡ count
  pub bytes_are : take 192 left.bytes ≡ bytes

pub record Demand2 : Type 0 where
  -- a text is read exactly when it is sound and has no more formulas than the profile admits
  pub read_exactly : (π : Profile) (text : List ℕ) (r : Result Rule Refusal) → Reads (dialect π).number text r
      → ((rule : Rule) × (r ≡ Ok rule)) ↔ ((p : Syntax) × Sound text p × (length (formulas (nnf p)) ≤ (dialect π).most))
  -- from C, where there is room for its bytes
  pub read_exactly_from_c : (π : Profile) (text : List ℕ) (lent : ReadSlots) (r : ℕ) (left : ReadSlots) → ReadWithRoom π text lent r left
      → (r ≡ 0) ↔ ((p : Syntax) × Sound text p × (length (formulas (nnf p)) ≤ (dialect π).most))
  -- and is read as the rule of the profile that is the numbering of what it spells, whatever tree that is, with negation pushed to the flags
  pub read_numbers : (π : Profile) (text : List ℕ) (rule : Rule) → Reads (dialect π).number text (Ok rule) → (p : Syntax) → Sound text p
      → (rule.profile ≡ π) × Numbers rule (nnf p)
  -- it spells one tree only
  pub one_tree : (text : List ℕ) (p q : Syntax) → Sound text p → Sound text q → p ≡ q
  -- whatever tree it spells, the plain judge answers by what that tree says under the profile
  pub text_judged : (π : Profile) (text : List ℕ) (rule : Rule) → Reads (dialect π).number text (Ok rule) → (p : Syntax) → Sound text p
      → (s : Series) (v : Answer Bool) → Judging rule s v → YesExactly (Ok true) (Ok false) v (TextAnswersYes π p s)
  pub text_judged_from_c : (π : Profile) (text : List ℕ) (count : ℕ) (bytes : List ℕ) → ReadFromC π text count bytes → (p : Syntax) → Sound text p
      → (s : Series) (r : ℕ) → JudgedPlainly (dialect π).number count bytes s r → YesExactly 1 0 r (TextAnswersYes π p s)
  -- a rule that is handed in, read or not, is judged by the formula that it numbers: under finite by Definition 9, under last by document 001's list
  -- where there is a date, and no where there is none
  pub finite_judged : (rule : Rule) → rule.profile ≡ Finite → (φ : Tree) → Numbers rule φ → (s : Series) (v : Answer Bool) → Judging rule s v → YesExactly (Ok true) (Ok false) v (holds φ s)
  pub last_judged : (rule : Rule) → rule.profile ≡ Last → (φ : Tree) → Numbers rule φ → (s : Series) (v : Answer Bool) → Judging rule s v
      → YesExactly (Ok true) (Ok false) v ((1 ≤ length s) × lists φ s)
  -- and one that numbers no formula is refused, and no other
  pub no_rule_judged : (rule : Rule) (s : Series) (v : Answer Bool) → Judging rule s v → (v ≡ Err NotARule) ↔ (¬ IsRule rule)
  -- the same of a rule in bytes, from C
  pub finite_judged_from_c : (count : ℕ) (bytes : List ℕ) (rule : Rule) → Encodes (dialect Finite).number count bytes rule → (φ : Tree) → Numbers rule φ
      → (s : Series) (r : ℕ) → JudgedPlainly (dialect Finite).number count bytes s r → YesExactly 1 0 r (holds φ s)
  pub last_judged_from_c : (count : ℕ) (bytes : List ℕ) (rule : Rule) → Encodes (dialect Last).number count bytes rule → (φ : Tree) → Numbers rule φ
      → (s : Series) (r : ℕ) → JudgedPlainly (dialect Last).number count bytes s r → YesExactly 1 0 r ((1 ≤ length s) × lists φ s)
  -- what is printed is the text of the formula, at the front, and all behind it is as before
  pub printed_exactly : (rule : Rule) (before after : List ℕ) (n : ℕ) → Printing rule before after (Ok n) → (φ : Tree) → Numbers rule φ
      → (n ≡ length (text_of φ)) × (after ≡ text_of φ ++ drop n before)
  -- whatever rule was printed, and whatever stood in the slice, what is printed reads back under its profile as that rule
  pub printed_read_back : (rule : Rule) (before after : List ℕ) (n : ℕ) → Printing rule before after (Ok n) → (r : Result Rule Refusal)
      → Reads (dialect rule.profile).number (take n after) r → r ≡ Ok rule
  -- from C as the same count and bytes
  pub printed_read_back_from_c : (π : Profile) (count : ℕ) (bytes out : List ℕ) (size : ℕ) (out' : List ℕ) (size' : ℕ)
      → PrintCall (dialect π).number count bytes out size 0 out' size' → (lent : ReadSlots) (r : ℕ) (left : ReadSlots)
      → ReadWithRoom π (take size' out') lent r left → (r ≡ 0) × (left.count ≡ count) × (take 192 left.bytes ≡ bytes)
