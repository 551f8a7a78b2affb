-- What `fewest` promises: that the counts by rounds keep it, and that it admits one outcome only. Assumes nothing.
use Rattle.std.specs.Prelude.{◌≡◌, refl, Ok, Err, List, ◌++◌, ℕ, ◌≤◌, length, get_or, drop}
use Rattle.std.specs.Result.{IsOk}
use Rattle.std.proofs.Common.{sym, true≢false, ap, ◌∙◌, inl, inr, le_refl, arith, length-append, length-drop}
use Rattle.std.proofs.Math.Path.{subst⁻¹}
use Rattle.std.proofs.lemmas.List.{get_or_append_left}
use Rattle.std.proofs.lemmas.Slice.{drop-append-drop}
use Rattle.answers.specs.Refusals.{Answer}
use Rattle.answers.specs.declared.Refusal.{Refusal}
use Rattle.laws.specs.Lists.{same_entries}
use Rattle.meaning.specs.Flags.{flags}
use Rattle.automaton.specs.Tables.{Tables, tables_of, Good}
use Rattle.automaton.specs.Valid.{read_tables}
use Rattle.automaton.proofs.ValidLaws.{as_handed}
use Rattle.automaton.specs.Column.{ColumnIn, Lacking, FilledBy, Filled, TrueEntry}
use Rattle.automaton.specs.Rounds.{column}
use Rattle.automaton.proofs.RoundsLaws.{column_long, column_true, entry_unique}

module _ (t : Tables) (old new : List ℕ) where
  -- as code goes on where `fewest` was not refused, and where it was
  pub filled_yes : (r : Answer (Unit {0})) → IsOk r → Filled t old new r → FilledBy t old new (Ok tt)
  filled_yes (Ok done) y f = f.told
  filled_yes (Err refusal) y f = absurd (true≢false (sym y))

  pub filled_no : (r : Answer (Unit {0})) (refusal : Refusal) → r ≡ Err refusal → Filled t old new r → FilledBy t old new (Err refusal)
  filled_no r refusal e f = (rw e at f).told

-- the edge count of good tables is their last start
pub column_handed : (n k : ℕ) (s a e : List ℕ) → Good flags (tables_of n k s a e) → (old new : List ℕ) → ColumnIn (read_tables n s a e) old new
    → ColumnIn (tables_of n k s a e) old new
column_handed n k s a e good old new = as_handed n k s a e good (λ t. ColumnIn t old new)

-- the true column, laid over the front of a slice
pub column_laid : (t : Tables) → Good flags t → (old : List ℕ) → t.states ≤ length old → ColumnIn t old (column flags t ++ drop t.states old)
column_laid t good old room =
    let long : length (column flags t) ≡ t.states = column_long flags t good t.states in
    record {
      column = record {
        room = omega (arith, length-append (column flags t) (drop t.states old));
        true_entry = λ q h.
            subst⁻¹ (TrueEntry flags t q) (get_or_append_left (column flags t) (drop t.states old) 0 q (omega arith)) ((column_true flags t good).true_entry q h);
      };
      rest = drop-append-drop t.states old (column flags t) t.states (le_refl t.states) long;
      long = omega (arith, length-append (column flags t) (drop t.states old), length-drop t.states old);
    }

-- tables have one true column, and what is behind it stays
column_in_one : (t : Tables) (old new other : List ℕ) → ColumnIn t old new → ColumnIn t old other → new ≡ other
column_in_one t old new other x y =
    same_entries new other t.states 0 (x.long ∙ sym y.long)
    (λ q h. entry_unique flags t q (get_or new q 0) (get_or other q 0) (x.column.true_entry q h) (y.column.true_entry q h)) (x.rest ∙ sym y.rest)

-- there is one reason why nothing is filled in
lacking_one : (t : Tables) (old : List ℕ) (f g : Refusal) → Lacking t old f → Lacking t old g → f ≡ g
lacking_one t old f g (inl x) (inl y) = x.0 ∙ sym y.0
lacking_one t old f g (inl x) (inr y) = absurd (x.1 y.1)
lacking_one t old f g (inr x) (inl y) = absurd (y.1 x.1)
lacking_one t old f g (inr x) (inr y) = x.0 ∙ sym y.0

not_lacking : (t : Tables) (old : List ℕ) → Good flags t → t.states ≤ length old → (f : Refusal) → Lacking t old f → ⊥
not_lacking t old good room f (inl x) = x.1 good
not_lacking t old good room f (inr x) = omega (arith, x.2)

pub fewest_one : (t : Tables) (old new other : List ℕ) (b c : Answer (Unit {0})) → Filled t old new b → Filled t old other c → (b ≡ c) × (new ≡ other)
fewest_one t old new other (Ok a) (Ok d) x y = (refl, column_in_one t old new other x.told.2 y.told.2)
fewest_one t old new other (Ok a) (Err g) x y = absurd (not_lacking t old x.told.0 x.told.1 g y.told.1)
fewest_one t old new other (Err f) (Ok d) x y = absurd (not_lacking t old y.told.0 y.told.1 f x.told.1)
fewest_one t old new other (Err f) (Err g) x y = (ap Err (lacking_one t old f g x.told.1 y.told.1), x.told.0 ∙ sym y.told.0)
