-- Demand 1: for every input each call ends with one answer; bad text, rules, tables and short slices get the refusal of document 01's table, and each
-- lent slice is left as its row says. Of the library's calls and of those from C. Definitions, to be believed. Assumes nothing.
use Rattle.std.specs.Prelude.{◌≡◌, ◌↔◌, List, ℕ, ◌<◌, take, Err, Some}
use Rattle.meaning.specs.Dialect.{dialect}
use Rattle.meaning.specs.declared.Profile.{Profile}
use Rattle.reading.specs.declared.Wanted.{Wanted}
use Rattle.reading.specs.declared.Refusal.{Refusal}
use Rattle.reading.specs.Grammar.{Wants, TwoOrThree}
use Rattle.reading.specs.Promise.{number_of, place_of, wanted_of, wanted_number, Reads}
use Rattle.calls.specs.Promises.{ReadSlots}
use Rattle.demands.specs.EveryCall.{EveryCall, EveryCallFromC, EveryInnerCall}
use Rattle.demands.specs.RefusalTable.{RefusalTable, ReadWithRoom, RefusalTableFromC}

-- a refused text: 2 and 3 say the one thing that is wanted at the place, the others nothing
pub record SaysWhat (text : List ℕ) (f : Refusal) : Type 0 where
  pub says : (w : Wanted) → (wanted_of f ≡ Some w) ↔ (TwoOrThree (number_of f) × Wants (take (place_of f) text) w)
  pub says_some : TwoOrThree (number_of f) → (w : Wanted) × (wanted_of f ≡ Some w)

-- from C, by 1, 2 or 3 for what is wanted, and 0 for nothing
pub record SaysWhatFromC (text : List ℕ) (r : ℕ) (left : ReadSlots) : Type 0 where
  pub says : TwoOrThree r → (w : Wanted) → (left.wanted ≡ wanted_number (Some w)) ↔ Wants (take left.place text) w
  pub says_some : TwoOrThree r → (w : Wanted) × (left.wanted ≡ wanted_number (Some w))
  pub says_nothing : ¬ TwoOrThree r → left.wanted ≡ 0

pub record Demand1 : Type 0 where
  pub every_call : EveryCall
  pub every_call_from_c : EveryCallFromC
  pub every_inner_call : EveryInnerCall
  pub refusals : RefusalTable
  pub refusals_from_c : RefusalTableFromC
  pub wanted : (π : Profile) (text : List ℕ) (f : Refusal) → Reads (dialect π).number text (Err f) → SaysWhat text f
  pub wanted_from_c : (π : Profile) (text : List ℕ) (lent : ReadSlots) (r : ℕ) (left : ReadSlots) → ReadWithRoom π text lent r left → 0 < r → SaysWhatFromC text r left
