-- Entries that list formulas, number by number, and entries that are not used. Assumes nothing.
use Rattle.std.specs.Prelude.{ℕ, ◌≤◌, ◌<◌, ◌≡◌, List}
use Rattle.std.proofs.Math.ListN.{length, get_or}
use Rattle.meaning.specs.Formula.{Formula as Tree, one}
use Rattle.rule.specs.Numbering.{formula_at}
use Rattle.rule.specs.Standing.{Stands}
use Rattle.rule.specs.declared.Formula.TheVariants.{False}
use Rattle.rule.specs.declared.Formula.{Formula}

-- number k stands for the formula at k, for each of them
pub record Listed (entries : List Formula) (l : List Tree) : Type 0 where
  pub stand : (k : ℕ) → k < length l → Stands entries (get_or l k one) k

-- entries that are not used are False
abbrev pub Unused : List Formula → ℕ → Type 0
Unused entries n = (k : ℕ) → n ≤ k → k < 64 → formula_at entries k ≡ False
