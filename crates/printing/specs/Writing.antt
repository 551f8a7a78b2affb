-- What the printer's writers leave in the slice. Contracts of inner functions. Assumes nothing.
use Rattle.std.specs.Prelude.{◌≡◌, List, ℕ, ◌+◌, ◌≤◌, ◌<◌, length}
use Rattle.std.proofs.lemmas.List.Edits.{sets}
use Rattle.meaning.specs.Formula.{Formula as Tree}
use Rattle.rule.specs.Standing.{Stands}
use Rattle.rule.specs.declared.Formula.{Formula}
use Rattle.printing.specs.Text.{written_as, bare, printed}
use Rattle.printing.specs.Shapes.{Shaped}
use Rattle.printing.specs.declared.Shape.{Shape}
use Rattle.printing.specs.declared.Text.{Text}

-- A text is stored from a place on, and r is the place after it.
pub record Puts (before after : List ℕ) (at : ℕ) (text : List ℕ) (r : ℕ) : Type 0 where
  pub stored : after ≡ sets before at text
  pub end : r ≡ at + length text

-- It is stored behind what was written before, in the same slice.
pub record Adds (before : Text) (text : List ℕ) (after : Text) : Type 0 where
  pub same_slice : after.out.ghost_name ≡ before.out.ghost_name
  pub puts : Puts before.out.now after.out.now before.end text after.end

-- There is room for formula k behind what was written, in a slot or bare.
pub record Room (entries : List Formula) (k slot : ℕ) (t : Text) : Type 0 where
  pub formula : Tree
  pub stands : Stands entries formula k
  pub few : k < 64
  pub room : t.end + length (printed slot (written_as formula)) ≤ length t.out.now

pub record BareRoom (entries : List Formula) (k : ℕ) (s : Shape) (t : Text) : Type 0 where
  pub formula : Tree
  pub shaped : Shaped entries k formula s
  pub few : k < 64
  pub room : t.end + length (bare (written_as formula)) ≤ length t.out.now

pub record Wrote (entries : List Formula) (k slot : ℕ) (before after : Text) : Type 0 where
  pub adds : (φ : Tree) → Stands entries φ k → Adds before (printed slot (written_as φ)) after

pub record WroteBare (entries : List Formula) (k : ℕ) (s : Shape) (before after : Text) : Type 0 where
  pub adds : (φ : Tree) → Shaped entries k φ s → Adds before (bare (written_as φ)) after
