-- What it means to write behind a text in a lent slice. Contracts of inner functions. Assumes nothing.
use Rattle.std.specs.Prelude.{◌≡◌, List, ℕ}
use Rattle.walking.specs.declared.texts.Text.{Text}
use Rattle.walking.specs.Text.{Written}

-- the text stands behind what was written before, in the same slice
pub record Adds (before : Text) (text : List ℕ) (after : Text) : Type 0 where
  pub same_slice : after.out.ghost_name ≡ before.out.ghost_name
  pub written : Written before.out.now before.end text after.end after.out.now
