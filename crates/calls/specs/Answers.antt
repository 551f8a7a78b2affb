-- Answers as numbers: 1 yes, 0 no, a refusal its own. Definitions, to be believed. Assumes nothing.
use Rattle.std.specs.Prelude.{ℕ, ◌≡◌, Bool, true, false, ◌⊎◌}
use Rattle.answers.specs.Answers.{Outcome, gives, refuses}
use Rattle.answers.specs.Refusals.{Answer, outcome}

-- 1 where P holds, 0 where it does not
abbrev pub Says : ℕ → Type 0 → Type 0
Says r P = ((r ≡ 1) × P) ⊎ ((r ≡ 0) × (P → ⊥))

abbrev pub said_number : Outcome Bool (Unit {0}) → ℕ
said_number (gives true) = 1
said_number (gives false) = 0
said_number (refuses n left) = n

-- the number of a verdict that is promised
pub record Saying (Promised : Answer Bool → Type 0) (r : ℕ) : Type 0 where
  pub verdict : Answer Bool
  pub promised : Promised verdict
  pub number : r ≡ said_number (outcome verdict)
