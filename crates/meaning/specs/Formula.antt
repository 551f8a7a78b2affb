-- A rule as a tree. Definitions, to be believed. Assumes nothing.
use Rattle.std.specs.Prelude.{ℕ, List}
use Rattle.std.proofs.Math.Decide.{ℕ_discrete}

-- a formula with negation pushed to the flags: document 01, "From text to rule"
pub data Formula : Type 0 where
  flag not_flag : ℕ → Formula
  one zero : Formula
  and or : Formula → Formula → Formula
  next weak : Formula → Formula
  until release : Formula → Formula → Formula
  deriving Discrete as Formula-discrete-over

abbrev pub Formula-discrete : Discrete Formula
Formula-discrete = Formula-discrete-over ℕ_discrete

-- a list of dates, perhaps of none. A date is a number whose bit k is flag k (`has` of the crate laws), and those that the calls take have `flags` of them
abbrev pub Series : Type 0
Series = List ℕ
