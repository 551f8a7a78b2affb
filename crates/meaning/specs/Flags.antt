-- How many flags a date has: a date is a number below 2 ^ flags. Definitions, to be believed. Assumes nothing.
use Rattle.std.specs.Prelude.{ℕ}

abbrev pub flags : ℕ
flags = 8
