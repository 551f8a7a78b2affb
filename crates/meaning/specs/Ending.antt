-- What a formula says where a series has ended, under the profile finite: document 01, "Tables". Definitions, to be believed. Assumes nothing.
use Rattle.std.specs.Prelude.{Bool, true, false, ◌&&◌, ◌||◌}
use Rattle.meaning.specs.Formula.{Formula, flag, not_flag, one, zero, and, or, next, weak, until, release}

unfoldable pub end_yes : Formula → Bool
end_yes (flag k) = false
end_yes (not_flag k) = true
end_yes one = true
end_yes zero = false
end_yes (and p q) = end_yes p && end_yes q
end_yes (or p q) = end_yes p || end_yes q
end_yes (next p) = false
end_yes (weak p) = true
end_yes (until p q) = end_yes q
end_yes (release p q) = end_yes q
