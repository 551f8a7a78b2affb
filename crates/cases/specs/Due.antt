-- A build that refuses all is wrong: of `G a` the tables are due. Assumes nothing.
use Rattle.std.specs.Prelude.{ℕ, refl, length}
use Rattle.std.proofs.Math.Decide.{ℕ_discrete}
use Rattle.std.proofs.Common.{subst}
use Rattle.laws.specs.Decided.{le_means}
use Rattle.answers.specs.Answers.{refuses}
use Rattle.meaning.specs.Flags.{flags}
use Rattle.meaning.specs.Formula.{Formula as Tree, flag, zero, release}
use Rattle.meaning.specs.Ending.{end_yes}
use Rattle.meaning.specs.declared.Profile.TheVariants.{Finite}
use Rattle.rule.specs.Numbering.{formulas, number, numbering, Numbers}
use Rattle.rule.proofs.ListingLaws.{rule_one}
use Rattle.tables.specs.Choices.{choices, choices_of, members_from}
use Rattle.tables.specs.Tables.{TooMuch, states, edges_of}
use Rattle.tables.specs.Building.{Slices, Long, Builds, not_a_rule, short_slice, too_much}
use Rattle.cases.specs.Proved.{test_within_lem}

abbrev pub globally : Tree
globally = release zero (flag 0)

pub globally_numbers : Numbers (numbering Finite globally) globally
unfolding formulas numbering ℕ_discrete
globally_numbers = record {
  fits = record { known = (tt, ((le_means 1 flags).0 tt, (tt, tt))); few = (le_means (length (formulas globally)) 64).0 tt };
  same = refl;
}

globally_within : ¬ TooMuch Finite globally
unfolding states edges_of formulas number choices choices_of members_from end_yes ℕ_discrete
globally_within = test_within_lem Finite globally tt

pub refusing_wrong : (n : ℕ) (s u : Slices) → Long s → Builds (numbering Finite globally) s (refuses n tt) u → ⊥
unfolding numbering
refusing_wrong n s u l (not_a_rule h) = h (globally, globally_numbers)
refusing_wrong n s u l (short_slice r short) = short l
refusing_wrong n s u l (too_much φ m k x) = globally_within (subst (TooMuch Finite) (rule_one (numbering Finite globally) φ globally m globally_numbers) x)
