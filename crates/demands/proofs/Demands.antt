-- The three demands, each a theorem about what the calls promise. Assumes nothing.
use Rattle.std.specs.Prelude.{◌≡◌, refl, [], ℕ, Bool, Ok, true, false}
use Rattle.std.proofs.Common.{arith}
use Rattle.std.proofs.Math.Logic.Iff
use Rattle.laws.specs.Masks.{has}
use Rattle.answers.specs.Refusals.{Answer}
use Rattle.meaning.specs.Flags.{flags}
use Rattle.meaning.specs.Formula.{Formula as Tree}
use Rattle.meaning.proofs.ListedReadings.{none_no}
use Rattle.meaning.specs.declared.Profile.TheVariants.{Finite, Last}
use Rattle.rule.specs.Numbering.{Numbers}
use Rattle.rule.specs.declared.Rule.{Rule}
use Rattle.reading.specs.Complete.{unambiguous}
use Rattle.printing.specs.Outcome.{read_back}
use Rattle.plain.specs.Judging.{Judging}
use Rattle.plain.specs.Outcome.{judging_refused, last_none}
use Rattle.tables.specs.Building.{Slices, Builds, counts, made_of}
use Rattle.automaton.specs.Walk.{Accepts}
use Rattle.walking.specs.Walks.{mask}
use Rattle.walking.specs.Answers.{Closed, Judged}
use Rattle.walking.specs.Theorems.{answer_one, closed_one, closed_stays}
use Rattle.demands.specs.EveryCall.{EveryCall}
use Rattle.demands.specs.RefusalTable.{LongAt, FirstAt, ManyAt, RefusalTable}
use Rattle.demands.specs.Demand1.{Demand1}
use Rattle.demands.specs.Demand2.{Demand2}
use Rattle.demands.specs.Demand3.{Demand3}
use Rattle.demands.proofs.ProgramLaws.{prints_one}
use Rattle.demands.proofs.ProgramSome.{prints_some}
use Rattle.demands.proofs.Existence as ends
use Rattle.demands.proofs.InnerExistence.{every_inner_call}
use Rattle.demands.proofs.ExistenceFromC.{every_call_from_c}
use Rattle.demands.proofs.RefusalLawsFromC.{refusals_from_c, wanted_from_c}
use Rattle.demands.specs.RefusalLaws.{read_row, long_row, first_row, many_row, print_6, print_8, print_7, plain_6, build_6, build_8, build_9, ends_6, verdict_10, step_10, fit_8, fit_10, lines_10, profile_12}
use Rattle.demands.proofs.CallsLaws.{built_as}
use Rattle.demands.specs.DemandLaws.{wanted, read_as, read_exactly, numbers, text_plainly, text_by_tables, rule_plainly, rule_by_tables, printed_exactly}
use Rattle.demands.specs.TableLaws.{goes_on, by_tables, closed_exactly}
use Rattle.demands.proofs.BytesLaws.{said_by, by_tables_from_c, read_exactly_from_c, text_plainly_from_c, text_by_tables_from_c, rule_plainly_from_c, built_exactly_from_c, rule_by_tables_from_c, printed_read_back_from_c, closed_goes_on, closed_still}

every_call : EveryCall
every_call = record {
  reading = ends.reading_ends;
  printing = ends.printing_ends;
  judging_plainly = ends.judging_plainly_ends;
  building = ends.building_ends;
  stepping = ends.stepping_ends;
  answering = ends.answering_ends;
  closing = ends.closing_ends;
  judging = ends.judging_ends;
  searching = ends.searching_ends;
  output = λ input. let (x, p) = prints_some Finite input in ends.the_one (prints_one Finite input) x p;
}

refusals : RefusalTable
refusals = record {
  row_1 = read_row 1 (λ π. LongAt) long_row;
  row_2 = read_row 2 (λ π. FirstAt 2) (λ π text k. first_row π text 2 k (omega arith) (omega arith));
  row_3 = read_row 3 (λ π. FirstAt 3) (λ π text k. first_row π text 3 k (omega arith) (omega arith));
  row_4 = read_row 4 (λ π. FirstAt 4) (λ π text k. first_row π text 4 k (omega arith) (omega arith));
  row_5 = read_row 5 ManyAt many_row;
  row_6 = λ rule. (print_6 rule, plain_6 rule, build_6 rule, ends_6 rule);
  row_7 = print_7;
  row_8 = (print_8, build_8, fit_8);
  row_9 = build_9;
  row_10 = λ t. (
    step_10 t,
    λ m r x. verdict_10 _ _ r x.told,
    λ m r x. verdict_10 _ _ r x.told,
    λ s r x. verdict_10 _ _ r x.told,
    fit_10 t,
    lines_10 t,
  );
  row_12 = profile_12;
}

pub demand_1 : Demand1
demand_1 = record {
  every_call = every_call;
  every_call_from_c = every_call_from_c;
  every_inner_call = every_inner_call;
  refusals = refusals;
  refusals_from_c = refusals_from_c;
  wanted = wanted;
  wanted_from_c = wanted_from_c;
}

pub demand_2 : Demand2
demand_2 = record {
  read_exactly = read_exactly;
  read_exactly_from_c = read_exactly_from_c;
  read_numbers = λ π text rule h p sound. ((read_as π text rule h).profile_is, numbers π text rule h p sound);
  one_tree = λ text p q x y. unambiguous x.spells y.spells;
  text_judged = text_plainly;
  text_judged_from_c = text_plainly_from_c;
  finite_judged = rule_plainly Finite;
  last_judged = rule_plainly Last;
  no_rule_judged = judging_refused;
  finite_judged_from_c = rule_plainly_from_c Finite;
  last_judged_from_c = rule_plainly_from_c Last;
  printed_exactly = printed_exactly;
  printed_read_back = read_back;
  printed_read_back_from_c = printed_read_back_from_c;
}

pub demand_3 : Demand3
demand_3 = record {
  built_exactly = λ rule s u n k b φ num. let (en, ek, fine, left) = built_as rule s φ num (counts n k) u b n k refl in (en, ek, left);
  built_exactly_from_c = built_exactly_from_c;
  finite_by_tables = rule_by_tables Finite;
  last_by_tables = rule_by_tables Last;
  text_by_tables = λ π text rule h s u n k b p sound. text_by_tables π text rule h p sound s u n k b;
  finite_by_tables_from_c = rule_by_tables_from_c Finite;
  last_by_tables_from_c = rule_by_tables_from_c Last;
  text_by_tables_from_c = λ π text count bytes x lent u states edges n k b p sound. text_by_tables_from_c π text count bytes x p sound lent u states edges n k b;
  any_tables = λ t good.
      let by = by_tables (Accepts flags t 0) t good (λ z. Iff.rfl) in (by, by_tables_from_c (Accepts flags t 0) t by);
  closed_exactly = closed_exactly;
  closed_exactly_from_c = λ t m taken. said_by (Closed t m) ((q : ℕ) → ¬ has (mask m) q) (closed_exactly t m taken);
  closed_stays = λ t m c z. (
    goes_on t m c.told.0 z,
    λ n along.
        let (still, said) = closed_stays t m z n c along in (λ v x. closed_one t n v (Ok true) x still, λ v x. answer_one t n v (Ok false) x said),
  );
  closed_stays_from_c = λ t m x z. (closed_goes_on t m x z, closed_still t m x z);
}

-- so under last a series with no dates is answered no, whatever the rule: plainly, and by the tables
pub last_no_dates : (rule : Rule) → rule.profile ≡ Last → (φ : Tree) → Numbers rule φ
    → ((v : Answer Bool) → Judging rule [] v → v ≡ Ok false)
    × ((s u : Slices) (n k : ℕ) → Builds rule s (counts n k) u → (v : Answer Bool) → Judged (made_of n k u) [] v → v ≡ Ok false)
last_no_dates rule e φ num = (last_none rule (φ, num) e, λ s u n k b v j. ((demand_3.last_by_tables rule e s u n k b φ num).judges [] v j).1.1 (none_no φ))
