use Rattle.std.proofs.Common.{◌≡◌, ◌+◌, sym, ◌∙◌, refl, eqb→eq, take, get_or, subst, T}
use Rattle.std.proofs.lemmas.List.Sorted.{non_decreasing_from_is_sorted}
use Rattle.automaton.specs.Handed.{seen}
use Rattle.automaton.proofs.Parts.{spanning_sorted}
use Rattle.automaton.proofs.Tables.starts_rise.Goals.{then-starts-eq0, else-starts-eq0}
use Rattle.automaton.proofs.Tables.starts_rise.Goals as goal

pub returns-then-from-self : goal.returns-then-from-self
returns-then-from-self c =
    let tables = seen c.args.self.now in
    let starts = take (tables.states + 1) tables.starts in
    let ends : (get_or starts 0 0 ≡ 0) × (get_or starts tables.states 0 ≡ tables.edge_count) = elim c.if-starts-eq0.branch [
      | then-starts-eq0 w ↦ (w.if-starts-eq0.true, sym w.from.ensures ∙ eqb→eq w.from.result tables.edge_count (subst T (sym c.if-from-self.true ∙ w.value-is) tt))
      | else-starts-eq0 w ↦ absurd (w.if-starts-eq0.false (eqb→eq (get_or starts 0 0) 0 (subst T (sym c.if-from-self.true ∙ w.value-is) tt)))
    ] in
    spanning_sorted tables starts refl c.requires c.is_sorted.result ends.0 ends.1 (non_decreasing_from_is_sorted _ _ c.is_sorted.ensures.cases)
