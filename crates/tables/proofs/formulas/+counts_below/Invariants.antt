use Rattle.tables.proofs.formulas.+counts_below.Given as goal

abbrev pub decreases-counts_below : goal.decreases-counts_below
decreases-counts_below l = l.end
