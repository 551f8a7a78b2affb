-- Tables as code hands them on, and what they are in the documents' words. Definitions, to be believed. Assumes nothing.
use Rattle.automaton.specs.Tables.{Tables, tables_of}
use Rattle.automaton.specs.declared.Tables.{Tables as Handed}

-- the counts, and what stands in the slices
abbrev pub seen : Handed → Tables
seen t = tables_of t.states t.edge_count t.starts.now t.accepts.now t.edges.now
