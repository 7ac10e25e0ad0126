-- The terms so far have these indexes, and the others decide.
use Rattle.std.proofs.Common.{◌≡◌, drop}
use Rattle.rs_ta.specs.Eligible.{term_indexes}
use Rattle.rs_ta.proofs.EligibleFacts.{all_behind}
use Rattle.rs_ta.proofs.eligible.term_indexes.Given as goal

abbrev pub invariant-loop-term : goal.invariant-loop-term
invariant-loop-term l = all_behind l.indexes.items (term_indexes l.catalog l.table (drop l.term-index l.terms)) ≡ term_indexes l.catalog l.table l.terms
