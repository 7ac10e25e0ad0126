-- What goes on with the rows tried so far was found, and the next row to be tried fits.
use Rattle.std.proofs.Common.{◌+◌, ◌-◌, ◌<◌, ◌≤◌, cond, eqb, length}
use Rattle.rs_query.specs.Searching.{Adds, Fits}
use Rattle.rs_query.proofs.GoFacts.{IsPassed}
use Rattle.rs_query.proofs.block.Block.+extend.Given as goal

abbrev pub decreases-extend : goal.decreases-extend
decreases-extend l = length l.steps.now

abbrev pub invariant-loop-row : goal.invariant-loop-row
invariant-loop-row l = record {
  found : Adds (IsPassed l.catalog l.self l.mask l.step l.rows l.rest l.row) l.initial.found.items l.found.items;
  fits : 1 ≤ l.row → (l.step.above < l.row) × (l.row ≤ l.step.last) × Fits l.catalog l.self l.step.tie l.rows l.row;
}

abbrev pub decreases-loop-row : goal.decreases-loop-row
decreases-loop-row l = cond (eqb l.row 0) 0 (l.step.last + 1 - l.row)
