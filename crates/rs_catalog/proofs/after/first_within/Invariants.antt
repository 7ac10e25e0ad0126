use Rattle.std.proofs.Common.{◌≡◌, drop}
use Rattle.rs_catalog.specs.After.{entries_within}
use Rattle.rs_catalog.proofs.after.first_within.Given as goal

-- none of the entries so far has such a row
abbrev pub invariant-loop-entry : goal.invariant-loop-entry
invariant-loop-entry l = entries_within l.rows (drop l.entry-index l.entries) ≡ entries_within l.rows l.entries
