-- The row numbers in front of the entry are merged.
use Rattle.std.proofs.Common.{◌≡◌, length, take}
use Rattle.rs_rank.specs.Ids.{merge_rows}
use Rattle.rs_rank.proofs.ids.merge_rows.Given as goal

abbrev pub invariant-loop-entry : goal.invariant-loop-entry
invariant-loop-entry l = (length l.rows ≡ 6) × (take l.entry l.rows ≡ take l.entry (merge_rows l.left l.right))
