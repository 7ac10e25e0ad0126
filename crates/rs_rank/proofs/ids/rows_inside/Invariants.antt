use Rattle.std.proofs.Common.{◌≡◌, ◌++◌, length, take, drop}
use Rattle.rs_rank.specs.Ids.{rows_inside}
use Rattle.rs_rank.proofs.ids.rows_inside.Given as goal

-- the row numbers in front of the entry are done, and the mask is that of the entries from there on
abbrev pub invariant-loop-entry : goal.invariant-loop-entry
invariant-loop-entry l = record {
  size : length l.inside ≡ 6;
  done : take l.entry l.inside ++ rows_inside l.mask (drop l.entry l.rows) ≡ rows_inside l.entries l.rows;
}
