use Rattle.std.proofs.Common.{◌≡◌, ◌+◌, drop}
use Rattle.rs_table_feed.specs.TableFeeds.{first_outside}
use Rattle.rs_table_feed.proofs.table_feed.outside.Given as goal

-- the rows so far are scores
abbrev pub invariant-loop-index : goal.invariant-loop-index
invariant-loop-index l = first_outside 1 l.table.rows ≡ first_outside (l.index + 1) (drop l.index l.table.rows)
