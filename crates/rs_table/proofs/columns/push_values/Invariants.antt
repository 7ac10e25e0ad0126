use Rattle.std.proofs.Common.{◌≡◌, length, take, vec_len}
use Rattle.rs_table.proofs.StoredFacts.{ArePushed}
use Rattle.rs_table.proofs.columns.push_values.Given as goal

abbrev pub invariant-loop-value : goal.invariant-loop-value
invariant-loop-value l = record {
  left : l.values.items ≡ take (length l.values.items) l.initial.values.items;
  done : ArePushed (length l.values.items) l.initial.columns l.columns l.initial.values.items;
}

abbrev pub decreases-loop-value : goal.decreases-loop-value
decreases-loop-value l = vec_len l.values
