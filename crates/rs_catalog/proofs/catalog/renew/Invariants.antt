use Rattle.std.proofs.Common.{◌≡◌, ◌≤◌, length, map, vec_len}
use Rattle.rs_catalog.specs.Grown.{AllOrdered, HaveRoom, all_renewed_kept, kept_in}
use Rattle.rs_catalog.proofs.catalog.renew.Given as goal

-- what is left gives the same indexes, and there is room for it
abbrev pub invariant-loop-last : goal.invariant-loop-last
invariant-loop-last l = record {
  same : all_renewed_kept (map kept_in l.indexes.entries) l.grown.items ≡ all_renewed_kept (map kept_in l.initial.indexes.entries) l.initial.grown.items;
  few : length l.grown.items ≤ length l.indexes.entries;
  room : HaveRoom l.indexes.entries l.grown.items;
  ordered : AllOrdered (map kept_in l.indexes.entries) l.grown.items;
}

abbrev pub decreases-loop-last : goal.decreases-loop-last
decreases-loop-last l = vec_len l.grown
