use Rattle.std.proofs.Common.{ℕ, ◌≡◌, ◌≤◌, ◌<◌, List, drop, length}
use Rattle.std.specs.List.{AllByRecursion}
use Rattle.rs_bind.specs.Indexes.{columns_in}
use Rattle.rs_bind.specs.Sources.{entries_of}
use Rattle.rs_bind.proofs.EntryFacts.{entries_left}
use Rattle.rs_bind.proofs.from.bind_entries.Given as goal

abbrev pub invariant-loop-table : goal.invariant-loop-table
invariant-loop-table l = record {
  few : length l.made.items ≤ 6;
  tables : AllByRecursion (λ (entry : ℕ × List ℕ). entry.0 < length l.catalog.tables) l.made.items;
  columns : AllByRecursion (λ (entry : ℕ × List ℕ). length (columns_in l.catalog entry.0) ≤ 64) l.made.items;
  so_far : entries_left l.catalog l.made.items (drop l.table-index l.from) ≡ entries_of l.catalog l.from;
}
