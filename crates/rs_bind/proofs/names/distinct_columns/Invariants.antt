use Rattle.std.proofs.Common.{◌≡◌, ◌≤◌, [], drop, length}
use Rattle.rs_table.specs.Appended.{appended}
use Rattle.rs_bind.specs.Names.{named, named_behind}
use Rattle.rs_bind.proofs.NameFacts.{names_of}
use Rattle.rs_bind.proofs.names.distinct_columns.Given as goal

abbrev pub invariant-loop-name : goal.invariant-loop-name
invariant-loop-name l = record {
  few : length l.made.items ≤ l.most;
  same : length l.made.items ≡ l.name-index;
  so_far : appended l.made.items (named_behind l.most (names_of l.made.items []) (drop l.name-index l.columns)) ≡ named l.most l.columns;
}
