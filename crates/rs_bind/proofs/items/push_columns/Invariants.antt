use Rattle.std.proofs.Common.{◌≡◌, ◌++◌, drop}
use Rattle.rs_bind.specs.Sources.{columns_from}
use Rattle.rs_bind.proofs.items.push_columns.Given as goal

abbrev pub invariant-loop-place : goal.invariant-loop-place
invariant-loop-place l =
    (l.made.items ++ columns_from l.entry l.place (drop l.place l.columns)) ≡ (l.initial.made.items ++ columns_from l.entry 0 l.columns)
