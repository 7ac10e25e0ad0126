use Rattle.std.proofs.Common.{◌≡◌, drop}
use Rattle.rs_typing.specs.Parameters.{placed, placed_from}
use Rattle.rs_typing.proofs.scope.find_column.Given as goal

abbrev pub invariant-loop-place : goal.invariant-loop-place
invariant-loop-place l = placed_from l.place l.name (drop l.place l.columns) ≡ placed l.name l.columns
