use Rattle.std.proofs.Common.{◌≡◌, ◌≤◌, take}
use Rattle.std.specs.List.{All}
use Rattle.rs_table.specs.Stored.{cells_in, kinds_in, rooms_in}
use Rattle.rs_table.proofs.columns.reserve_all.Given as goal

abbrev pub invariant-loop-cells : goal.invariant-loop-cells
invariant-loop-cells l = record {
  kinds : kinds_in l.columns ≡ kinds_in l.initial.columns;
  cells : cells_in l.columns ≡ cells_in l.initial.columns;
  room : All (λ room. l.count ≤ room) (rooms_in (take l.cells-index l.columns));
}
