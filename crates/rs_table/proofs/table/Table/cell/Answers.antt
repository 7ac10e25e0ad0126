-- The value of the row fits its column.
use Rattle.std.proofs.Common.{◌≡◌, ◌-◌, [], get_or, subst}
use Rattle.std.specs.Prelude.{Some, slice_get}
use Rattle.rs_table.specs.Lent.{shown}
use Rattle.rs_table.specs.Relation.{IsTable, Relation}
use Rattle.rs_table.proofs.RelationFacts.{IsCell-at}
use Rattle.rs_table.proofs.table.Table.cell.Goals as goal

pub returns-clause-fits : goal.returns-clause-fits
returns-clause-fits c =
    (IsCell-at c.args.self.now c.args.row c.args.column (shown c.cell.result) (subst IsTable c.self.view_is c.self.invariant.table) c.requires.some_row c.requires.row_in
    (subst (λ (t : Relation). slice_get (get_or t.rows (c.args.row - 1) []) c.args.column ≡ Some (shown c.cell.result)) c.self.view_is c.cell.ensures)).fit
