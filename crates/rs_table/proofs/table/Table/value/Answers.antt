-- The copy is the cell.
use Rattle.std.proofs.Common.{◌≡◌, true}
use Rattle.std.specs.Prelude.{Some}
use Rattle.rs_table.specs.Lent.{shown}
use Rattle.rs_table.specs.Relation.{cell_at}
use Rattle.rs_value.specs.Value.{fits}
use Rattle.rs_table.proofs.RelationFacts.{IfOk-copy, kind_of-fits}
use Rattle.rs_table.proofs.table.Table.value.Goals as goal

pub returns-clause-cell : goal.returns-clause-cell
returns-clause-cell c =
    IfOk-copy (λ copy. cell_at c.args.self.now c.args.row c.args.column ≡ Some copy) (shown c.cell.result) c.copy.result c.cell.ensures.cell c.copy.ensures.same

pub returns-clause-fits : goal.returns-clause-fits
returns-clause-fits c column is =
    IfOk-copy (λ copy. fits column.1 copy ≡ true) (shown c.cell.result) c.copy.result (c.cell.ensures.fits column is) c.copy.ensures.same

pub returns-clause-number : goal.returns-clause-number
returns-clause-number c column is is_int =
    c.copy.ensures.number (kind_of-fits column.1 (shown c.cell.result) is_int (c.cell.ensures.fits column is))
