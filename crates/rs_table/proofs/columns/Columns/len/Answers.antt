use Rattle.std.proofs.Common.{length, map, sym, ap, ◌∙◌}
use Rattle.rs_table.specs.Stored.{StoredCells, StoredRows}
use Rattle.rs_table.proofs.StoredFacts.{length-rows_across}
use Rattle.rs_table.proofs.columns.Columns.len.Goals as goal

pub returns : goal.returns
returns c =
    sym (length-rows_across c.self.inside.len (map (λ (cells : StoredCells). cells.cells) c.self.inside.columns.items))
    ∙ ap (λ (stored : StoredRows). length stored.rows) c.self.view_is
