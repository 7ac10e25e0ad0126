-- The rows that are seen are those that are kept.
use Rattle.std.proofs.Common.{sym, ◌∙◌, ap}
use Rattle.rs_hrjn.specs.Drawn.{rows_of}
use Rattle.rs_hrjn.specs.Index.{index_of}
use Rattle.rs_hrjn.proofs.IndexFacts.{rows_of-drawn_rows}
use Rattle.rs_hrjn.proofs.drawn.DrawnRows.rows.Goals as goal

pub returns : goal.returns
returns c =
    c.deref.ensures.value ∙ sym (rows_of-drawn_rows (index_of c.self.inside.places) 0 c.self.inside.rows.items) ∙ ap rows_of c.self.view_is
