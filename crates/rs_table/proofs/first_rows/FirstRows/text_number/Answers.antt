-- A text that one of the first rows has stands behind the same texts in the table.
use Rattle.std.proofs.Common.{◌≡◌, ◌∙◌, ◌-◌, ap, sym, subst}
use Rattle.std.specs.Prelude.{Some}
use Rattle.rs_value.specs.declared.value.Value.TheVariants.{Text}
use Rattle.rs_table.specs.Relation.{Relation, cell_at}
use Rattle.rs_table.specs.Texts.{column_texts, different, text_number}
use Rattle.rs_table.proofs.FirstFacts.{cell-first, texts_before-first}
use Rattle.rs_table.proofs.first_rows.FirstRows.text_number.Goals as goal

pub returns : goal.returns
returns c text has =
    let rows = c.self.inside.table.now.rows in
    let there = subst (λ (t : Relation). cell_at t c.args.row c.args.column ≡ Some (Text text)) (sym c.self.view_is) has in
    c.text_number.ensures text (cell-first rows c.self.inside.len (c.args.row - 1) c.args.column (Text text) there)
    ∙ sym (ap different (texts_before-first rows c.self.inside.len (c.args.row - 1) c.args.column text there))
    ∙ ap (λ (t : Relation). text_number text (column_texts t c.args.column)) c.self.view_is
