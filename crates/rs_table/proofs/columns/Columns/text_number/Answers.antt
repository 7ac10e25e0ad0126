-- The cell of the column at the row's place is that of the row.
use Rattle.std.proofs.Common.{◌≡◌, ◌<◌, ◌∙◌, ap, arith, get_or, length, sym}
use Rattle.std.specs.Prelude.{Some, slice_get}
use Rattle.std.proofs.lemmas.Option.{slice_get-get_or, slice_get_within}
use Rattle.rs_value.specs.declared.kind.Kind.TheVariants as kind
use Rattle.rs_value.specs.declared.value.Value.TheVariants.{Text}
use Rattle.rs_table.specs.Texts.{text_number, texts_among}
use Rattle.rs_table.proofs.StoredFacts.{IsPlaced, placed}
use Rattle.rs_table.proofs.columns.Columns.text_number.Goals as goal

at_index : (c : goal.After-index) → IsPlaced c.args.self.now c.args.column c.index.result.now
at_index c = placed c.args.self.now c.self.inside.len c.args.column c.self.inside.columns.items c.index.result.now c.self.view_is c.self.invariant (slice_get_within c.args.self.now.kinds c.args.column kind.Text c.requires.texts) c.index.ensures

at_text_number : (c : goal.After-text_number) → IsPlaced c.args.self.now c.args.column c.index.result.now
at_text_number c = placed c.args.self.now c.self.inside.len c.args.column c.self.inside.columns.items c.index.result.now c.self.view_is c.self.invariant (slice_get_within c.args.self.now.kinds c.args.column kind.Text c.requires.texts) c.index.ensures

pub text_number-requires-clause-place : goal.text_number-requires-clause-place
text_number-requires-clause-place c = let size = (at_index c).size in omega (arith, size)

pub returns : goal.returns
returns c text is =
    let it = at_text_number c in
    let in_cells : c.args.row < length c.index.result.now.cells = let size = it.size in omega (arith, size) in
    let cell : slice_get c.index.result.now.cells c.args.row ≡ Some (get_or c.index.result.now.cells c.args.row (Text text)) = slice_get-get_or c.index.result.now.cells c.args.row (Text text) in_cells in
    let same : Some (get_or c.index.result.now.cells c.args.row (Text text)) ≡ Some (Text text) = sym (it.at c.args.row (get_or c.index.result.now.cells c.args.row (Text text)) c.requires.row_in cell) ∙ is in
    c.text_number.ensures text (cell ∙ same) ∙ ap (λ cells. text_number text (texts_among cells)) (sym it.all)
