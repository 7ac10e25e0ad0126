-- The cells are the texts.
use Rattle.std.proofs.Common.{◌≡◌, ◌∙◌, sym, ap, map, List, ℕ, subst}
use Rattle.std.specs.Prelude.{Some, slice_get}
use Rattle.rs_value.specs.declared.value.Value.TheVariants.{Text}
use Rattle.rs_table.specs.Stored.{StoredCells}
use Rattle.rs_table.specs.Texts.{text_number, texts_among}
use Rattle.rs_table.specs.Kept.{cells_of}
use Rattle.rs_table.proofs.TextFacts.{text-at, texts_among-texts}
use Rattle.rs_table.proofs.cells.Cells.text_number.Goals as goal

pub returns : goal.returns
returns c text is =
    let cells : c.args.self.now.cells ≡ map (λ (t : List ℕ). Text t) c.in-Texts.texts.texts = sym (ap (λ (s : StoredCells). s.cells) c.self.view_is) ∙ ap (λ kept. (cells_of kept).cells) c.in-Texts.is in
    c.number.ensures
    ∙ ap (λ t. text_number t c.in-Texts.texts.texts) (text-at c.in-Texts.texts.texts c.args.place text (subst (λ cs. slice_get cs c.args.place ≡ Some (Text text)) cells is))
    ∙ ap (λ ts. text_number text ts) (sym (ap texts_among cells ∙ texts_among-texts c.in-Texts.texts.texts))
