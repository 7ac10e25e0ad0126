-- A column that an argument names lies within the row, and its value has the argument's kind.
use Rattle.std.proofs.Common.{◌≡◌, ◌∙◌, ◌<◌, true, length, sym, ap, subst}
use Rattle.std.specs.Prelude.{pos}
use Rattle.std.proofs.lemmas.List.{get_or_read}
use Rattle.std.proofs.lemmas.Option.{unwrap_or-slice_get}
use Rattle.rs_value.specs.Value.{fits}
use Rattle.rs_value.specs.declared.value.Value.{Value}
use Rattle.rs_value.specs.declared.value.Value.TheVariants.{Int}
use Rattle.rs_table.proofs.RelationFacts.{IfOk-copy}
use Rattle.rs_catalog.specs.Indexes.{arg_fits, arg_value}
use Rattle.rs_catalog.proofs.NewRowFacts.{column_within, fits-arg_value}
use Rattle.rs_catalog.proofs.grow.argument_in.Goals as goal

pub bounds-row-column : goal.bounds-row-column
bounds-row-column c =
    let fits = c.requires.fits in
    column_within fits.0 fits.1.0 c.in-Column.field-0 c.in-Column.column c.args.row.now fits.1.1.0 (subst (λ a. arg_fits fits.0 fits.1.0 a ≡ true) c.in-Column.is fits.1.1.1)

value_is : (c : goal.After-copy) → c.index-row-column.result ≡ arg_value c.args.row.now c.args.arg.now
value_is c =
    let fits = c.requires.fits in
    let within : c.in-Column.column < length c.args.row.now =
    column_within fits.0 fits.1.0 c.in-Column.field-0 c.in-Column.column c.args.row.now fits.1.1.0 (subst (λ a. arg_fits fits.0 fits.1.0 a ≡ true) c.in-Column.is fits.1.1.1) in
    get_or_read c.args.row.now c.in-Column.column c.index-row-column.result within c.index-row-column.is (Int (pos 0))
    ∙ sym (unwrap_or-slice_get c.args.row.now c.in-Column.column (Int (pos 0)))
    ∙ ap (arg_value c.args.row.now) (sym c.in-Column.is)

pub returns-in-Column-clause-value : goal.returns-in-Column-clause-value
returns-in-Column-clause-value c = IfOk-copy (λ (v : Value). v ≡ arg_value c.args.row.now c.args.arg.now) c.index-row-column.result c.copy.result (value_is c) c.copy.ensures.same

pub returns-in-Column-clause-fit : goal.returns-in-Column-clause-fit
returns-in-Column-clause-fit c columns kind row e =
    IfOk-copy (λ (v : Value). fits kind v ≡ true) c.index-row-column.result c.copy.result
    (subst (λ (v : Value). fits kind v ≡ true) (sym (value_is c)) (fits-arg_value columns kind c.args.row.now c.args.arg.now row e)) c.copy.ensures.same
