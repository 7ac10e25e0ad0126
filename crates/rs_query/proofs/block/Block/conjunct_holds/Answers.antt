-- Two columns that are equated have equal cells where the conjunct holds. Else the condition uses the columns as what they are.
use Rattle.std.proofs.Common.{◌≡◌, ◌∙◌, sym, subst, true}
use Rattle.rs_query.specs.Lent.{AreLent}
use Rattle.rs_query.specs.Meaning.{is_inside}
use Rattle.rs_query.specs.WellFormed.{IsColumn}
use Rattle.rs_table.specs.Lent.{shown}
use Rattle.rs_order.proofs.EachFacts.{each-slice_get}
use Rattle.rs_query.proofs.LentFacts.{AreLent-conjunct}
use Rattle.rs_query.proofs.EntryFacts.{column-inside, row-inside}
use Rattle.rs_query.proofs.EquatedFacts.{cell-test, conjunct-equated, equality-holds}
use Rattle.rs_query.proofs.block.Block.conjunct_holds.Goals as goal

pub cell-requires-clause-column : goal.cell-requires-clause-column
cell-requires-clause-column c =
    let at = conjunct-equated c.args.catalog.now c.args.self.now c.args.conjunct.now c.requires.conjunct c.in-Some.left c.in-Some.right (sym c.equality.ensures ∙ c.in-Some.is) in
    each-slice_get (IsColumn c.args.catalog.now c.args.self.now) c.args.conjunct.now.columns at.left c.in-Some.left c.requires.conjunct.columns at.left_there

pub cell-requires-clause-row : goal.cell-requires-clause-row
cell-requires-clause-row c =
    let at = conjunct-equated c.args.catalog.now c.args.self.now c.args.conjunct.now c.requires.conjunct c.in-Some.left c.in-Some.right (sym c.equality.ensures ∙ c.in-Some.is) in
    row-inside c.args.catalog.now c.args.self.now c.args.ids.now.mask c.args.ids.now.rows c.in-Some.left c.requires.rows
    (each-slice_get (IsColumn c.args.catalog.now c.args.self.now) c.args.conjunct.now.columns at.left c.in-Some.left c.requires.conjunct.columns at.left_there)
    (column-inside c.args.conjunct.now.columns at.left c.in-Some.left c.args.ids.now.mask
    (subst (λ entries. is_inside entries c.args.ids.now.mask ≡ true) c.requires.conjunct.entries c.requires.inside) at.left_there)

pub cell-requires-in-Some-clause-column : goal.cell-requires-in-Some-clause-column
cell-requires-in-Some-clause-column c =
    let at = conjunct-equated c.args.catalog.now c.args.self.now c.args.conjunct.now c.requires.conjunct c.in-Some.left c.in-Some.right (sym c.equality.ensures ∙ c.in-Some.is) in
    each-slice_get (IsColumn c.args.catalog.now c.args.self.now) c.args.conjunct.now.columns at.right c.in-Some.right c.requires.conjunct.columns at.right_there

pub cell-requires-in-Some-clause-row : goal.cell-requires-in-Some-clause-row
cell-requires-in-Some-clause-row c =
    let at = conjunct-equated c.args.catalog.now c.args.self.now c.args.conjunct.now c.requires.conjunct c.in-Some.left c.in-Some.right (sym c.equality.ensures ∙ c.in-Some.is) in
    row-inside c.args.catalog.now c.args.self.now c.args.ids.now.mask c.args.ids.now.rows c.in-Some.right c.requires.rows
    (each-slice_get (IsColumn c.args.catalog.now c.args.self.now) c.args.conjunct.now.columns at.right c.in-Some.right c.requires.conjunct.columns at.right_there)
    (column-inside c.args.conjunct.now.columns at.right c.in-Some.right c.args.ids.now.mask
    (subst (λ entries. is_inside entries c.args.ids.now.mask ≡ true) c.requires.conjunct.entries c.requires.inside) at.right_there)

pub returns-in-Some : goal.returns-in-Some
returns-in-Some c =
    c.eq.ensures
    ∙ cell-test c.cell.result c.cell-in-Some.result
    ∙ equality-holds c.args.catalog.now c.args.self.now c.args.ids.now.rows c.args.conjunct.now c.requires.conjunct c.in-Some.left c.in-Some.right
    (sym c.equality.ensures ∙ c.in-Some.is) (shown c.cell.result) (shown c.cell-in-Some.result) c.cell.ensures.value c.cell-in-Some.ensures.value c.cell.ensures.fit c.cell-in-Some.ensures.fit

pub of-cells-requires : goal.of-cells-requires
of-cells-requires c =
    let catalogue = c.args.catalog.now in
    let block = c.args.self.now in
    let rows = c.args.ids.now.rows in
    subst (λ columns. AreLent (record { catalogue = catalogue; block = block; columns = columns; rows = rows })) (sym c.columns.ensures)
    (AreLent-conjunct catalogue block c.requires.block c.args.conjunct.now c.requires.conjunct c.args.ids.now.mask rows c.requires.inside c.requires.rows)

pub test_lent-requires-clause-args : goal.test_lent-requires-clause-args
test_lent-requires-clause-args c = rw (c.condition.ensures, c.of-cells.ensures, c.columns.ensures) c.requires.conjunct.uses
