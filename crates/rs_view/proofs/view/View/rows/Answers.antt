-- The rows that are asked for lie within the view, and each has a row of each entry.
use Rattle.std.proofs.Common.{◌≡◌, ◌∙◌, ◌+◌, ◌-◌, List, arith, ap, ap₂, drop, length, map, min, subst, sym, take}
use Rattle.std.specs.Prelude.{IfOk}
use Rattle.std.specs.List.{AllByRecursion}
use Rattle.rs_order.proofs.EachFacts.{each-drop, each-take}
use Rattle.rs_rank.specs.declared.answer.Answer.{Answer}
use Rattle.rs_rank.specs.declared.row.RankRow.{RankRow}
use Rattle.rs_catalog.specs.Catalog.{CatalogDef}
use Rattle.rs_query.specs.Blocks.{block_in}
use Rattle.rs_query.specs.declared.block.Block.{Block}
use Rattle.rs_plain.specs.Keeping.{IsWhole, answer_for}
use Rattle.rs_view.specs.Views.{Stands, ViewDef, rows_in}
use Rattle.rs_view.proofs.FirstFacts.{map-take}
use Rattle.rs_view.proofs.PieceFacts.{map-drop, piece}
use Rattle.rs_view.proofs.RowFacts.{kept-whole}
use Rattle.rs_view.proofs.view.View.rows.Goals as goal

pub block_answers-requires-clause-rows : goal.block_answers-requires-clause-rows
block_answers-requires-clause-rows c =
    let query = c.self.inside.query in
    let start = c.min-start.result in
    let rows = c.self.inside.rows.items in
    let stood = subst (Stands c.requires.0 c.args.catalog.now) (sym c.self.view_is) c.requires.1 in
    let whole : AllByRecursion (IsWhole c.args.catalog.now (block_in query 1)) rows = kept-whole c.requires.0 c.args.catalog.now query c.self.inside.lengths rows stood.keepable stood.lengths stood.rows in
    let seen : AllByRecursion (IsWhole c.current-catalog.result c.block_in.result.now) c.deref.result.now =
    subst (λ (catalogue : CatalogDef). AllByRecursion (IsWhole catalogue c.block_in.result.now) c.deref.result.now) (sym c.current-catalog.ensures)
    (subst (λ (block : Block). AllByRecursion (IsWhole c.args.catalog.now block) c.deref.result.now) (sym c.block_in.ensures)
    (subst (AllByRecursion (IsWhole c.args.catalog.now (block_in query 1))) (sym c.deref.ensures.value) whole)) in
    each-take (IsWhole c.current-catalog.result c.block_in.result.now) (start + c.min.result - start) (drop start c.deref.result.now)
    (each-drop (IsWhole c.current-catalog.result c.block_in.result.now) start c.deref.result.now seen)

pub returns : goal.returns
returns c =
    let rows = c.self.inside.rows.items in
    let start = c.min-start.result in
    let block = block_in c.self.inside.query 1 in
    let first : start ≡ min c.args.from (length rows) = omega (arith, c.min-start.ensures, c.len.ensures, c.self.inside.rows.ok.0) in
    let many : c.min.result ≡ min c.args.most (length rows - start) = omega (arith, c.min.ensures, c.len-2.ensures, c.self.inside.rows.ok.0) in
    let values = answer_for c.args.catalog.now block in
    let same : map (answer_for c.current-catalog.result c.block_in.result.now) (take (start + c.min.result - start) (drop start c.deref.result.now)) ≡ take c.args.most (drop c.args.from (rows_in c.args.catalog.now c.args.self.now)) =
    ap₂ (λ (catalogue : CatalogDef) (b : Block). map (answer_for catalogue b) (take (start + c.min.result - start) (drop start c.deref.result.now))) c.current-catalog.ensures c.block_in.ensures
    ∙ ap (map values) (ap (λ (list : List RankRow). take (start + c.min.result - start) (drop start list)) c.deref.ensures.value ∙ piece c.args.from c.args.most start c.min.result rows first many)
    ∙ map-take values c.args.most (drop c.args.from rows)
    ∙ ap (take c.args.most) (map-drop values c.args.from rows)
    ∙ ap (λ (v : ViewDef). take c.args.most (drop c.args.from (rows_in c.args.catalog.now v))) c.self.view_is in
    subst (λ (list : List Answer). IfOk c.block_answers.result (λ rows. rows.items ≡ list)) same c.block_answers.ensures
