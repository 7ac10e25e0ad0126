-- The chain looks at the indexes in their order.
use Rattle.std.proofs.Common.{ap, ◌∙◌, sym, rules, tests}
use Rattle.std.specs.Map.{values_of}
use Rattle.std.proofs.lemmas.Iterator.Consumers.{YieldsList-from_rest}
use Rattle.std.proofs.lemmas.Iterator.Search.{position_from_yields_List}
use Rattle.rs_catalog.specs.Indexes.{index_of, is_for}
use Rattle.rs_catalog.proofs.InsideFacts.{index_of-first}
use Rattle.rs_catalog.proofs.catalog.Catalog.index_for.Goals as goal

pub returns-in_err-number-clause-value : goal.returns-in_err-number-clause-value
returns-in_err-number-clause-value c =
    let fields = c.self.inside in
    c.from_residual.ensures ∙ sym c.in_err-number.was
    ∙ position_from_yields_List (λ i. is_for c.args.table c.args.predicate c.args.args.now c.args.entry i.def) _ _ c.position.result c.position.ensures.ran (YieldsList-from_rest (values_of fields.indexes.entries) c.values.ensures.rest) (λ x b q k. search (rules, tests))
    ∙ index_of-first fields.tables.entries fields.predicates.entries fields.indexes.entries c.args.table c.args.predicate c.args.args.now c.args.entry
    ∙ ap (index_of c.args.table c.args.predicate c.args.args.now c.args.entry) c.self.view_is

pub returns-clause-value : goal.returns-clause-value
returns-clause-value c =
    let fields = c.self.inside in
    sym c.in_ok-number.was
    ∙ position_from_yields_List (λ i. is_for c.args.table c.args.predicate c.args.args.now c.args.entry i.def) _ _ c.position.result c.position.ensures.ran (YieldsList-from_rest (values_of fields.indexes.entries) c.values.ensures.rest) (λ x b q k. search (rules, tests))
    ∙ index_of-first fields.tables.entries fields.predicates.entries fields.indexes.entries c.args.table c.args.predicate c.args.args.now c.args.entry
    ∙ ap (index_of c.args.table c.args.predicate c.args.args.now c.args.entry) c.self.view_is
