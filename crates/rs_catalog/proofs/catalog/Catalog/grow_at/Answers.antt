-- The index is asked about where it is one of the table.
use Rattle.std.proofs.Common.{ap, arith, length, subst, sym}
use Rattle.std.specs.Prelude.{Err, None, Ok, Result, Some}
use Rattle.rs_value.proofs.ResultFacts.{given-err}
use Rattle.rs_expr.specs.InOrder.{Inquires}
use Rattle.rs_catalog.specs.Catalog.{RankIndex}
use Rattle.rs_catalog.specs.Growing.{growing_index, with_entries}
use Rattle.rs_catalog.specs.Grown.{IsGrown, as_renewed_or_same, index_in}
use Rattle.rs_catalog.specs.declared.growth.GrowFault.{GrowFault}
use Rattle.rs_catalog.specs.declared.growth.GrowFault.TheVariants.{Memory}
use Rattle.rs_catalog.proofs.GrowAtFacts.{Inquires-other, Inquires-own, IsGrown-other, IsGrown-own, stored-of_table, stored-predicate, stored-same}
use Rattle.rs_catalog.proofs.catalog.Catalog.grow_at.Goals as goal

pub returns-then-index-table-clause-grows : goal.returns-then-index-table-clause-grows
returns-then-index-table-clause-grows g c index at =
    let scorer = g.S.Scorer.state c.args.scorer.now in
    let same = stored-same c.self.inside.tables.entries c.self.inside.predicates.entries c.self.inside.indexes.entries c.self.invariant c.args.self.now c.self.view_is c.args.number c.index-index.result.now c.index-index.ensures index at in
    subst (λ (index : RankIndex). Inquires Memory (growing_index scorer.answer c.args.self.now c.args.table c.args.rows.now c.args.number index) (Ok index) scorer scorer) same
    (Inquires-other scorer.answer c.args.self.now c.args.table c.args.rows.now c.args.number (index_in c.index-index.result.now) scorer c.if-index-table.true)

pub returns-then-index-table-clause-all : goal.returns-then-index-table-clause-all
returns-then-index-table-clause-all g c index at =
    let same = stored-same c.self.inside.tables.entries c.self.inside.predicates.entries c.self.inside.indexes.entries c.self.invariant c.args.self.now c.self.view_is c.args.number c.index-index.result.now c.index-index.ensures index at in
    subst (λ (index : RankIndex). IsGrown c.args.self.now c.args.table (length c.args.rows.now) index None) same
    (IsGrown-other c.args.self.now c.args.table (length c.args.rows.now) (index_in c.index-index.result.now) c.if-index-table.true)

pub predicate-predicate-requires : goal.predicate-predicate-requires
predicate-predicate-requires g c = stored-predicate c.self.inside.tables.entries c.self.inside.predicates.entries c.self.inside.indexes.entries c.self.invariant c.args.self.now c.self.view_is c.args.number c.index-index.result.now c.index-index.ensures

pub grow_index-requires : goal.grow_index-requires
grow_index-requires g c =
    let of_table = stored-of_table c.self.inside.tables.entries c.self.inside.predicates.entries c.self.inside.indexes.entries c.self.invariant c.args.self.now c.self.view_is c.args.number c.index-index.result.now c.index-index.ensures c.args.table c.args.rows.now c.requires.join c.predicate-predicate.result.now c.if-index-table.false c.predicate-predicate.ensures in
    let few = of_table.few in
    record {
      fits = (c.requires.join.named.table.schema, (c.requires.join.fit, of_table.fits));
      few = omega arith;
      ranking = of_table.ranking;
    }

pub returns-in_err-grow_index-clause-grows : goal.returns-in_err-grow_index-clause-grows
returns-in_err-grow_index-clause-grows g c index at =
    let old = g.S.Scorer.state c.args.scorer.now in
    let new = g.S.Scorer.state c.grow_index.new.scorer in
    let stored = c.index-index.result.now in
    let fault = c.in_err-grow_index.field-0.0 in
    let of_table = stored-of_table c.self.inside.tables.entries c.self.inside.predicates.entries c.self.inside.indexes.entries c.self.invariant c.args.self.now c.self.view_is c.args.number c.index-index.result.now c.index-index.ensures c.args.table c.args.rows.now c.requires.join c.predicate-predicate.result.now c.if-index-table.false c.predicate-predicate.ensures in
    let asked : Inquires Memory (growing_index old.answer c.args.self.now c.args.table c.args.rows.now c.args.number (index_in stored)) (Err fault) old new =
    Inquires-own c.args.self.now c.args.table c.args.rows.now stored c.predicate-predicate.result.now c.requires.join of_table old.answer c.args.number c.if-index-table.false (Err fault) old new c.in_err-grow_index.ensures.grows in
    subst (λ (result : Result RankIndex GrowFault). Inquires Memory (growing_index old.answer c.args.self.now c.args.table c.args.rows.now c.args.number index) result old new)
    (sym (ap (as_renewed_or_same index) (given-err c.from_residual.result fault c.from_residual.ensures)))
    (subst (λ (index : RankIndex). Inquires Memory (growing_index old.answer c.args.self.now c.args.table c.args.rows.now c.args.number index) (Err fault) old new) (stored-same c.self.inside.tables.entries c.self.inside.predicates.entries c.self.inside.indexes.entries c.self.invariant c.args.self.now c.self.view_is c.args.number c.index-index.result.now c.index-index.ensures index at) asked)

pub returns-clause-grows : goal.returns-clause-grows
returns-clause-grows g c index at =
    let old = g.S.Scorer.state c.args.scorer.now in
    let new = g.S.Scorer.state c.grow_index.new.scorer in
    let stored = c.index-index.result.now in
    let ranking = (with_entries c.in_ok-grow_index.field-0.ranking.items (index_in stored)).ranking in
    let of_table = stored-of_table c.self.inside.tables.entries c.self.inside.predicates.entries c.self.inside.indexes.entries c.self.invariant c.args.self.now c.self.view_is c.args.number c.index-index.result.now c.index-index.ensures c.args.table c.args.rows.now c.requires.join c.predicate-predicate.result.now c.if-index-table.false c.predicate-predicate.ensures in
    let asked : Inquires Memory (growing_index old.answer c.args.self.now c.args.table c.args.rows.now c.args.number (index_in stored)) (Ok (record { def = stored.def; ranking = ranking })) old new =
    Inquires-own c.args.self.now c.args.table c.args.rows.now stored c.predicate-predicate.result.now c.requires.join of_table old.answer c.args.number c.if-index-table.false (Ok (record { def = stored.def; ranking = ranking })) old new
    c.in_ok-grow_index.ensures.grows in
    subst (λ (index : RankIndex). Inquires Memory (growing_index old.answer c.args.self.now c.args.table c.args.rows.now c.args.number index) (Ok (with_entries c.in_ok-grow_index.field-0.ranking.items index)) old new) (stored-same c.self.inside.tables.entries c.self.inside.predicates.entries c.self.inside.indexes.entries c.self.invariant c.args.self.now c.self.view_is c.args.number c.index-index.result.now c.index-index.ensures index at) asked

pub returns-clause-all : goal.returns-clause-all
returns-clause-all g c index at =
    let stored = c.index-index.result.now in
    let of_table = stored-of_table c.self.inside.tables.entries c.self.inside.predicates.entries c.self.inside.indexes.entries c.self.invariant c.args.self.now c.self.view_is c.args.number c.index-index.result.now c.index-index.ensures c.args.table c.args.rows.now c.requires.join c.predicate-predicate.result.now c.if-index-table.false c.predicate-predicate.ensures in
    subst (λ (index : RankIndex). IsGrown c.args.self.now c.args.table (length c.args.rows.now) index (Some c.in_ok-grow_index.field-0)) (stored-same c.self.inside.tables.entries c.self.inside.predicates.entries c.self.inside.indexes.entries c.self.invariant c.args.self.now c.self.view_is c.args.number c.index-index.result.now c.index-index.ensures index at)
    (IsGrown-own c.args.self.now c.args.table c.args.rows.now stored c.predicate-predicate.result.now c.requires.join of_table c.in_ok-grow_index.field-0 c.if-index-table.false c.in_ok-grow_index.ensures.ordered c.in_ok-grow_index.ensures.ranking c.in_ok-grow_index.ensures.scores)
