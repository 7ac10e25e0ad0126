-- The indexes of a catalogue go on to hold a scorer's answers where it grows.
use Rattle.std.proofs.Common.{◌≡◌, ◌∙◌, ℕ, List, [], ◌∷◌, ◌++◌, length-append, inl, inr, pos, sym, subst, arith}
use Rattle.std.specs.Prelude.{◌⊎◌, Result, Ok, Err, option_map, unwrap_or}
use Rattle.std.specs.List.{AllByRecursion}
use Rattle.std.proofs.lemmas.Option.{slice_get_within}
use Rattle.rs_table.specs.Relation.{Relation}
use Rattle.rs_expr.specs.Formulas.{Constant}
use Rattle.rs_expr.specs.InOrder.{InquiryEnds, InquiryFails, InquiryStops}
use Rattle.rs_expr.specs.Predicates.{PredicateDef}
use Rattle.rs_expr.specs.Scoring.{Answering, ScorerState}
use Rattle.rs_rank.specs.declared.scored_row.ScoredRow.{ScoredRow}
use Rattle.rs_catalog.specs.Catalog.{CatalogDef, NamedTable, RankIndex, with_index, with_predicate, with_table}
use Rattle.rs_catalog.specs.IndexesHold.{IndexesHold, IndexHolds}
use Rattle.rs_catalog.specs.Indexes.{IsIndex, making, making_of}
use Rattle.rs_catalog.specs.Making.{MakesIndex, catalogue_after}
use Rattle.rs_catalog.specs.declared.index.IndexDef.{IndexDef}
use Rattle.rs_catalog.specs.declared.index.IndexFault.{IndexFault}
use Rattle.rs_catalog.specs.declared.index.IndexFault.TheVariants.{Memory}
use Rattle.rs_order.proofs.EachFacts.{each-push, each-weaker}
use Rattle.rs_catalog.proofs.JoinedFacts.{joined, joined-index, joined-predicate, joined-table, only_index, only_predicate, only_table, slice_get-front}

-- an index goes on to hold the answers behind what joins
held-larger : (catalogue more : CatalogDef) (answer : Answering) (index : RankIndex) → IndexHolds answer catalogue index → IndexHolds answer (joined catalogue more) index
held-larger catalogue more answer index held =
    let predicate = slice_get-front catalogue.predicates more.predicates index.def.predicate held.predicate in
    let table = slice_get-front catalogue.tables more.tables index.def.table held.table in
    let same : making answer (joined catalogue more) index.def ≡ making answer catalogue index.def = λ i.
    making_of answer (unwrap_or (predicate i) (record { name = []; params = []; max = 0; cost = 0; formula = Constant (pos 0) })) index.def.args (unwrap_or (option_map (λ (t : NamedTable). t.table.rows) (table i)) []) in
    let all_tables = length-append catalogue.tables more.tables in
    let all_predicates = length-append catalogue.predicates more.predicates in
    record {
      table = omega arith;
      predicate = omega arith;
      holds = (λ i. (same i).outcome) ∙ held.holds;
    }

all-larger : (catalogue more : CatalogDef) (answer : Answering) → IndexesHold answer catalogue → AllByRecursion (IndexHolds answer (joined catalogue more)) catalogue.indexes
all-larger catalogue more answer held =
    each-weaker (IndexHolds answer catalogue) (IndexHolds answer (joined catalogue more)) (held-larger catalogue more answer) catalogue.indexes held

-- a table, a predicate or an index with these answers joins
pub held-with_table : (catalogue : CatalogDef) (answer : Answering) (name : List ℕ) (table : Relation) → IndexesHold answer catalogue → IndexesHold answer (with_table name table catalogue)
held-with_table catalogue answer name table held =
    let more = only_table name table in
    subst (λ (larger : CatalogDef). AllByRecursion (IndexHolds answer larger) catalogue.indexes) (joined-table catalogue name table) (all-larger catalogue more answer held)

pub held-with_predicate : (catalogue : CatalogDef) (answer : Answering) (predicate : PredicateDef) → IndexesHold answer catalogue → IndexesHold answer (with_predicate predicate catalogue)
held-with_predicate catalogue answer predicate held =
    let more = only_predicate predicate in
    subst (λ (larger : CatalogDef). AllByRecursion (IndexHolds answer larger) catalogue.indexes) (joined-predicate catalogue predicate) (all-larger catalogue more answer held)

pub held-with_index : (catalogue : CatalogDef) (answer : Answering) (def : IndexDef) (ranking : List ScoredRow) → IsIndex catalogue def
    → (making answer catalogue def).outcome ≡ Ok ranking → IndexesHold answer catalogue → IndexesHold answer (with_index def ranking catalogue)
held-with_index catalogue answer def ranking is makes held =
    let more = only_index def ranking in
    let index : RankIndex = record { def = def; ranking = ranking } in
    let last : IndexHolds answer catalogue index = record {
      table = slice_get_within catalogue.tables def.table is.table is.has_table;
      predicate = slice_get_within catalogue.predicates def.predicate is.predicate is.has_predicate;
      holds = makes;
    } in
    subst (λ (larger : CatalogDef). AllByRecursion (IndexHolds answer larger) (catalogue.indexes ++ index ∷ [])) (joined-index catalogue def ranking)
    (each-push (IndexHolds answer (joined catalogue more)) catalogue.indexes index (all-larger catalogue more answer held) (held-larger catalogue more answer index last))

-- so do they where an index is made, whatever comes of it, for the scorer behind the calls
pub held-makes : (catalogue new : CatalogDef) (def : IndexDef) (result : Result (Unit {0}) IndexFault) (before after : ScorerState) → IsIndex catalogue def
    → IndexesHold before.answer catalogue → MakesIndex (making before.answer catalogue def) def catalogue new result before after → IndexesHold after.answer new
held-makes catalogue new def result before after is held makes =
    subst (λ (answer : Answering). IndexesHold answer new) (sym makes.inquires.keeps.answer)
    (subst (IndexesHold before.answer) (sym makes.joins) (go makes.ranking makes.inquires.comes)) where
      go : (ranking : Result (List ScoredRow) IndexFault)
          → (InquiryEnds (making before.answer catalogue def) ranking before after ⊎ InquiryFails (making before.answer catalogue def) ranking before after)
          ⊎ InquiryStops Memory (making before.answer catalogue def) ranking before after
          → IndexesHold before.answer (catalogue_after def ranking catalogue)
      go (Err fault) comes = held
      go (Ok ranking) (inl (inl ends)) = held-with_index catalogue before.answer def ranking is (sym ends.gives) held
      go (Ok ranking) (inl (inr fails)) = let gives = fails.gives in cc
      go (Ok ranking) (inr stops) = let gives = stops.gives in cc
