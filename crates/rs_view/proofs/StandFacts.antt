-- When views stand: as their catalogue grows, over all rows, and over no rows.
use Rattle.std.proofs.Common.{ℕ, ◌∙◌, List, [], map, take, refl, sym, ap}
use Rattle.rs_expr.specs.Scoring.{Answering}
use Rattle.rs_catalog.specs.Catalog.{CatalogDef}
use Rattle.rs_query.specs.Blocks.{block_in}
use Rattle.rs_query.specs.Growth.{CatalogueGrows, IsSizes, IsViewOf}
use Rattle.rs_query.specs.Tables.{sizes_of}
use Rattle.rs_query.specs.WellFormed.{IsQuery}
use Rattle.rs_query.specs.declared.query.Query.{Query}
use Rattle.rs_query.specs.declared.query.Query.TheVariants.{One, Set}
use Rattle.rs_query.proofs.BlockFacts.{block-formed}
use Rattle.rs_query.proofs.GrownAnswerFacts.{answer_of-grows}
use Rattle.rs_query.proofs.GrowthFacts.{IsSizes-all, query-grows, view-grows}
use Rattle.rs_view.specs.Views.{IsKeepable, Stands, ViewDef, most_kept, view_of, without_values}

-- the lengths of a view of one block are a view of its query
view-sizes : (catalogue : CatalogDef) (query : Query) (lengths : List ℕ) → IsKeepable query → IsSizes catalogue (block_in query 1) lengths
    → IsViewOf catalogue query (record { first = lengths; second = [] })
view-sizes catalogue (One block limit) lengths all is = is
view-sizes catalogue (Set op left right limit) lengths all is = absurd all

sizes-view : (catalogue : CatalogDef) (query : Query) (lengths : List ℕ) → IsKeepable query → IsViewOf catalogue query (record { first = lengths; second = [] })
    → IsSizes catalogue (block_in query 1) lengths
sizes-view catalogue (One block limit) lengths all is = is
sizes-view catalogue (Set op left right limit) lengths all is = absurd all

-- a catalogue that grows
pub Stands-grown : (answer : Answering) (old new : CatalogDef) (view : ViewDef) → CatalogueGrows old new → Stands answer old view → Stands answer new view
Stands-grown answer old new view grows stands =
    let is = view-sizes old view.query view.lengths stands.keepable stands.lengths in
    record {
      query = query-grows old new grows view.query stands.query;
      keepable = stands.keepable;
      lengths = sizes-view new view.query view.lengths stands.keepable (view-grows old new grows view.query (record { first = view.lengths; second = [] }) is);
      rows = stands.rows
          ∙ ap (λ rows. map without_values (take (most_kept view.query) rows)) (sym (answer_of-grows old new grows answer view.query (record { first = view.lengths; second = [] }) stands.query is));
    }

-- a view over all rows
pub Stands-whole : (answer : Answering) (catalogue : CatalogDef) (query : Query) → IsQuery catalogue query → IsKeepable query
    → Stands answer catalogue (view_of answer catalogue query (sizes_of catalogue (block_in query 1)))
Stands-whole answer catalogue query formed all = record {
  query = formed;
  keepable = all;
  lengths = IsSizes-all catalogue (block_in query 1) (block-formed catalogue query 1 formed);
  rows = refl;
}
