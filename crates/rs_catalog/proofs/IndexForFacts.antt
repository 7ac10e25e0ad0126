-- The index that is found for a table, a predicate and arguments is of these.
use Rattle.std.proofs.Common.{◌≡◌, ℕ, ◌&&◌, true, eqb, List, [], get_or}
use Rattle.std.specs.Prelude.{Some, slice_get}
use Rattle.std.proofs.lemmas.Bool.{and_parts, eqb-true}
use Rattle.std.proofs.lemmas.List.Quantifiers.{position-Some}
use Rattle.std.proofs.lemmas.Option.{slice_get-get_or}
use Rattle.rs_catalog.specs.Catalog.{CatalogDef, RankIndex}
use Rattle.rs_catalog.specs.Indexes.{index_of, is_for, same_args}
use Rattle.rs_catalog.specs.declared.index.BoundArg.{BoundArg}

-- the index that is found for a term
pub record IsIndexFor (catalogue : CatalogDef) (table predicate : ℕ) (args : List BoundArg) (entry index : ℕ) : Type 0 where
  pub found : RankIndex
  pub there : slice_get catalogue.indexes index ≡ Some found
  pub table_is : found.def.table ≡ table
  pub predicate_is : found.def.predicate ≡ predicate
  pub args_are : same_args entry args found.def.args ≡ true

no_index : RankIndex
no_index = record { def = record { name = []; table = 0; predicate = 0; args = [] }; ranking = [] }

pub index-for : (catalogue : CatalogDef) (table predicate : ℕ) (args : List BoundArg) (entry index : ℕ) → index_of table predicate args entry catalogue ≡ Some index
    → IsIndexFor catalogue table predicate args entry index
index-for catalogue table predicate args entry index first =
    let place = position-Some (λ (i : RankIndex). is_for table predicate args entry i.def) catalogue.indexes index no_index first in
    let found = get_or catalogue.indexes index no_index in
    let same = and_parts (eqb found.def.table table) (eqb found.def.predicate predicate && same_args entry args found.def.args) place.1 in
    let others = and_parts (eqb found.def.predicate predicate) (same_args entry args found.def.args) same.1 in
    record {
      found = found;
      there = slice_get-get_or catalogue.indexes index no_index place.0;
      table_is = eqb-true found.def.table table same.0;
      predicate_is = eqb-true found.def.predicate predicate others.0;
      args_are = others.1;
    }
