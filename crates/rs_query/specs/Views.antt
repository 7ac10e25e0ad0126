-- Views: how many rows of each FROM entry a query sees. Tables may grow after a query was asked, and what they gain it doesn't see.
use Rattle.std.specs.Prelude.{ℕ, List, []}
use Rattle.rs_catalog.specs.Catalog.{CatalogDef}
use Rattle.rs_query.specs.Tables.{sizes_of}
use Rattle.rs_query.specs.declared.query.Query.{Query}
use Rattle.rs_query.specs.declared.query.Query.TheVariants.{One, Set}

-- the numbers of rows of the entries of the first block, and of those of the second one, where there is one
pub record View : Type 0 where
  pub first : List ℕ
  pub second : List ℕ

-- all rows that the tables have
abbrev pub all_rows : CatalogDef → Query → View
all_rows catalogue (One block limit) = record { first = sizes_of catalogue block; second = [] }
all_rows catalogue (Set op left right limit) = record { first = sizes_of catalogue left; second = sizes_of catalogue right }
