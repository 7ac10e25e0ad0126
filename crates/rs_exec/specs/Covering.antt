-- What the asks of a plan read of a catalogue: the tables of the query's FROM entries, and the predicates of its terms.
use Rattle.std.specs.Prelude.{◌<◌, length}
use Rattle.std.specs.List.{AllByRecursion}
use Rattle.rs_catalog.specs.Catalog.{CatalogDef}
use Rattle.rs_query.specs.WellFormed.{IsFromEntry}
use Rattle.rs_query.specs.declared.block.Block.{Block}
use Rattle.rs_query.specs.declared.query.Query.{Query}
use Rattle.rs_query.specs.declared.query.Query.TheVariants.{One, Set}
use Rattle.rs_query.specs.declared.term.Term.{Term}

-- the predicate of a term is one of the catalogue
abbrev pub HasPredicate : CatalogDef → Term → Type 0
HasPredicate catalogue term = term.predicate < length catalogue.predicates

-- the catalogue has the tables of a block's FROM entries, and the predicates of its terms
pub record CoversBlock (catalogue : CatalogDef) (block : Block) : Type 0 where
  pub entries : AllByRecursion (IsFromEntry catalogue) block.from
  pub terms : AllByRecursion (HasPredicate catalogue) block.terms

-- it has those of each block of a query
abbrev pub Covers : CatalogDef → Query → Type 0
Covers catalogue (One block limit) = CoversBlock catalogue block
Covers catalogue (Set op left right limit) = CoversBlock catalogue left × CoversBlock catalogue right
