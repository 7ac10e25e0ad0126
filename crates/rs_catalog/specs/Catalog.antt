-- The catalogue: tables, predicates and rank indexes, each list in the order of making.
use Rattle.std.specs.Prelude.{ℕ, ◌==◌, Bool, List, [], ◌∷◌, ◌++◌, length, map, position, Option, Result, Ok, Err, if◌then◌else◌}
use Rattle.std.specs.List.{list_any}
use Rattle.std.specs.Str.{bytes_eq}
use Rattle.rs_table.specs.Relation.{Relation}
use Rattle.rs_expr.specs.Predicates.{PredicateDef}
use Rattle.rs_catalog.specs.declared.index.IndexDef.{IndexDef}
use Rattle.rs_rank.specs.declared.scored_row.ScoredRow.{ScoredRow}
use Rattle.rs_catalog.specs.declared.room.What.{What}
use Rattle.rs_catalog.specs.declared.room.What.TheVariants.{Table, Predicate, Index}
use Rattle.rs_catalog.specs.declared.room.RoomFault.{RoomFault}
use Rattle.rs_catalog.specs.declared.room.RoomFault.TheVariants.{NameTaken, Full}

pub record NamedTable : Type 0 where
  pub name : List ℕ
  pub table : Relation

-- a rank index: what it is of, and its rows with their scores, the first one the best
pub record RankIndex : Type 0 where
  pub def : IndexDef
  pub ranking : List ScoredRow

-- what a session has made: three lists, each in the order of making
pub record CatalogDef : Type 0 where
  pub tables : List NamedTable
  pub predicates : List PredicateDef
  pub indexes : List RankIndex

abbrev pub empty : CatalogDef
empty = record { tables = []; predicates = []; indexes = [] }

-- the names of one list
abbrev pub names_of : What → CatalogDef → List (List ℕ)
names_of Table catalogue = map (λ t. t.name) catalogue.tables
names_of Predicate catalogue = map (λ p. p.name) catalogue.predicates
names_of Index catalogue = map (λ i. i.def.name) catalogue.indexes

-- the most that one list may have
abbrev pub most_of : What → ℕ
most_of Table = 16
most_of Predicate = 64
most_of Index = 64

-- the greatest maximum that a predicate may have
abbrev pub greatest_max : ℕ
greatest_max = 4294967295

-- the number of a name in a list of names, counted from 0
abbrev pub place_of_name : List ℕ → List (List ℕ) → Option ℕ
place_of_name name names = position (λ other. bytes_eq other name) names

-- the number of what has this name
abbrev pub number_named : What → List ℕ → CatalogDef → Option ℕ
number_named what name catalogue = place_of_name name (names_of what catalogue)

-- whether a list of names has this one
abbrev pub has_name : List ℕ → List (List ℕ) → Bool
has_name name names = list_any (λ other. bytes_eq other name) names

-- whether one more name may join a list of at most this many, or why not
abbrev pub room_in : List ℕ → ℕ → List (List ℕ) → Result (Unit {0}) RoomFault
room_in name most names =
    if has_name name names then Err NameTaken
    else if length names == most then Err Full
    else Ok tt

-- whether one more of this name may join a list of the catalogue, or why not
abbrev pub room_for : What → List ℕ → CatalogDef → Result (Unit {0}) RoomFault
room_for what name catalogue = room_in name (most_of what) (names_of what catalogue)

-- a catalogue with a table more, behind the others; with a predicate more; and with an index more
abbrev pub with_table : List ℕ → Relation → CatalogDef → CatalogDef
with_table name table catalogue = record catalogue { tables = catalogue.tables ++ record { name = name; table = table } ∷ [] }

abbrev pub with_predicate : PredicateDef → CatalogDef → CatalogDef
with_predicate predicate catalogue = record catalogue { predicates = catalogue.predicates ++ predicate ∷ [] }

abbrev pub with_index : IndexDef → List ScoredRow → CatalogDef → CatalogDef
with_index def ranking catalogue = record catalogue { indexes = catalogue.indexes ++ record { def = def; ranking = ranking } ∷ [] }
