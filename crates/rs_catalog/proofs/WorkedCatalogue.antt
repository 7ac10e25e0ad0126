-- A catalogue worked by hand: its names, the room for more of them, and the index of a term.
use Rattle.std.proofs.Common.{◌≡◌, ℕ, pos, List, [], ◌∷◌, map, codes, Some, None, Ok, Err, refl}
use Rattle.std.specs.List.{range_with_len}
use Rattle.rs_value.specs.declared.kind.Kind.TheVariants as kind
use Rattle.rs_table.specs.Relation.{Relation}
use Rattle.rs_expr.specs.Formulas.{Argument}
use Rattle.rs_expr.specs.Predicates.{PredicateDef}
use Rattle.rs_catalog.specs.Catalog.{CatalogDef, empty, names_of, number_named, room_for, with_index, with_predicate, with_table}
use Rattle.rs_catalog.specs.Indexes.{index_of, ranking_at}
use Rattle.rs_catalog.specs.declared.index.BoundArg.TheVariants.{Column, Int, Text}
use Rattle.rs_catalog.specs.declared.index.IndexDef.{IndexDef}
use Rattle.rs_catalog.specs.declared.room.RoomFault.TheVariants.{NameTaken, Full}
use Rattle.rs_catalog.specs.declared.room.What.TheVariants.{Table, Predicate, Index}

-- a table without a row, and a predicate
abbrev houses : Relation
houses = record { schema = (codes "price", kind.Int) ∷ (codes "city", kind.Text) ∷ []; rows = [] }

abbrev near : PredicateDef
near = record { name = codes "near"; params = kind.Int ∷ kind.Int ∷ []; max = 100; cost = 5; formula = Argument 0 }

-- two tables whose names differ by case, and a predicate
abbrev session : CatalogDef
session = with_predicate near (with_table (codes "Houses") houses (with_table (codes "houses") houses empty))

tables_in_order : names_of Table session ≡ codes "houses" ∷ codes "Houses" ∷ []
tables_in_order = refl

-- names are found as they are written, and from 0
first : number_named Table (codes "houses") session ≡ Some 0
first = refl

second : number_named Table (codes "Houses") session ≡ Some 1
second = refl

another_case : number_named Table (codes "HOUSES") session ≡ None
another_case = refl

a_beginning : number_named Table (codes "house") session ≡ None
a_beginning = refl

a_predicate : number_named Predicate (codes "near") session ≡ Some 0
a_predicate = refl

not_a_predicate : number_named Predicate (codes "houses") session ≡ None
not_a_predicate = refl

-- a name may be in each list once
taken : room_for Table (codes "houses") session ≡ Err NameTaken
taken = refl

taken_second : room_for Table (codes "Houses") session ≡ Err NameTaken
taken_second = refl

free_by_case : room_for Table (codes "hOUSES") session ≡ Ok tt
free_by_case = refl

taken_elsewhere : room_for Index (codes "near") session ≡ Ok tt
taken_elsewhere = refl

-- tables whose names are of one byte, from 0 on
abbrev tables_named : ℕ → CatalogDef
tables_named count = record { tables = map (λ n. record { name = n ∷ []; table = houses }) (range_with_len 0 count); predicates = []; indexes = [] }

sixteenth : room_for Table (codes "x") (tables_named 15) ≡ Ok tt
sixteenth = refl

seventeenth : room_for Table (codes "x") (tables_named 16) ≡ Err Full
seventeenth = refl

taken_before_full : room_for Table (15 ∷ []) (tables_named 16) ≡ Err NameTaken
taken_before_full = refl

full_of_tables_alone : room_for Predicate (codes "x") (tables_named 16) ≡ Ok tt
full_of_tables_alone = refl

-- indexes of the first table: by a constant of 7, of 8, of 7 again, and of the second one
abbrev index : List ℕ → ℕ → ℕ → IndexDef
index name table constant = record { name = name; table = table; predicate = 0; args = Column 1 0 ∷ Int (pos constant) ∷ [] }

abbrev indexed : CatalogDef
indexed =
    with_index (index (codes "d") 1 7) [] (with_index (index (codes "c") 0 7) [] (with_index (index (codes "b") 0 8) (record { score = 3; row = 1 } ∷ []) (with_index (index (codes "a") 0 7) [] session)))

first_of_equal : index_of 0 0 (Column 1 0 ∷ Int (pos 7) ∷ []) 1 indexed ≡ Some 0
first_of_equal = refl

by_constant : index_of 0 0 (Column 1 0 ∷ Int (pos 8) ∷ []) 1 indexed ≡ Some 1
by_constant = refl

no_such_constant : index_of 0 0 (Column 1 0 ∷ Int (pos 9) ∷ []) 1 indexed ≡ None
no_such_constant = refl

of_the_second_table : index_of 1 0 (Column 1 0 ∷ Int (pos 7) ∷ []) 1 indexed ≡ Some 3
of_the_second_table = refl

-- a term may read the table as another entry, and reads each column from that one
of_another_entry : index_of 0 0 (Column 3 0 ∷ Int (pos 8) ∷ []) 3 indexed ≡ Some 1
of_another_entry = refl

of_a_different_entry : index_of 0 0 (Column 3 0 ∷ Int (pos 8) ∷ []) 2 indexed ≡ None
of_a_different_entry = refl

of_another_column : index_of 0 0 (Column 1 1 ∷ Int (pos 8) ∷ []) 1 indexed ≡ None
of_another_column = refl

-- a column is no constant, and a text no number
no_constant : index_of 0 0 (Column 1 0 ∷ Column 1 0 ∷ []) 1 indexed ≡ None
no_constant = refl

no_number : index_of 0 0 (Column 1 0 ∷ Text (codes "7") ∷ []) 1 indexed ≡ None
no_number = refl

too_few : index_of 0 0 (Column 1 0 ∷ []) 1 indexed ≡ None
too_few = refl

another_predicate : index_of 0 1 (Column 1 0 ∷ Int (pos 7) ∷ []) 1 indexed ≡ None
another_predicate = refl

-- each index has its own ranking
rows_of_one : ranking_at indexed 1 ≡ record { score = 3; row = 1 } ∷ []
rows_of_one = refl
