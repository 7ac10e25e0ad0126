-- Rows that join a table: the calls for its rank indexes, and the indexes with the new rows.
use Rattle.std.specs.Prelude.{ℕ, zero, suc, ◌+◌, ◌==◌, ◌≡◌, ◌≤◌, true, List, [], ◌∷◌, ◌++◌, length, Some, slice_get, Result, Ok, Err, if◌then◌else◌}
use Rattle.std.specs.List.{AllByRecursion}
use Rattle.rs_value.specs.declared.value.Value.{Value}
use Rattle.rs_table.specs.Lent.{with_rows}
use Rattle.rs_table.specs.Relation.{most_rows, row_fits}
use Rattle.rs_expr.specs.InOrder.{Inquires, Inquiry, and_then}
use Rattle.rs_expr.specs.Predicates.{PredicateDef}
use Rattle.rs_expr.specs.Scores.{as_score, is_score}
use Rattle.rs_expr.specs.Scoring.{Answering, ScorerState, call_of}
use Rattle.rs_rank.specs.Stable.{stable}
use Rattle.rs_rank.specs.declared.scored_row.ScoredRow.{ScoredRow}
use Rattle.rs_catalog.specs.Catalog.{CatalogDef, NamedTable, RankIndex}
use Rattle.rs_catalog.specs.Indexes.{args_in, predicate_for, rows_for}
use Rattle.rs_catalog.specs.declared.growth.GrowFault.{GrowFault}
use Rattle.rs_catalog.specs.declared.growth.GrowFault.TheVariants.{BadScore, Memory, Probe}
use Rattle.rs_catalog.specs.declared.index.BoundArg.{BoundArg}

-- no call, and this outcome
abbrev pub comes_to : {A : Type 0} → A → Inquiry A GrowFault
comes_to a = record { requests = []; outcome = Ok a }

-- an inquiry about each item of a list in turn, up to the first fault; the first item has this number
abbrev pub in_turn : {X A : Type 0} → (ℕ → X → Inquiry A GrowFault) → ℕ → List X → Inquiry (List A) GrowFault
in_turn ask number [] = comes_to []
in_turn ask number (x ∷ xs) = and_then (ask number x) (λ a. and_then (in_turn ask (number + 1) xs) (λ others. comes_to (a ∷ others)))

-- the call for a new row at an index, and the row with its score
abbrev pub scoring_new : Answering → ℕ → PredicateDef → List BoundArg → ℕ → List Value → Inquiry ScoredRow GrowFault
scoring_new answer index predicate args row values =
    let got = answer predicate (args_in args values) in
    record {
      requests = record { call = call_of predicate (args_in args values); failed = Probe index } ∷ [];
      outcome = if is_score predicate.max got then Ok (record { score = as_score got; row = row }) else Err (BadScore index row got predicate.max);
    }

-- the calls for new rows, in their order; the first one has this number
abbrev pub scorings_new : Answering → ℕ → PredicateDef → List BoundArg → ℕ → List (List Value) → Inquiry (List ScoredRow) GrowFault
scorings_new answer index predicate args row rows = in_turn (scoring_new answer index predicate args) row rows

-- an index with new rows: by score, those of one score as they joined
abbrev pub with_entries : List ScoredRow → RankIndex → RankIndex
with_entries entries index = record index { ranking = stable (λ entry. entry.score) (index.ranking ++ entries) }

-- what becomes of one index as rows join a table; an index of another table stays
abbrev pub growing_index : Answering → CatalogDef → ℕ → List (List Value) → ℕ → RankIndex → Inquiry RankIndex GrowFault
growing_index answer catalogue table rows number index =
    if index.def.table == table
    then and_then (scorings_new answer number (predicate_for catalogue index.def) index.def.args (length (rows_for catalogue index.def) + 1) rows) (λ entries. comes_to (with_entries entries index))
    else comes_to index

-- rows join the table of this number: all indexes as they are then, asked about in the order of making, or the first fault
abbrev pub growing : Answering → CatalogDef → ℕ → List (List Value) → Inquiry (List RankIndex) GrowFault
growing answer catalogue table rows = in_turn (growing_index answer catalogue table rows) 0 catalogue.indexes

-- the tables, of which the one of this number has these rows behind its own
abbrev pub with_rows_in : ℕ → List (List Value) → List NamedTable → List NamedTable
with_rows_in number rows [] = []
with_rows_in zero rows (named ∷ rest) = record named { table = with_rows rows named.table } ∷ rest
with_rows_in (suc number) rows (named ∷ rest) = named ∷ with_rows_in number rows rest

-- the catalogue in which the rows have joined
abbrev pub grown : ℕ → List (List Value) → List RankIndex → CatalogDef → CatalogDef
grown table rows indexes catalogue = record catalogue { tables = with_rows_in table rows catalogue.tables; indexes = indexes }

-- rows may join a table: they fit its columns, and there is room for them
pub record CanJoin (catalogue : CatalogDef) (table : ℕ) (rows : List (List Value)) : Type 0 where
  pub named : NamedTable
  pub has_table : slice_get catalogue.tables table ≡ Some named
  pub fit : AllByRecursion (λ row. row_fits named.table.schema row ≡ true) rows
  pub few : length named.table.rows + length rows ≤ most_rows

-- what is answered of such a result
abbrev pub without_indexes : Result (List RankIndex) GrowFault → Result (Unit {0}) GrowFault
without_indexes (Ok indexes) = Ok tt
without_indexes (Err fault) = Err fault

-- the catalogue behind such a result: the rows and the indexes have joined it, or it is as before
abbrev pub catalogue_grown : ℕ → List (List Value) → Result (List RankIndex) GrowFault → CatalogDef → CatalogDef
catalogue_grown table rows (Ok indexes) catalogue = grown table rows indexes catalogue
catalogue_grown table rows (Err fault) catalogue = catalogue

-- the rows and what became of the indexes joined the catalogue, or nothing did, and its fault is answered
pub record GrowsBy (table : ℕ) (rows : List (List Value)) (old new : CatalogDef) (result : Result (Unit {0}) GrowFault) (before after : ScorerState) : Type 0 where
  pub indexes : Result (List RankIndex) GrowFault
  pub inquires : Inquires Memory (growing before.answer old table rows) indexes before after
  pub answers : result ≡ without_indexes indexes
  pub joins : new ≡ catalogue_grown table rows indexes old
