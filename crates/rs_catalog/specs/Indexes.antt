-- Rank indexes: what they are of, and their rows by score.
use Rattle.std.specs.Prelude.{ℕ, ℤ, pos, nat_abs, nat_le, ◌+◌, ◌-◌, ◌≡◌, ◌≤◌, ◌<◌, ◌==◌, ◌&&◌, ◌⊎◌, Bool, true, false, List, [], ◌∷◌, length, map, position, take, Option, None, Some, option_map, slice_get, unwrap_or, Result, Ok, Err, if◌then◌else◌}
use Rattle.std.specs.List.{AllByRecursion}
use Rattle.std.specs.Ordering.{int_eq}
use Rattle.std.specs.Str.{bytes_eq}
use Rattle.rs_value.specs.Number.{greatest_int}
use Rattle.rs_value.specs.declared.kind.Kind.{Kind}
use Rattle.rs_value.specs.declared.kind.Kind.TheVariants as kind
use Rattle.rs_value.specs.declared.value.Value.{Value}
use Rattle.rs_value.specs.declared.value.Value.TheVariants as value
use Rattle.rs_table.specs.Column.{Column}
use Rattle.rs_rank.specs.Stable.{stable}
use Rattle.rs_expr.specs.Formulas.{Constant}
use Rattle.rs_expr.specs.Predicates.{PredicateDef}
use Rattle.rs_expr.specs.Scores.{is_score, as_score}
use Rattle.rs_expr.specs.Scoring.{Answering, call_of}
use Rattle.rs_expr.specs.InOrder.{Inquiry, Request}
use Rattle.rs_expr.specs.Uses.{is_kind}
use Rattle.rs_catalog.specs.Catalog.{CatalogDef, NamedTable}
use Rattle.rs_catalog.specs.declared.index.BoundArg.{BoundArg}
use Rattle.rs_catalog.specs.declared.index.BoundArg.TheVariants as arg
use Rattle.rs_catalog.specs.declared.index.IndexDef.{IndexDef}
use Rattle.rs_rank.specs.declared.scored_row.ScoredRow.{ScoredRow}
use Rattle.rs_catalog.specs.declared.index.IndexFault.{IndexFault}
use Rattle.rs_catalog.specs.declared.index.IndexFault.TheVariants.{BadScore, Probe}

-- an argument of an index over these columns has this kind: a column of entry 1, or a number in range, or a text
abbrev pub arg_fits : List Column → Kind → BoundArg → Bool
arg_fits columns kind (arg.Column entry column) = (entry == 1) && is_kind kind (option_map (λ c. c.1) (slice_get columns column))
arg_fits columns kind.Int (arg.Int n) = nat_le (nat_abs n) greatest_int
arg_fits columns kind.Text (arg.Int n) = false
arg_fits columns kind.Text (arg.Text t) = true
arg_fits columns kind.Int (arg.Text t) = false

abbrev pub args_fit : List Column → List Kind → List BoundArg → Bool
args_fit columns [] [] = true
args_fit columns [] (a ∷ args) = false
args_fit columns (kind ∷ kinds) [] = false
args_fit columns (kind ∷ kinds) (a ∷ args) = arg_fits columns kind a && args_fit columns kinds args

-- an index is of a table and a predicate of the catalogue, and its arguments are those that the predicate takes
pub record IsIndex (catalogue : CatalogDef) (def : IndexDef) : Type 0 where
  pub table : NamedTable
  pub has_table : slice_get catalogue.tables def.table ≡ Some table
  pub predicate : PredicateDef
  pub has_predicate : slice_get catalogue.predicates def.predicate ≡ Some predicate
  pub fits : args_fit table.table.schema predicate.params def.args ≡ true

-- the value that an argument has for a row
abbrev pub arg_value : List Value → BoundArg → Value
arg_value row (arg.Column entry column) = unwrap_or (slice_get row column) (value.Int (pos 0))
arg_value row (arg.Int n) = value.Int n
arg_value row (arg.Text t) = value.Text t

abbrev pub args_in : List BoundArg → List Value → List Value
args_in args row = map (arg_value row) args

-- the row of this number, counted from 1
abbrev pub row_at : List (List Value) → ℕ → List Value
row_at rows row = unwrap_or (slice_get rows (row - 1)) []

-- the rows, from the row of this number on, each with its score, or the first one whose number is no score
abbrev pub scored_from : (List Value → ℤ) → ℕ → ℕ → List (List Value) → Result (List ScoredRow) IndexFault
scored_from answer max row [] = Ok []
scored_from answer max row (values ∷ rest) =
    if is_score max (answer values) then behind (record { score = as_score (answer values); row = row }) (scored_from answer max (row + 1) rest)
    else Err (BadScore row (answer values) max) where
      behind : ScoredRow → Result (List ScoredRow) IndexFault → Result (List ScoredRow) IndexFault
      behind entry (Ok entries) = Ok (entry ∷ entries)
      behind entry (Err fault) = Err fault

-- rows by score, greatest first, those of one score as they stood
abbrev pub ranking_of : Result (List ScoredRow) IndexFault → Result (List ScoredRow) IndexFault
ranking_of (Ok entries) = Ok (stable (λ entry. entry.score) entries)
ranking_of (Err fault) = Err fault

-- the rows that are asked for: all, or those up to the first bad one
abbrev pub asked_rows : Result (List ScoredRow) IndexFault → List (List Value) → List (List Value)
asked_rows (Err (BadScore row got max)) rows = take row rows
asked_rows _ rows = rows

-- the request for a row: its call, which ends all where it fails
abbrev pub row_request : PredicateDef → List BoundArg → List Value → Request IndexFault
row_request predicate args row = record { call = call_of predicate (args_in args row); failed = Probe }

-- making an index: the calls, one a row, in the order of the rows, and its rows by score, or the first bad score
abbrev pub making_of : Answering → PredicateDef → List BoundArg → List (List Value) → Inquiry (List ScoredRow) IndexFault
making_of answer predicate args rows =
    let scored = scored_from (λ row. answer predicate (args_in args row)) predicate.max 1 rows in
    record { requests = map (row_request predicate args) (asked_rows scored rows); outcome = ranking_of scored }

-- the rows and the predicate of an index
abbrev pub rows_for : CatalogDef → IndexDef → List (List Value)
rows_for catalogue def = unwrap_or (option_map (λ t. t.table.rows) (slice_get catalogue.tables def.table)) []

abbrev pub predicate_for : CatalogDef → IndexDef → PredicateDef
predicate_for catalogue def =
    unwrap_or (slice_get catalogue.predicates def.predicate) (record { name = []; params = []; max = 0; cost = 0; formula = Constant (pos 0) })

-- making an index of a catalogue
abbrev pub making : Answering → CatalogDef → IndexDef → Inquiry (List ScoredRow) IndexFault
making answer catalogue def = making_of answer (predicate_for catalogue def) def.args (rows_for catalogue def)

-- the ranking of the index of this number
abbrev pub ranking_at : CatalogDef → ℕ → List ScoredRow
ranking_at catalogue number = unwrap_or (option_map (λ i. i.ranking) (slice_get catalogue.indexes number)) []

-- the score that a row has in a ranking
abbrev pub score_in : ℕ → List ScoredRow → Option ℕ
score_in row [] = None
score_in row (entry ∷ rest) = if entry.row == row then Some entry.score else score_in row rest

-- an entry comes before another one: its score is greater, or they are equal and its row is an earlier one
abbrev pub EntryPrecedes : ScoredRow → ScoredRow → Type 0
EntryPrecedes a b = (b.score < a.score) ⊎ ((a.score ≡ b.score) × (a.row < b.row))

-- each entry comes before all behind it
abbrev pub EntriesInOrder : List ScoredRow → Type 0
EntriesInOrder [] = Unit {0}
EntriesInOrder (a ∷ rest) = AllByRecursion (EntryPrecedes a) rest × EntriesInOrder rest

-- no row stands twice
abbrev pub RowsDiffer : List ScoredRow → Type 0
RowsDiffer [] = Unit {0}
RowsDiffer (a ∷ rest) = AllByRecursion (λ b. a.row ≡ b.row → ⊥) rest × RowsDiffer rest

-- an entry has a row of the table, and a score
pub record IsIndexEntry (rows max : ℕ) (entry : ScoredRow) : Type 0 where
  pub some : 1 ≤ entry.row
  pub within : entry.row ≤ rows
  pub scored : entry.score ≤ max

-- a ranking of a table of this many rows has each row once, by score, the greatest first, then by number, and no score above the greatest
pub record IsRanking (rows max : ℕ) (ranking : List ScoredRow) : Type 0 where
  pub all : length ranking ≡ rows
  pub each : AllByRecursion (IsIndexEntry rows max) ranking
  pub differ : RowsDiffer ranking
  pub ordered : EntriesInOrder ranking

-- the fault names the first row whose number is no score, and that number; all rows before it have scores
pub record IsFirstBad (answer : List Value → ℤ) (max : ℕ) (rows : List (List Value)) (fault : IndexFault) : Type 0 where
  pub row : ℕ
  pub some : 1 ≤ row
  pub within : row ≤ length rows
  pub fault_is : fault ≡ BadScore row (answer (row_at rows row)) max
  pub bad : is_score max (answer (row_at rows row)) ≡ false
  pub earlier : AllByRecursion (λ values. is_score max (answer values) ≡ true) (take (row - 1) rows)

-- an argument of a query's term is that of an index: the same column, the term's one of FROM entry `entry`; or an equal constant
abbrev pub same_arg : ℕ → BoundArg → BoundArg → Bool
same_arg entry (arg.Column e column) (arg.Column f other) = (e == entry) && ((f == 1) && (column == other))
same_arg entry (arg.Int n) (arg.Int m) = int_eq n m
same_arg entry (arg.Text t) (arg.Text u) = bytes_eq t u
same_arg entry _ _ = false

abbrev pub same_args : ℕ → List BoundArg → List BoundArg → Bool
same_args entry [] [] = true
same_args entry [] (b ∷ bs) = false
same_args entry (a ∷ as_) [] = false
same_args entry (a ∷ as_) (b ∷ bs) = same_arg entry a b && same_args entry as_ bs

-- an index is of this table and predicate and these arguments
abbrev pub is_for : ℕ → ℕ → List BoundArg → ℕ → IndexDef → Bool
is_for table predicate args entry def = (def.table == table) && ((def.predicate == predicate) && same_args entry args def.args)

-- the number of the first such index, counted from 0
abbrev pub index_of : ℕ → ℕ → List BoundArg → ℕ → CatalogDef → Option ℕ
index_of table predicate args entry catalogue = position (λ i. is_for table predicate args entry i.def) catalogue.indexes
