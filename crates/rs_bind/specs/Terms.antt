-- One term of ORDER BY, and what is known of its columns and of the output columns.
use Rattle.std.specs.Prelude.{ℕ, ◌≡◌, ◌≤◌, ◌<◌, ◌-◌, Bool, true, List, length, Option, Some, slice_get, Result, Ok, Err, if◌then◌else◌}
use Rattle.std.specs.List.{list_any}
use Rattle.rs_syntax.specs.declared.select.TermSyn.{TermSyn}
use Rattle.rs_value.specs.Results.{◌>>=◌}
use Rattle.rs_catalog.specs.Catalog.{CatalogDef, number_named}
use Rattle.rs_catalog.specs.declared.index.BoundArg.{BoundArg}
use Rattle.rs_catalog.specs.declared.index.BoundArg.TheVariants as bound
use Rattle.rs_catalog.specs.declared.room.What.TheVariants as what
use Rattle.rs_query.specs.WellFormed.{argument_columns, entries_mask, same_column}
use Rattle.rs_query.specs.declared.term.Term.{Term}
use Rattle.rs_typing.specs.declared.fault.BindFault.{BindFault}
use Rattle.rs_typing.specs.declared.fault.BindFault.TheVariants.{At}
use Rattle.rs_typing.specs.declared.fault.Why.TheVariants.{DistinctNeedsOutput, NoPredicate}
use Rattle.rs_typing.specs.Missing.{or_fault}
use Rattle.rs_bind.specs.Indexes.{Entries, params_in, term_args}
use Rattle.rs_bind.specs.Names.{number_in}
use Rattle.rs_bind.specs.Queries.{are_outputs, max_in, most_weight}
use Rattle.rs_bind.specs.Sources.{Found, Source}

-- a term: its weight, its predicate, its arguments, and whether its columns are output columns where they have to be
abbrev pub term_of : CatalogDef → Entries → Option (List Found) → TermSyn → Result Term BindFault
term_of catalogue entries needed term = do
  weight ← number_in 1 most_weight term.weight
  predicate ← or_fault (At NoPredicate term.predicate.at) (number_named what.Predicate term.predicate.text catalogue)
  args ← term_args entries (params_in catalogue predicate) term.args term.at
  if are_outputs needed (argument_columns args) then Ok (record {
    weight = weight;
    predicate = predicate;
    args = args;
    max = max_in catalogue predicate;
    entries = entries_mask (argument_columns args);
  }) else Err (At DistinctNeedsOutput term.at)

-- where an argument is a column, it is one of these output columns
abbrev pub is_output : List Found → BoundArg → Bool
is_output items (bound.Column entry column) = list_any (λ (item : Found). same_column (entry, column) item.0) items
is_output items (bound.Int n) = true
is_output items (bound.Text text) = true

-- the entry of a column is one of six
abbrev pub IsEntryColumn : ℕ × ℕ → Type 0
IsEntryColumn column = (1 ≤ column.0) × (column.0 ≤ 6)

-- the entry of an output column is one of six
abbrev pub IsEntryItem : Found → Type 0
IsEntryItem item = (1 ≤ item.0.0) × (item.0.0 ≤ 6)

-- a column of one of these entries
abbrev pub IsColumnOf : List Source → ℕ × ℕ → Type 0
IsColumnOf sources column = (1 ≤ column.0) × ((source : Source) × (slice_get sources (column.0 - 1) ≡ Some source) × (column.1 < length source.1))

abbrev pub IsItemOf : List Source → Found → Type 0
IsItemOf sources item = IsColumnOf sources item.0
