-- The query that a SELECT is, or the first rule that it breaks.
use Rattle.std.specs.Prelude.{ℕ, suc, ℤ, ◌-◌, ◌==◌, ◌&&◌, ◌≤◌, Bool, true, false, List, [], ◌∷◌, map, Option, Some, None, option_map, slice_get, unwrap_or, Result, Ok, Err, if◌then◌else◌}
use Rattle.std.specs.List.{list_all, list_any}
use Rattle.std.specs.Str.{bytes_eq}
use Rattle.rs_value.specs.declared.kind.Kind.{Kind}
use Rattle.rs_lex.specs.declared.token.Span.{Span}
use Rattle.rs_syntax.specs.declared.name.Name.{Name}
use Rattle.rs_syntax.specs.declared.select.Items.{Items}
use Rattle.rs_syntax.specs.declared.select.Items.TheVariants as items
use Rattle.rs_value.specs.declared.set_op.SetOp.{SetOp}
use Rattle.rs_syntax.specs.declared.select.TermSyn.{TermSyn}
use Rattle.rs_syntax.specs.Syntax as syntax
use Rattle.rs_table.specs.Column.{Column}
use Rattle.rs_value.specs.Results.{◌>>=◌}
use Rattle.rs_expr.specs.Uses.{is_kind}
use Rattle.rs_catalog.specs.Catalog.{CatalogDef, number_named}
use Rattle.rs_catalog.specs.declared.index.BoundArg.{BoundArg}
use Rattle.rs_catalog.specs.declared.index.BoundArg.TheVariants as bound
use Rattle.rs_catalog.specs.declared.room.What.TheVariants as what
use Rattle.rs_query.specs.Tops.{with_tops}
use Rattle.rs_query.specs.WellFormed.{argument_columns, entries_mask, same_column}
use Rattle.rs_query.specs.declared.block.Block.{Block}
use Rattle.rs_query.specs.declared.term.Term.{Term}
use Rattle.rs_query.specs.declared.query.Query.{Query}
use Rattle.rs_query.specs.declared.query.Query.TheVariants.{One, Set}
use Rattle.rs_typing.specs.declared.fault.BindFault.{BindFault}
use Rattle.rs_typing.specs.declared.fault.BindFault.TheVariants.{At}
use Rattle.rs_typing.specs.declared.fault.Why.TheVariants.{DistinctNeedsOutput, LimitOf, NoPredicate, SetColumnsDiffer}
use Rattle.rs_typing.specs.Missing.{or_fault}
use Rattle.rs_typing.specs.Typing.{span_of_column}
use Rattle.rs_bind.specs.declared.unranked.Unranked as parts
use Rattle.rs_bind.specs.Conditions.{filter_of}
use Rattle.rs_bind.specs.Indexes.{Entries, params_in, term_args}
use Rattle.rs_bind.specs.Names.{number_in}
use Rattle.rs_bind.specs.Sources.{Found, Source, column_in, entries_of, items_of, sources_of, the_only}

-- a block without the terms: FROM, WHERE and the output columns with their kinds
abbrev pub Unranked : Type 0
Unranked = parts.Unranked

-- FROM comes first, then WHERE, and then the output columns
abbrev pub unranked_of : CatalogDef → syntax.Block → Result Unranked BindFault
unranked_of catalogue block = do
  from ← entries_of catalogue block.from
  conjuncts ← filter_of (sources_of catalogue from) block.filter
  items ← items_of (sources_of catalogue from) block.items
  Ok (record { from = from; conjuncts = conjuncts; items = items; distinct = block.distinct })

abbrev pub with_terms : Unranked → List Term → Block
with_terms block terms = record {
  from = block.from;
  conjuncts = block.conjuncts;
  items = map (λ (item : Found). item.0) block.items;
  terms = terms;
  distinct = block.distinct;
}

-- a column as an argument
abbrev pub as_argument : Found → BoundArg × Kind
as_argument found = (bound.Column found.0.0 found.0.1, found.1)

-- in a query of one block, a term's columns are those of the block
abbrev pub block_columns : List Source → Entries
block_columns sources c = column_in sources c >>= λ found. Ok (as_argument found)

-- where an argument is a column, its entry is one of six
abbrev pub IsEntryArg : BoundArg → Type 0
IsEntryArg (bound.Column entry column) = (1 ≤ entry) × (entry ≤ 6)
IsEntryArg (bound.Int n) = Unit {0}
IsEntryArg (bound.Text text) = Unit {0}

-- the greatest score of a predicate
abbrev pub max_in : CatalogDef → ℕ → ℕ
max_in catalogue predicate = unwrap_or (option_map (λ p. p.max) (slice_get catalogue.predicates predicate)) 0

-- where output columns are needed, as DISTINCT needs them, each column of a term is one
abbrev pub are_outputs : Option (List Found) → List (ℕ × ℕ) → Bool
are_outputs None columns = true
are_outputs (Some items) columns = list_all (λ (column : ℕ × ℕ). list_any (λ (item : Found). same_column column item.0) items) columns

-- the greatest weight of a term
abbrev pub most_weight : ℕ
most_weight = 1000000

-- terms behind this many: at each, from left to right, there may be no more than eight; then its weight, its predicate, its arguments, and whether its
-- columns are output columns where they have to be
abbrev pub terms_behind : CatalogDef → Entries → Option (List Found) → ℕ → List TermSyn → Result (List Term) BindFault
terms_behind catalogue entries needed before [] = Ok []
terms_behind catalogue entries needed before (term ∷ rest) =
    if before == 8 then Err (At LimitOf term.at)
    else (do
      weight ← number_in 1 most_weight term.weight
      predicate ← or_fault (At NoPredicate term.predicate.at) (number_named what.Predicate term.predicate.text catalogue)
      args ← term_args entries (params_in catalogue predicate) term.args term.at
      more ← (if are_outputs needed (argument_columns args) then terms_behind catalogue entries needed (suc before) rest
          else Err (At DistinctNeedsOutput term.at))
      Ok (record {
        weight = weight;
        predicate = predicate;
        args = args;
        max = max_in catalogue predicate;
        entries = entries_mask (argument_columns args);
      } ∷ more))

abbrev pub terms_of : CatalogDef → Entries → Option (List Found) → List TermSyn → Result (List Term) BindFault
terms_of catalogue entries needed terms = terms_behind catalogue entries needed 0 terms

-- the greatest number of rows that LIMIT or FETCH asks for
abbrev pub most_rows : ℕ
most_rows = 1000000

-- the number in LIMIT, where it is written
abbrev pub bound_limit : Option (ℤ × Span) → Result (Option ℕ) BindFault
bound_limit None = Ok None
bound_limit (Some limit) = number_in 0 most_rows limit >>= λ n. Ok (Some n)

-- the name of a column of a block
abbrev pub name_of : CatalogDef → Unranked → ℕ × ℕ → List ℕ
name_of catalogue block column = unwrap_or (option_map (λ (c : Column). c.0) (column_at (slice_get (sources_of catalogue block.from) (column.0 - 1)))) [] where
  column_at : Option Source → Option Column
  column_at (Some source) = slice_get source.1 column.1
  column_at None = None

-- what the output columns of the left block are called
abbrev pub output_names : CatalogDef → Unranked → List (List ℕ)
output_names catalogue left = map (λ (item : Found). name_of catalogue left item.0) left.items

-- the output columns of this name, each as the item at its place
abbrev pub called : List ℕ → List (List ℕ) → List Found → List Found
called name [] items = []
called name (own ∷ names) [] = []
called name (own ∷ names) (item ∷ items) = if bytes_eq own name then item ∷ called name names items else called name names items

-- in a set query, a term's column is written without a dot and names an output column of the left block; in either block it stands for the output
-- column at the same place
abbrev pub output_columns : List (List ℕ) → List Found → Entries
output_columns names items c = the_only (span_of_column c) (of c.alias) >>= λ found. Ok (as_argument found) where
  of : Option Name → List Found
  of None = called c.column.text names items
  of (Some alias) = []

-- the output columns of two blocks agree in number, and in kind at each place
abbrev pub agree : List Found → List Found → Bool
agree [] [] = true
agree [] (b ∷ right) = false
agree (a ∷ left) [] = false
agree (a ∷ left) (b ∷ right) = is_kind a.1 (Some b.1) && agree left right

-- the place of the first output column, or of `*`
abbrev pub first_item : Items → Span
first_item (items.Star at) = at
first_item (items.List []) = record { start = 0; end = 0 }
first_item (items.List (c ∷ columns)) = span_of_column c

-- where DISTINCT needs output columns
abbrev pub needed_by : Unranked → Option (List Found)
needed_by block = if block.distinct then Some block.items else None

-- a query of one block: the block, the terms, and then LIMIT
abbrev pub one_of : CatalogDef → syntax.Query → Result Query BindFault
one_of catalogue query = do
  block ← unranked_of catalogue query.left
  terms ← terms_of catalogue (block_columns (sources_of catalogue block.from)) (needed_by block) query.terms
  limit ← bound_limit query.limit
  Ok (One (with_terms block terms) limit)

-- a query of two blocks: the left one, the right one, whether their output columns agree, the terms, and then LIMIT
abbrev pub set_of : CatalogDef → syntax.Query → SetOp → syntax.Block → Result Query BindFault
set_of catalogue query op second = do
  left ← unranked_of catalogue query.left
  right ← unranked_of catalogue second
  terms ← (if agree left.items right.items then terms_of catalogue (output_columns (output_names catalogue left) left.items) None query.terms
      else Err (At SetColumnsDiffer (first_item second.items)))
  -- the same terms over the output columns at the same places
  others ← terms_of catalogue (output_columns (output_names catalogue left) right.items) None query.terms
  limit ← bound_limit query.limit
  Ok (Set op (with_terms left terms) (with_terms right others) limit)

-- the query that a SELECT is by the rules of typing; a term's maximum is the greatest score of its predicate
abbrev pub typed_query : CatalogDef → syntax.Query → Result Query BindFault
typed_query catalogue query = of query.right where
  of : Option (SetOp × syntax.Block) → Result Query BindFault
  of None = one_of catalogue query
  of (Some right) = set_of catalogue query right.0 right.1

-- the query that a SELECT is: its terms have their tops as maxima
abbrev pub bound_query : CatalogDef → syntax.Query → Result Query BindFault
bound_query catalogue query = typed_query catalogue query >>= λ typed. Ok (with_tops catalogue typed)

-- the number in FETCH
abbrev pub count_of : ℤ × Span → Result ℕ BindFault
count_of count = number_in 0 most_rows count
