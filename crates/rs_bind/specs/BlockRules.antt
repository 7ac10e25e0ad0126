-- The rules of a block without its terms, as relations: what FROM, WHERE and the output columns are, or with what they are refused.
use Rattle.std.specs.Prelude.{ℕ, ◌≡◌, ◌≢◌, ◌≤◌, ◌<◌, true, false, List, [], length, Option, Some, None, slice_get, Ok, Err}
use Rattle.std.specs.List.{list_any}
use Rattle.std.specs.Str.{bytes_eq}
use Rattle.rs_lex.specs.declared.token.Span.{Span}
use Rattle.rs_syntax.specs.declared.name.ColRef.{ColRef}
use Rattle.rs_syntax.specs.declared.name.Name.{Name}
use Rattle.rs_syntax.specs.declared.select.Items.{Items}
use Rattle.rs_syntax.specs.declared.select.Items.TheVariants as items
use Rattle.rs_syntax.specs.Syntax as syntax
use Rattle.rs_syntax.specs.Syntax.{Expression}
use Rattle.rs_expr.specs.Formulas.{Condition}
use Rattle.rs_catalog.specs.Catalog.{CatalogDef, number_named}
use Rattle.rs_catalog.specs.declared.room.What.TheVariants as what
use Rattle.rs_query.specs.Conjuncts.{ConjunctDef}
use Rattle.rs_query.specs.WellFormed.{entries_mask, equality_of}
use Rattle.rs_typing.specs.declared.fault.BindFault.{BindFault}
use Rattle.rs_typing.specs.declared.fault.BindFault.TheVariants.{At}
use Rattle.rs_typing.specs.declared.fault.Why.TheVariants.{LimitOf, NameTwice, NoTable, WrongKind}
use Rattle.rs_typing.specs.Rules.{Refused, Types}
use Rattle.rs_typing.specs.Typing.{Typed, Number, Words, Truth, span_of, span_of_column}
use Rattle.rs_bind.specs.Conditions.{most_conjuncts, named_columns, own_places, parts_of_and}
use Rattle.rs_bind.specs.InOrder.{Each, FirstRefused}
use Rattle.rs_bind.specs.Queries.{Unranked}
use Rattle.rs_bind.specs.Sources.{Found, Source, alias_of, all_columns_from, column_in, most_entries, most_items, sources_of}

-- a FROM entry as it is written, and as the number of its table with its alias
abbrev pub FromEntry : Type 0
FromEntry = Name × Option Name

abbrev pub Entry : Type 0
Entry = ℕ × List ℕ

-- an entry before has this alias, or none has
abbrev pub is_taken : List ℕ → List Entry → Type 0
is_taken alias before = list_any (λ (entry : Entry). bytes_eq entry.1 alias) before ≡ true

abbrev pub is_free : List ℕ → List Entry → Type 0
is_free alias before = list_any (λ (entry : Entry). bytes_eq entry.1 alias) before ≡ false

module _ (catalogue : CatalogDef) where
  -- at most six entries, each of a table that is there, with an alias that no entry before it has
  pub record TypesEntry (before : List Entry) (entry : FromEntry) (bound : Entry) : Type 0 where
    pub room : length before ≢ most_entries
    pub table : number_named what.Table entry.0.text catalogue ≡ Some bound.0
    pub alias : bound.1 ≡ (alias_of entry).text
    pub free : is_free bound.1 before

  pub data RefusedEntry (before : List Entry) (entry : FromEntry) : BindFault → Type 0 where
    too_many : length before ≡ most_entries → RefusedEntry before entry (At LimitOf entry.0.at)
    no_table : length before ≢ most_entries → number_named what.Table entry.0.text catalogue ≡ None → RefusedEntry before entry (At NoTable entry.0.at)
    twice : (table : ℕ) → length before ≢ most_entries → number_named what.Table entry.0.text catalogue ≡ Some table → is_taken (alias_of entry).text before
        → RefusedEntry before entry (At NameTwice (alias_of entry).at)

-- something that is no truth value
abbrev pub IsNoTruth : Typed → Type 0
IsNoTruth (Number f) = Unit {0}
IsNoTruth (Words side) = Unit {0}
IsNoTruth (Truth c) = ⊥

module _ (sources : List Source) where
  -- a part of WHERE as a conjunct: a truth value over the columns that it names, with the mask of their entries, and the two columns that it equates, where
  -- they are of two entries
  pub record TypesConjunct (x : Expression) (made : ConjunctDef) : Type 0 where
    pub condition : Types (own_places sources x) x (Truth made.condition)
    pub columns : made.columns ≡ named_columns sources x
    pub entries : made.entries ≡ entries_mask made.columns
    pub equality : made.equality ≡ equality_of made.condition made.columns

  -- WHERE: a truth value of at most 32 parts, which AND joins at its top; each part is a conjunct
  pub data TypesFilter : Option Expression → List ConjunctDef → Type 0 where
    no_filter : TypesFilter None []
    condition : (x : Expression) (c : Condition) (made : List ConjunctDef) → Types (own_places sources x) x (Truth c) → length (parts_of_and x) ≤ most_conjuncts
        → Each (λ before. TypesConjunct) [] (parts_of_and x) made → TypesFilter (Some x) made

  pub data RefusedFilter : Option Expression → BindFault → Type 0 where
    in_condition : (x : Expression) (fault : BindFault) → Refused (own_places sources x) x fault → RefusedFilter (Some x) fault
    no_truth : (x : Expression) (t : Typed) → Types (own_places sources x) x t → IsNoTruth t → RefusedFilter (Some x) (At WrongKind (span_of x))
    -- the 33rd part
    too_many : (x part : Expression) (c : Condition) → Types (own_places sources x) x (Truth c) → slice_get (parts_of_and x) most_conjuncts ≡ Some part
        → RefusedFilter (Some x) (At LimitOf (span_of part))

module _ (sources : List Source) where
  -- at most 384 output columns, each one column of the entries
  pub record TypesItem (before : List Found) (c : ColRef) (found : Found) : Type 0 where
    pub room : length before ≢ most_items
    pub column : column_in sources c ≡ Ok found

  pub data RefusedItem (before : List Found) (c : ColRef) : BindFault → Type 0 where
    too_many : length before ≡ most_items → RefusedItem before c (At LimitOf (span_of_column c))
    no_column : (fault : BindFault) → length before ≢ most_items → column_in sources c ≡ Err fault → RefusedItem before c fault

  -- the output columns; `*` stands for all columns of all entries, in their order
  pub data TypesItems : Items → List Found → Type 0 where
    star : (at : Span) → length (all_columns_from 1 sources) ≤ most_items → TypesItems (items.Star at) (all_columns_from 1 sources)
    listed : (columns : List ColRef) (found : List Found) → Each TypesItem [] columns found → TypesItems (items.List columns) found

  pub data RefusedItems : Items → BindFault → Type 0 where
    too_many : (at : Span) → most_items < length (all_columns_from 1 sources) → RefusedItems (items.Star at) (At LimitOf at)
    in_list : (columns : List ColRef) (fault : BindFault) → FirstRefused TypesItem RefusedItem [] columns fault → RefusedItems (items.List columns) fault

module _ (catalogue : CatalogDef) where
  -- a block: FROM comes first, then WHERE, and then the output columns
  pub record TypesBlock (block : syntax.Block) (bound : Unranked) : Type 0 where
    pub from : Each (TypesEntry catalogue) [] block.from bound.from
    pub conjuncts : TypesFilter (sources_of catalogue bound.from) block.filter bound.conjuncts
    pub items : TypesItems (sources_of catalogue bound.from) block.items bound.items
    pub distinct : bound.distinct ≡ block.distinct

  pub data RefusedBlock (block : syntax.Block) : BindFault → Type 0 where
    in_from : (fault : BindFault) → FirstRefused (TypesEntry catalogue) (RefusedEntry catalogue) [] block.from fault → RefusedBlock block fault
    in_filter : (from : List Entry) (fault : BindFault) → Each (TypesEntry catalogue) [] block.from from
        → RefusedFilter (sources_of catalogue from) block.filter fault → RefusedBlock block fault
    in_items : (from : List Entry) (conjuncts : List ConjunctDef) (fault : BindFault) → Each (TypesEntry catalogue) [] block.from from
        → TypesFilter (sources_of catalogue from) block.filter conjuncts
        → RefusedItems (sources_of catalogue from) block.items fault → RefusedBlock block fault
