-- When catalogues grow, and what is well formed in them stays so.
use Rattle.std.proofs.Common.{ℕ, zero, suc, ◌≡◌, ◌∙◌, ◌-◌, ◌<◌, ◌≤◌, Bool, List, [], ◌∷◌, ◌++◌, Some, None, Option, Ok, Err, Result, length, length-append, append-nil, append_assoc, map, drop, refl, sym, ap, subst, arith}
use Rattle.std.specs.Prelude.{option_and_then, option_map, slice_get, unwrap_or}
use Rattle.std.specs.List.{AllByRecursion}
use Rattle.std.proofs.lemmas.List.{take-append-drop}
use Rattle.std.proofs.lemmas.Option.{slice_get_within, unwrap_or-slice_get}
use Rattle.rs_order.proofs.ClimbingFacts.{AllByRecursion-In}
use Rattle.rs_order.proofs.EachFacts.{each-slice_get, each-weaker}
use Rattle.rs_value.specs.declared.kind.Kind.{Kind}
use Rattle.rs_value.specs.declared.kind.Kind.TheVariants as kind
use Rattle.rs_value.specs.declared.value.Value.{Value}
use Rattle.rs_table.specs.Column.{Column}
use Rattle.rs_table.specs.FirstRows.{first_rows}
use Rattle.rs_table.specs.Lent.{with_rows}
use Rattle.rs_table.specs.Relation.{Relation}
use Rattle.rs_expr.specs.Scoring.{ScorerState}
use Rattle.rs_expr.specs.Uses.{condition_uses, is_kind}
use Rattle.rs_catalog.specs.Catalog.{CatalogDef, NamedTable, RankIndex}
use Rattle.rs_catalog.specs.Growing.{GrowsBy, catalogue_grown, with_rows_in}
use Rattle.rs_catalog.specs.Snapshot.{size_at, snapshot}
use Rattle.rs_catalog.specs.declared.growth.GrowFault.{GrowFault}
use Rattle.rs_catalog.specs.declared.index.BoundArg.{BoundArg}
use Rattle.rs_catalog.specs.declared.index.BoundArg.TheVariants as arg
use Rattle.rs_catalog.proofs.JoinedFacts.{joined, slice_get-front}
use Rattle.rs_catalog.proofs.SnapshotFacts.{slice_get-tables_at}
use Rattle.rs_query.specs.declared.block.Block.{Block}
use Rattle.rs_query.specs.declared.query.Query.{Query}
use Rattle.rs_query.specs.declared.query.Query.TheVariants.{One, Set}
use Rattle.rs_query.specs.declared.term.Term.{Term}
use Rattle.rs_query.specs.Conjuncts.{ConjunctDef}
use Rattle.rs_query.specs.Growth.{CatalogueGrows, HasRowsOf, IsSizes, IsViewOf}
use Rattle.rs_query.specs.Tables.{entry_table, row_number, size_of, sizes_of}
use Rattle.rs_query.specs.Views.{View, all_rows}
use Rattle.rs_query.specs.WellFormed.{AreArgs, IsArg, IsBlock, IsColumn, IsConjunct, IsFromEntry, IsQuery, IsTerm, column_kind, has_kind}
use Rattle.rs_query.proofs.ExtendFacts.{get_or-sizes_of}
use Rattle.rs_query.proofs.LocalFacts.{map-same}

-- the table of this number
abbrev table_at : List NamedTable → ℕ → Option Relation
table_at tables number = option_map (λ (t : NamedTable). t.table) (slice_get tables number)

-- a table that was found begins with another one
pub record Begins (found : Option Relation) (table : Relation) : Type 0 where
  pub more : List (List Value)
  pub there : found ≡ Some (with_rows more table)

of-begins : (catalogue : CatalogDef) (number : ℕ) (table : Relation) → Begins (table_at catalogue.tables number) table → HasRowsOf catalogue number table
of-begins catalogue number table begins = record { more = begins.more; there = begins.there }

begins-same : (found : Option Relation) (table : Relation) → found ≡ Some table → Begins found table
begins-same found table at = record {
  more = [];
  there = at ∙ sym (ap (λ (rows : List (List Value)). Some (record table { rows = rows })) (append-nil table.rows));
}

-- a catalogue grows to itself, and by one step after another
pub grows-same : (catalogue : CatalogDef) → CatalogueGrows catalogue catalogue
grows-same catalogue = record {
  tables = λ number table at. of-begins catalogue number table (begins-same (table_at catalogue.tables number) table at);
  predicates = λ number predicate at. at;
}

pub grows-steps : (old middle new : CatalogDef) → CatalogueGrows old middle → CatalogueGrows middle new → CatalogueGrows old new
grows-steps old middle new first second = record {
  tables = λ number table at.
      let once = first.tables number table at in
      let twice = second.tables number (with_rows once.more table) once.there in
      record {
        more = once.more ++ twice.more;
        there = twice.there ∙ ap (λ (rows : List (List Value)). Some (record table { rows = rows })) (append_assoc table.rows once.more twice.more);
      };
  predicates = λ number predicate at. second.predicates number predicate (first.predicates number predicate at);
}

-- tables, predicates and indexes join
table-within : (tables : List NamedTable) (number : ℕ) (table : Relation) → table_at tables number ≡ Some table → number < length tables
table-within tables number table at = go (slice_get tables number) refl where
  go : (found : Option NamedTable) → slice_get tables number ≡ found → number < length tables
  go (Some named) is = slice_get_within tables number named is
  go None is = let none : None ≡ Some table = sym (ap (option_map (λ (t : NamedTable). t.table)) is) ∙ at in cc

pub grows-joined : (catalogue more : CatalogDef) → CatalogueGrows catalogue (joined catalogue more)
grows-joined catalogue more = record {
  tables = λ number table at.
      of-begins (joined catalogue more) number table (begins-same (table_at (catalogue.tables ++ more.tables) number) table
      (ap (option_map (λ (t : NamedTable). t.table)) (slice_get-front catalogue.tables more.tables number (table-within catalogue.tables number table at)) ∙ at));
  predicates = λ number predicate at.
      slice_get-front catalogue.predicates more.predicates number (slice_get_within catalogue.predicates number predicate at) ∙ at;
}

-- rows join
begins-rows : (place : ℕ) (rows : List (List Value)) (tables : List NamedTable) (number : ℕ) (table : Relation) → table_at tables number ≡ Some table → Begins (table_at (with_rows_in place rows tables) number) table
begins-rows place rows [] number table at = cc
begins-rows zero rows (named ∷ tables) zero table at =
    let same : named.table ≡ table = cc in
    record { more = rows; there = ap (λ (t : Relation). Some (with_rows rows t)) same }
begins-rows zero rows (named ∷ tables) (suc number) table at = begins-same (table_at tables number) table at
begins-rows (suc place) rows (named ∷ tables) zero table at = begins-same (Some named.table) table at
begins-rows (suc place) rows (named ∷ tables) (suc number) table at = begins-rows place rows tables number table at

pub grows-by : (old new : CatalogDef) (table : ℕ) (rows : List (List Value)) (result : Result (Unit {0}) GrowFault) (before after : ScorerState) → GrowsBy table rows old new result before after
    → CatalogueGrows old new
grows-by old new table rows result before after grows = subst (CatalogueGrows old) (sym grows.joins) (go grows.indexes) where
  go : (indexes : Result (List RankIndex) GrowFault) → CatalogueGrows old (catalogue_grown table rows indexes old)
  go (Ok indexes) = record {
    tables = λ number found at. of-begins (catalogue_grown table rows (Ok indexes) old) number found (begins-rows table rows old.tables number found at);
    predicates = λ number predicate at. at;
  }
  go (Err fault) = grows-same old

-- a snapshot grows to its catalogue
first_rows-more : (count : ℕ) (table : Relation) → with_rows (drop count table.rows) (first_rows count table) ≡ table
first_rows-more count table = ap (λ (rows : List (List Value)). record table { rows = rows }) (take-append-drop count table.rows)

begins-first : (count : ℕ) (found : Option NamedTable) (table : Relation) → option_map (λ (t : NamedTable). t.table) (option_map (λ (t : NamedTable). record t { table = first_rows count t.table }) found) ≡ Some table
    → Begins (option_map (λ (t : NamedTable). t.table) found) table
begins-first count (Some named) table at =
    let same : first_rows count named.table ≡ table = cc in
    subst (Begins (Some named.table)) same (record { more = drop count named.table.rows; there = ap Some (sym (first_rows-more count named.table)) })
begins-first count None table at = cc

pub grows-snapshot : (sizes : List ℕ) (catalogue : CatalogDef) → CatalogueGrows (snapshot sizes catalogue) catalogue
grows-snapshot sizes catalogue = record {
  tables = λ number table at.
      let shown = sym (ap (option_map (λ (t : NamedTable). t.table)) (slice_get-tables_at sizes catalogue.tables number)) ∙ at in
      of-begins catalogue number table (begins-first (size_at sizes number) (slice_get catalogue.tables number) table shown);
  predicates = λ number predicate at. at;
}

-- the kind of a column of a table that was found
abbrev kind_in : ℕ → Option Relation → Option Kind
kind_in column found = option_map (λ (c : Column). c.1) (option_and_then (λ (table : Relation). slice_get table.schema column) found)

-- how many rows a table has that was found
abbrev pub rows_in : Option Relation → ℕ
rows_in found = unwrap_or (option_map (λ (table : Relation). length table.rows) found) 0

module _ (old new : CatalogDef) (grows : CatalogueGrows old new) where
  module _ (block : Block) where
    -- the table of an entry begins with what it was
    pub entry-grows : (entry : ℕ) (table : Relation) → entry_table old block entry ≡ Some table → Begins (entry_table new block entry) table
    entry-grows entry table at = go (slice_get block.from (entry - 1)) refl where
      go : (found : Option (ℕ × List ℕ)) → slice_get block.from (entry - 1) ≡ found → Begins (entry_table new block entry) table
      go (Some from) is =
          let named : table_at old.tables from.0 ≡ Some table = sym (ap (option_and_then (λ (f : ℕ × List ℕ). table_at old.tables f.0)) is) ∙ at in
          let has = grows.tables from.0 table named in
          record { more = has.more; there = ap (option_and_then (λ (f : ℕ × List ℕ). table_at new.tables f.0)) is ∙ has.there }
      go None is = let none : None ≡ Some table = sym (ap (option_and_then (λ (f : ℕ × List ℕ). table_at old.tables f.0)) is) ∙ at in cc

    -- so it has no fewer rows
    pub size-grows : (entry : ℕ) → size_of old block entry ≤ size_of new block entry
    size-grows entry = go (entry_table old block entry) refl where
      go : (found : Option Relation) → entry_table old block entry ≡ found → size_of old block entry ≤ size_of new block entry
      go (Some table) at =
          let has = entry-grows entry table at in
          let before = ap rows_in at in
          let behind = ap rows_in has.there in
          omega (arith, length-append table.rows has.more)
      go None at = let none = ap rows_in at in omega arith

    -- and columns of the same kinds
    pub kind-grows : (column : ℕ × ℕ) → IsColumn old block column → column_kind new block column ≡ column_kind old block column
    kind-grows column is = go (entry_table old block column.0) refl where
      go : (found : Option Relation) → entry_table old block column.0 ≡ found → column_kind new block column ≡ column_kind old block column
      go (Some table) at =
          let has = entry-grows column.0 table at in
          ap (kind_in column.1) has.there ∙ sym (ap (kind_in column.1) at)
      go None at =
          let there = is.2.1 in
          let none : None ≡ Some is.2.0 = sym (ap (kind_in column.1) at) ∙ there in
          cc

    column-grows : (column : ℕ × ℕ) → IsColumn old block column → IsColumn new block column
    column-grows column is = (is.0, is.1, (is.2.0, kind-grows column is ∙ is.2.1))

    has_kind-grows : (columns : List (ℕ × ℕ)) → AllByRecursion (IsColumn old block) columns → (kind : Kind) (place : ℕ) → has_kind new block columns kind place ≡ has_kind old block columns kind place
    has_kind-grows columns are kind place = go (slice_get columns place) refl where
      go : (column : Option (ℕ × ℕ)) → slice_get columns place ≡ column → has_kind new block columns kind place ≡ has_kind old block columns kind place
      go (Some column) at = rw at (ap (is_kind kind) (kind-grows column (each-slice_get (IsColumn old block) columns place column are at)))
      go None at = rw at refl

    conjunct-grows : (conjunct : ConjunctDef) → IsConjunct old block conjunct → IsConjunct new block conjunct
    conjunct-grows conjunct c =
        let same : has_kind new block conjunct.columns ≡ has_kind old block conjunct.columns = λ i kind place. has_kind-grows conjunct.columns c.columns kind place i in
        record {
          columns = each-weaker (IsColumn old block) (IsColumn new block) column-grows conjunct.columns c.columns;
          distinct = c.distinct;
          entries = c.entries;
          uses = ap (λ (has : Kind → ℕ → Bool). condition_uses has conjunct.condition) same ∙ c.uses;
          narrow = c.narrow;
          equality = c.equality;
        }

    arg-grows : (kind : Kind) (a : BoundArg) → IsArg old block kind a → IsArg new block kind a
    arg-grows k (arg.Column entry column) is = (column-grows (entry, column) is.0, kind-grows (entry, column) is.0 ∙ is.1)
    arg-grows kind.Int (arg.Int n) is = is
    arg-grows kind.Text (arg.Int n) is = absurd is
    arg-grows kind.Text (arg.Text t) is = is
    arg-grows kind.Int (arg.Text t) is = absurd is

    args-grow : (kinds : List Kind) (args : List BoundArg) → AreArgs old block kinds args → AreArgs new block kinds args
    args-grow [] [] are = tt
    args-grow [] (a ∷ args) are = absurd are
    args-grow (kind ∷ kinds) [] are = absurd are
    args-grow (kind ∷ kinds) (a ∷ args) are = (arg-grows kind a are.0, args-grow kinds args are.1)

    term-grows : (term : Term) → IsTerm old block term → IsTerm new block term
    term-grows term t = record {
      predicate = t.predicate;
      has_predicate = grows.predicates term.predicate t.predicate t.has_predicate;
      args = args-grow t.predicate.params term.args t.args;
      some_column = t.some_column;
      entries = t.entries;
      some_weight = t.some_weight;
      most_weight = t.most_weight;
      max = t.max;
    }

  from-grows : (from : ℕ × List ℕ) → IsFromEntry old from → IsFromEntry new from
  from-grows from within = go (slice_get old.tables from.0) refl where
    go : (found : Option NamedTable) → slice_get old.tables from.0 ≡ found → IsFromEntry new from
    go (Some named) at =
        let has = grows.tables from.0 named.table (ap (option_map (λ (t : NamedTable). t.table)) at) in
        table-within new.tables from.0 (with_rows has.more named.table) has.there
    go None at = absurd (missing old.tables from.0 within at) where
      missing : (tables : List NamedTable) (number : ℕ) → number < length tables → slice_get tables number ≡ None → ⊥
      missing [] number inside none = absurd (omega arith)
      missing (named ∷ tables) zero inside none = cc
      missing (named ∷ tables) (suc number) inside none = missing tables number (omega arith) none

  -- blocks and queries stay well formed
  pub block-grows : (block : Block) → IsBlock old block → IsBlock new block
  block-grows block is = record {
    some_entries = is.some_entries;
    most_entries = is.most_entries;
    entries = each-weaker (IsFromEntry old) (IsFromEntry new) from-grows block.from is.entries;
    most_conjuncts = is.most_conjuncts;
    conjuncts = each-weaker (IsConjunct old block) (IsConjunct new block) (conjunct-grows block) block.conjuncts is.conjuncts;
    most_items = is.most_items;
    items = each-weaker (IsColumn old block) (IsColumn new block) (column-grows block) block.items is.items;
    most_terms = is.most_terms;
    terms = each-weaker (IsTerm old block) (IsTerm new block) (term-grows block) block.terms is.terms;
  }

  item_kinds-grow : (block : Block) → IsBlock old block → map (column_kind new block) block.items ≡ map (column_kind old block) block.items
  item_kinds-grow block is =
      map-same (column_kind new block) (column_kind old block) block.items
      (λ column h. kind-grows block column (AllByRecursion-In (IsColumn old block) block.items is.items column h))

  pub query-grows : (query : Query) → IsQuery old query → IsQuery new query
  query-grows (One block limit) is = (block-grows block is.0, is.1, is.2)
  query-grows (Set op left right limit) is =
      let both = is.0 in (
        record {
          left_block = block-grows left both.left_block;
          right_block = block-grows right both.right_block;
          kinds = item_kinds-grow left both.left_block ∙ both.kinds ∙ sym (item_kinds-grow right both.right_block);
          terms = both.terms;
        },
        is.1,
      )

  -- and views views
  sizes-grow : (block : Block) (sizes : List ℕ) → IsSizes old block sizes → IsSizes new block sizes
  sizes-grow block sizes is = record {
    all = is.all;
    each = λ entry some last. (let within = is.each entry some last in let more = size-grows block entry in omega arith);
  }

  pub view-grows : (query : Query) (view : View) → IsViewOf old query view → IsViewOf new query view
  view-grows (One block limit) view is = sizes-grow block view.first is
  view-grows (Set op left right limit) view is = (sizes-grow left view.first is.0, sizes-grow right view.second is.1)

-- all rows are a view
pub IsSizes-all : (catalogue : CatalogDef) (block : Block) → IsBlock catalogue block → IsSizes catalogue block (sizes_of catalogue block)
IsSizes-all catalogue block is = record {
  all = is.most_entries;
  each = λ entry some last.
      let few = is.most_entries in
      let number : suc (entry - 1) ≡ entry = omega arith in
      let at : row_number (sizes_of catalogue block) entry ≡ size_of catalogue block entry =
      unwrap_or-slice_get (sizes_of catalogue block) (entry - 1) 0 ∙ get_or-sizes_of catalogue block (entry - 1) (omega arith) ∙ ap (size_of catalogue block) number in
      omega arith;
}

pub IsViewOf-all : (catalogue : CatalogDef) (query : Query) → IsQuery catalogue query → IsViewOf catalogue query (all_rows catalogue query)
IsViewOf-all catalogue (One block limit) is = IsSizes-all catalogue block is.0
IsViewOf-all catalogue (Set op left right limit) is = (IsSizes-all catalogue left is.0.left_block, IsSizes-all catalogue right is.0.right_block)
