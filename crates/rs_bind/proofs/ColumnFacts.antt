-- The columns that FROM entries give.
use Rattle.std.proofs.Common.{ℕ, suc, ◌≡◌, ◌≤◌, ◌<◌, ◌+◌, ◌==◌, Bool, true, false, List, [], ◌∷◌, length, refl, sym, subst, ap, ◌∙◌, arith}
use Rattle.std.specs.Prelude.{◌-◌, nat_le, Option, Some, None, option_and_then, option_map, slice_get, unwrap_or, Ok, Err, if◌then◌else◌}
use Rattle.std.specs.List.{AllByRecursion, list_any}
use Rattle.std.specs.Str.{bytes_eq}
use Rattle.std.proofs.lemmas.Bool.Decides.{nat_tests}
use Rattle.std.proofs.lemmas.Option.{slice_get_within}
use Rattle.rs_value.specs.declared.kind.Kind.{Kind}
use Rattle.rs_lex.specs.declared.token.Span.{Span}
use Rattle.rs_syntax.specs.declared.name.ColRef.{ColRef}
use Rattle.rs_syntax.specs.declared.name.Name.{Name}
use Rattle.rs_syntax.specs.declared.select.Items.{Items}
use Rattle.rs_syntax.specs.declared.select.Items.TheVariants as items
use Rattle.rs_table.specs.Column.{Column}
use Rattle.rs_table.specs.Relation.{Relation}
use Rattle.rs_value.specs.Results.{◌>>=◌}
use Rattle.rs_catalog.specs.Catalog.{CatalogDef, NamedTable, number_named}
use Rattle.rs_catalog.specs.declared.room.What.TheVariants as what
use Rattle.rs_query.specs.declared.block.Block.{Block}
use Rattle.rs_query.specs.WellFormed.{IsColumn, IsFromEntry, column_kind}
use Rattle.rs_typing.specs.declared.fault.BindFault.TheVariants.{At}
use Rattle.rs_typing.specs.declared.fault.Why.TheVariants.{LimitOf, NameTwice, NoTable}
use Rattle.rs_typing.specs.Missing.{or_fault}
use Rattle.rs_typing.specs.Parameters.{placed}
use Rattle.rs_typing.specs.Typing.{span_of_column}
use Rattle.rs_typing.proofs.EachFacts.{each-append, each-then}
use Rattle.rs_typing.proofs.ResultFacts.{Ok-else, same_Ok}
use Rattle.rs_typing.proofs.StepFacts.{Ok-steps, Ok-test, Ok-or_fault}
use Rattle.rs_bind.specs.Indexes.{columns_in, is_of_entry}
use Rattle.rs_bind.specs.Sources.{Found, alias_of, all_columns_from, column_in, columns_from, entries_behind, entries_of, items_behind, items_of, matches_from, most_items, sources_of, the_only}
use Rattle.rs_bind.proofs.PlaceFacts.{kind-placed, slice_get-numbered}

-- the kind of a column of one of some entries, counted from 0
abbrev pub kind_at : CatalogDef → List (ℕ × List ℕ) → ℕ → ℕ → Option Kind
kind_at catalogue from entry place =
    option_and_then (λ (f : ℕ × List ℕ). option_map (λ (c : Column). c.1) (slice_get (columns_in catalogue f.0) place)) (slice_get from entry)

schema_kind : (o : Option NamedTable) (place : ℕ)
    → option_map (λ (c : Column). c.1) (option_and_then (λ (t : Relation). slice_get t.schema place) (option_map (λ (n : NamedTable). n.table) o))
    ≡ option_map (λ (c : Column). c.1) (slice_get (unwrap_or (option_map (λ (n : NamedTable). n.table.schema) o) []) place)
schema_kind None place = refl
schema_kind (Some n) place = refl

entry_kind : (catalogue : CatalogDef) (o : Option (ℕ × List ℕ)) (place : ℕ)
    → option_map (λ (c : Column). c.1) (option_and_then (λ (t : Relation). slice_get t.schema place)
    (option_and_then (λ (f : ℕ × List ℕ). option_map (λ (n : NamedTable). n.table) (slice_get catalogue.tables f.0)) o))
    ≡ option_and_then (λ (f : ℕ × List ℕ). option_map (λ (c : Column). c.1) (slice_get (columns_in catalogue f.0) place)) o
entry_kind catalogue None place = refl
entry_kind catalogue (Some f) place = schema_kind (slice_get catalogue.tables f.0) place

pub column_kind-at : (catalogue : CatalogDef) (block : Block) (column : ℕ × ℕ)
    → column_kind catalogue block column ≡ kind_at catalogue block.from (column.0 - 1) column.1
column_kind-at catalogue block column = entry_kind catalogue (slice_get block.from (column.0 - 1)) column.1

-- a column that has a kind is one of the block
kind_at-within : (catalogue : CatalogDef) (from : List (ℕ × List ℕ)) (entry place : ℕ) (kind : Kind) → kind_at catalogue from entry place ≡ Some kind
    → (f : ℕ × List ℕ) × (slice_get from entry ≡ Some f) × (place < length (columns_in catalogue f.0))
kind_at-within catalogue from entry place kind h = go (slice_get from entry) refl h where
  at : (f : ℕ × List ℕ) → (c : Option Column) → slice_get (columns_in catalogue f.0) place ≡ c → option_map (λ (c : Column). c.1) c ≡ Some kind
      → place < length (columns_in catalogue f.0)
  at f None is e = cc
  at f (Some c) is e = slice_get_within (columns_in catalogue f.0) place c is

  go : (o : Option (ℕ × List ℕ)) → slice_get from entry ≡ o
      → option_and_then (λ (f : ℕ × List ℕ). option_map (λ (c : Column). c.1) (slice_get (columns_in catalogue f.0) place)) o ≡ Some kind
      → (f : ℕ × List ℕ) × (slice_get from entry ≡ Some f) × (place < length (columns_in catalogue f.0))
  go None is e = cc
  go (Some f) is e = (f, is, at f (slice_get (columns_in catalogue f.0) place) refl e)

pub IsColumn-kind : (catalogue : CatalogDef) (block : Block) (column : ℕ × ℕ) (kind : Kind) → 1 ≤ column.0 → column_kind catalogue block column ≡ Some kind
    → IsColumn catalogue block column
IsColumn-kind catalogue block column kind least h =
    let there = kind_at-within catalogue block.from (column.0 - 1) column.1 kind (sym (column_kind-at catalogue block column) ∙ h) in
    let within : column.0 - 1 < length block.from = slice_get_within block.from (column.0 - 1) there.0 there.1 in
    (least, omega (arith, within), (kind, h))

-- a column that was found is one of the block, of its kind
pub record IsFound (catalogue : CatalogDef) (block : Block) (found : Found) : Type 0 where
  pub least : 1 ≤ found.0.0
  pub has_kind : column_kind catalogue block found.0 ≡ Some found.1

pub IsColumn-found : (catalogue : CatalogDef) (block : Block) (found : Found) → IsFound catalogue block found → IsColumn catalogue block found.0
IsColumn-found catalogue block found h = IsColumn-kind catalogue block found.0 found.1 h.least h.has_kind

-- the same of entries that count from another number on
record IsMatch (catalogue : CatalogDef) (from : List (ℕ × List ℕ)) (entry : ℕ) (found : Found) : Type 0 where
  least : entry ≤ found.0.0
  has_kind : kind_at catalogue from (found.0.0 - entry) found.0.1 ≡ Some found.1

IsMatch-behind : (catalogue : CatalogDef) (f : ℕ × List ℕ) (from : List (ℕ × List ℕ)) (entry : ℕ) (found : Found) → IsMatch catalogue from (suc entry) found
    → IsMatch catalogue (f ∷ from) entry found
IsMatch-behind catalogue f from entry found h =
    let least = h.least in
    let one_more : found.0.0 - entry ≡ suc (found.0.0 - suc entry) = omega (arith, least) in
    record { least = omega (arith, least); has_kind = ap (λ e. kind_at catalogue (f ∷ from) e found.0.1) one_more ∙ h.has_kind }

IsMatch-first : (catalogue : CatalogDef) (f : ℕ × List ℕ) (from : List (ℕ × List ℕ)) (entry place : ℕ) (kind : Kind)
    → option_map (λ (c : Column). c.1) (slice_get (columns_in catalogue f.0) place) ≡ Some kind → IsMatch catalogue (f ∷ from) entry ((entry, place), kind)
IsMatch-first catalogue f from entry place kind h =
    let none : entry - entry ≡ 0 = omega arith in
    record { least = omega arith; has_kind = ap (λ e. kind_at catalogue (f ∷ from) e place) none ∙ h }

IsFound-match : (catalogue : CatalogDef) (block : Block) (found : Found) → IsMatch catalogue block.from 1 found → IsFound catalogue block found
IsFound-match catalogue block found h = record { least = h.least; has_kind = column_kind-at catalogue block found.0 ∙ h.has_kind }

-- all that a reference can stand for
matches : (catalogue : CatalogDef) (from : List (ℕ × List ℕ)) (entry : ℕ) (c : ColRef)
    → AllByRecursion (IsMatch catalogue from entry) (matches_from entry c (sources_of catalogue from))
matches catalogue [] entry c = tt
matches catalogue (f ∷ from) entry c =
    go (is_of_entry f.1 c.alias) refl (placed c.column.text (columns_in catalogue f.0)) refl
    (each-then (IsMatch catalogue from (suc entry)) (IsMatch catalogue (f ∷ from) entry) (IsMatch-behind catalogue f from entry)
    (matches_from (suc entry) c (sources_of catalogue from)) (matches catalogue from (suc entry) c)) where
      go : (of_entry : Bool) → is_of_entry f.1 c.alias ≡ of_entry → (place : Option (ℕ × Kind)) → placed c.column.text (columns_in catalogue f.0) ≡ place
          → AllByRecursion (IsMatch catalogue (f ∷ from) entry) (matches_from (suc entry) c (sources_of catalogue from))
          → AllByRecursion (IsMatch catalogue (f ∷ from) entry) (matches_from entry c (sources_of catalogue (f ∷ from)))
      go false e place e' others = rw e others
      go true e None e' others = rw (e, e') others
      go true e (Some column) e' others =
          rw (e, e') (IsMatch-first catalogue f from entry column.0 column.1 (kind-placed c.column.text (columns_in catalogue f.0) column e'), others)

pub the_only-is : {A : Type 0} (at : Span) (found : List A) (a : A) → the_only at found ≡ Ok a → found ≡ a ∷ []
the_only-is at [] a h = cc
the_only-is at (b ∷ []) a h = cc
the_only-is at (b ∷ c ∷ more) a h = cc

-- the column that a reference stands for
pub column_in-found : (catalogue : CatalogDef) (block : Block) (c : ColRef) (found : Found) → column_in (sources_of catalogue block.from) c ≡ Ok found
    → IsFound catalogue block found
column_in-found catalogue block c found h =
    let only : matches_from 1 c (sources_of catalogue block.from) ≡ found ∷ [] =
    the_only-is (span_of_column c) (matches_from 1 c (sources_of catalogue block.from)) found h in
    IsFound-match catalogue block found (subst (AllByRecursion (IsMatch catalogue block.from 1)) only (matches catalogue block.from 1 c)).0

-- the columns of a table, from one of them on
columns : (catalogue : CatalogDef) (f : ℕ × List ℕ) (from : List (ℕ × List ℕ)) (entry place : ℕ) (rest : List Column)
    → ((i : ℕ) → slice_get (columns_in catalogue f.0) (place + i) ≡ slice_get rest i)
    → AllByRecursion (IsMatch catalogue (f ∷ from) entry) (columns_from entry place rest)
columns catalogue f from entry place [] behind = tt
columns catalogue f from entry place (column ∷ rest) behind =
    let here : place + 0 ≡ place = omega arith in
    let first : slice_get (columns_in catalogue f.0) place ≡ Some column = ap (slice_get (columns_in catalogue f.0)) (sym here) ∙ behind 0 in (
      IsMatch-first catalogue f from entry place column.1 (ap (option_map (λ (c : Column). c.1)) first),
      columns catalogue f from entry (suc place) rest (λ i.
          let next : suc place + i ≡ place + suc i = omega arith in
          ap (slice_get (columns_in catalogue f.0)) next ∙ behind (suc i)),
    )

all_columns : (catalogue : CatalogDef) (from : List (ℕ × List ℕ)) (entry : ℕ)
    → AllByRecursion (IsMatch catalogue from entry) (all_columns_from entry (sources_of catalogue from))
all_columns catalogue [] entry = tt
all_columns catalogue (f ∷ from) entry =
    each-append (IsMatch catalogue (f ∷ from) entry) (columns_from entry 0 (columns_in catalogue f.0)) (all_columns_from (suc entry) (sources_of catalogue from))
    (columns catalogue f from entry 0 (columns_in catalogue f.0) (λ i.
    let whole : 0 + i ≡ i = omega arith in
    ap (slice_get (columns_in catalogue f.0)) whole))
    (each-then (IsMatch catalogue from (suc entry)) (IsMatch catalogue (f ∷ from) entry) (IsMatch-behind catalogue f from entry)
    (all_columns_from (suc entry) (sources_of catalogue from)) (all_columns catalogue from (suc entry)))

-- output columns behind this many others
pub record AreItems (catalogue : CatalogDef) (block : Block) (before : ℕ) (made : List Found) : Type 0 where
  pub most : before + length made ≤ 384
  pub each : AllByRecursion (IsFound catalogue block) made

listed : (catalogue : CatalogDef) (block : Block) (before : ℕ) (columns : List ColRef) (made : List Found) → before ≤ 384
    → items_behind (sources_of catalogue block.from) before columns ≡ Ok made → AreItems catalogue block before made
listed catalogue block before [] made most h =
    let same : [] ≡ made = cc in
    subst (AreItems catalogue block before) same (record { most = omega (arith, most); each = tt })
listed catalogue block before (c ∷ rest) made most h =
    let sources = sources_of catalogue block.from in
    let next = λ (column : Found). items_behind sources (suc before) rest >>= λ more. Ok (column ∷ more) in
    let past = Ok-else (before == most_items) (column_in sources c >>= next) (At LimitOf (span_of_column c)) made h in
    let first = Ok-steps (column_in sources c) next made past.1 in
    let more = Ok-steps (items_behind sources (suc before) rest) (λ more. Ok (first.0 ∷ more)) made first.2 in
    let same = same_Ok (first.0 ∷ more.0) made more.2 in
    let room : suc before ≤ 384 = grind (arith, nat_tests, past.0) in
    let others = listed catalogue block (suc before) rest more.0 room more.1 in
    let most = others.most in
    subst (AreItems catalogue block before) same (record {
      most = omega (arith, most);
      each = (column_in-found catalogue block c first.0 first.1, others.each);
    })

-- the output columns of a block
pub items_of-found : (catalogue : CatalogDef) (block : Block) (items : Items) (made : List Found) → items_of (sources_of catalogue block.from) items ≡ Ok made
    → AreItems catalogue block 0 made
items_of-found catalogue block (items.List columns) made h = listed catalogue block 0 columns made (omega arith) h
items_of-found catalogue block (items.Star at) made h =
    let all = all_columns_from 1 (sources_of catalogue block.from) in
    let test = Ok-test (nat_le (length all) most_items) (Ok all) (At LimitOf at) made h in
    let same : all ≡ made = cc in
    let few : length all ≤ 384 = grind (arith, nat_tests) in
    subst (AreItems catalogue block 0) same (record {
      most = omega (arith, few);
      each = each-then (IsMatch catalogue block.from 1) (IsFound catalogue block) (IsFound-match catalogue block) all (all_columns catalogue block.from 1);
    })

-- FROM entries behind this many others
pub record AreEntries (catalogue : CatalogDef) (before : ℕ) (from : List (Name × Option Name)) (made : List (ℕ × List ℕ)) : Type 0 where
  pub many : length made ≡ length from
  pub most : before + length made ≤ 6
  pub each : AllByRecursion (IsFromEntry catalogue) made

entries : (catalogue : CatalogDef) (before : List (List ℕ)) (from : List (Name × Option Name)) (made : List (ℕ × List ℕ)) → length before ≤ 6
    → entries_behind catalogue before from ≡ Ok made → AreEntries catalogue (length before) from made
entries catalogue before [] made most h =
    let same : [] ≡ made = cc in
    subst (AreEntries catalogue (length before) []) same (record { many = refl; most = omega (arith, most); each = tt })
entries catalogue before (entry ∷ rest) made most h =
    let alias = alias_of entry in
    let stands = list_any (λ other. bytes_eq other alias.text) before in
    let number = number_named what.Table entry.0.text catalogue in
    let twice = At NameTwice alias.at in
    let behind = entries_behind catalogue (alias.text ∷ before) rest in
    let next = λ (table : ℕ). (if stands then Err twice else behind) >>= λ more. Ok ((table, alias.text) ∷ more) in
    let past = Ok-else (length before == 6) (or_fault (At NoTable entry.0.at) number >>= next) (At LimitOf entry.0.at) made h in
    let first = Ok-steps (or_fault (At NoTable entry.0.at) number) next made past.1 in
    let more = Ok-steps (if stands then Err twice else behind) (λ more. Ok ((first.0, alias.text) ∷ more)) made first.2 in
    let apart = Ok-else stands behind twice more.0 more.1 in
    let room : suc (length before) ≤ 6 = grind (arith, nat_tests, past.0) in
    let others = entries catalogue (alias.text ∷ before) rest more.0 room apart.1 in
    let found = slice_get-numbered (λ t. t.name) catalogue.tables entry.0.text first.0 (Ok-or_fault (At NoTable entry.0.at) number first.0 first.1) in
    let same = same_Ok ((first.0, alias.text) ∷ more.0) made more.2 in
    let many = others.many in
    let most = others.most in
    subst (AreEntries catalogue (length before) (entry ∷ rest)) same (record {
      many = omega (arith, many);
      most = omega (arith, most);
      each = (slice_get_within catalogue.tables first.0 found.0 found.1, others.each);
    })

-- the FROM entries of a block
pub entries_of-formed : (catalogue : CatalogDef) (from : List (Name × Option Name)) (made : List (ℕ × List ℕ)) → entries_of catalogue from ≡ Ok made
    → AreEntries catalogue 0 from made
entries_of-formed catalogue from made h = entries catalogue [] from made (omega arith) h
