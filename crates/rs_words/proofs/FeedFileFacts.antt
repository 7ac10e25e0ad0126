-- The rows of a feed's file have scores, and texts that are UTF-8.
use Rattle.std.proofs.Common.{ℕ, ◌≡◌, ◌∙◌, ◌+◌, ◌==◌, ◌<◌, ◌^◌, nat_lt, codes, Bool, true, false, cond, List, [], ◌∷◌, length, map, Option, Some, None, Result, Ok, Err, refl, sym, ap, subst, arith}
use Rattle.std.proofs.lemmas.Bool.{true≢false}
use Rattle.std.specs.List.{AllByRecursion}
use Rattle.std.specs.Str.{is_utf8}
use Rattle.rs_value.specs.Results.{◌>>=◌}
use Rattle.rs_value.specs.declared.kind.Kind.TheVariants as kind
use Rattle.rs_value.specs.declared.value.Value.{Value}
use Rattle.rs_value.specs.declared.value.Value.TheVariants.{Text}
use Rattle.rs_table.specs.declared.fault.TableFault.{TableFault}
use Rattle.rs_table.specs.declared.fault.TableFault.TheVariants.{FieldCount, HeaderDiffers, NotUtf8, TooManyRows}
use Rattle.rs_table.specs.Reading.{cells_of, difference_from, row_of, rows_from, rows_of_records, table_of}
use Rattle.rs_table.specs.Records.{records_of}
use Rattle.rs_table.specs.Relation.{Relation, most_rows}
use Rattle.rs_feed.specs.declared.feed_row.FeedRow.{FeedRow}
use Rattle.rs_table_feed.specs.declared.range_fault.RangeFault.{RangeFault}
use Rattle.rs_table_feed.specs.TableFeeds.{feed_row, feed_rows, first_outside}
use Rattle.rs_table_feed.proofs.TableFeedFacts.{all-scores}
use Rattle.rs_feed_join.specs.Cuts.{HaveScores}
use Rattle.rs_order.proofs.EachFacts.{each-map}
use Rattle.rs_events.specs.Fetching.{fetched_bytes}
use Rattle.rs_cert.specs.Written.{AreWritableRows}
use Rattle.rs_words.specs.Faults.{or_range, or_read, or_table}
use Rattle.rs_words.specs.FeedFiles.{feed_columns, feed_file, file_limit, rows_in}

-- both steps were done
bound : {A B E : Type 0} (result : Result A E) (next : A → Result B E) (b : B) → (result >>= next) ≡ Ok b → (a : A) × (result ≡ Ok a) × (next a ≡ Ok b)
bound (Ok a) next b e = (a, refl, e)
bound (Err fault) next b e = absurd cc

-- a test refused nothing
unless-err : {A E : Type 0} (test : Bool) (fault : E) (rest : Result A E) (a : A) → cond test (Err fault) rest ≡ Ok a → rest ≡ Ok a
unless-err true fault rest a e = absurd cc
unless-err false fault rest a e = e

where-ok : {A E : Type 0} (test : Bool) (rest : Result A E) (fault : E) (a : A) → cond test rest (Err fault) ≡ Ok a → (test ≡ true) × (rest ≡ Ok a)
where-ok true rest fault a e = (refl, e)
where-ok false rest fault a e = absurd cc

-- an answer that was given is one alone
pub ok-same : {A E : Type 0} {a b : A} → ◌≡◌ {A = Result A E} (Ok a) (Ok b) → a ≡ b
ok-same e = cc

-- the first field of a row is its text
field-text : (row : ℕ) (field : List ℕ) (others : Result (List Value) TableFault) (values : List Value)
    → (cond (is_utf8 field) (Ok (Text field)) (Err (NotUtf8 row 1)) >>= λ value. others >>= λ more. Ok (value ∷ more)) ≡ Ok values → is_utf8 (feed_row values).join ≡ true
field-text row field others values e =
    let first = bound (cond (is_utf8 field) (Ok (Text field)) (Err (NotUtf8 row 1))) (λ value. others >>= λ more. Ok (value ∷ more)) values e in
    let text = where-ok (is_utf8 field) (Ok (Text field)) (NotUtf8 row 1) first.0 first.1 in
    let rest = bound others (λ more. Ok (first.0 ∷ more)) values first.2 in
    subst (λ v. is_utf8 (feed_row v).join ≡ true) (ap (λ v. v ∷ rest.0) (ok-same text.1) ∙ ok-same rest.2) text.0

row-text : (row : ℕ) (fields : List (List ℕ)) (values : List Value) → row_of feed_columns row fields ≡ Ok values → is_utf8 (feed_row values).join ≡ true
row-text row fields values e =
    let both = where-ok (length fields == length feed_columns) (cells_of feed_columns row 1 fields) (FieldCount row (length fields)) values (unless-err (nat_lt most_rows row) TooManyRows _ values e) in
    go fields both.0 both.1
  where
    go : (fields : List (List ℕ)) → (length fields == length feed_columns) ≡ true → cells_of feed_columns row 1 fields ≡ Ok values → is_utf8 (feed_row values).join ≡ true
    go [] two e = absurd (true≢false (sym two))
    go (field ∷ more) two e = field-text row field (cells_of ((codes "score", kind.Int) ∷ []) row 2 more) values e

rows-text : (row : ℕ) (records : List (List (List ℕ))) (rows : List (List Value)) → rows_from feed_columns row records ≡ Ok rows → AllByRecursion (λ values. is_utf8 (feed_row values).join ≡ true) rows
rows-text row [] rows e = subst (AllByRecursion (λ values. is_utf8 (feed_row values).join ≡ true)) (ok-same e) tt
rows-text row (first ∷ rest) rows e =
    let one = bound (row_of feed_columns row first) _ rows e in
    let others = bound (rows_from feed_columns (row + 1) rest) _ rows one.2 in
    subst (AllByRecursion (λ values. is_utf8 (feed_row values).join ≡ true)) (ok-same others.2)
    (row-text row first one.0 one.1, rows-text (row + 1) rest others.0 others.1)

table-text : (bytes : List ℕ) (table : Relation) → table_of feed_columns bytes ≡ Ok table → AllByRecursion (λ values. is_utf8 (feed_row values).join ≡ true) table.rows
table-text bytes table e =
    let rows = bound (rows_of_records feed_columns (records_of bytes)) _ table e in
    subst (λ (t : Relation). AllByRecursion (λ values. is_utf8 (feed_row values).join ≡ true) t.rows) (ok-same rows.2) (go (records_of bytes) rows.0 rows.1)
  where
    go : (records : List (List (List ℕ))) (rows : List (List Value)) → rows_of_records feed_columns records ≡ Ok rows → AllByRecursion (λ values. is_utf8 (feed_row values).join ≡ true) rows
    go [] rows e = absurd cc
    go (header ∷ rest) rows e = differ (difference_from 1 feed_columns header) refl where
      differ : (difference : Option ℕ) → difference_from 1 feed_columns header ≡ difference → AllByRecursion (λ values. is_utf8 (feed_row values).join ≡ true) rows
      differ None f =
          let read : rows_of_records feed_columns (header ∷ rest) ≡ rows_from feed_columns 1 rest = rw f refl in
          rows-text 1 rest rows (sym read ∙ e)
      differ (Some column) f =
          let read : rows_of_records feed_columns (header ∷ rest) ≡ Err (HeaderDiffers column) = rw f refl in
          absurd (let g = sym read ∙ e in cc)

-- the rows of a table that is a feed
rows-made : (table : Relation) (rows : List FeedRow) → feed_rows table ≡ Ok rows → (first_outside 1 table.rows ≡ None) × (map feed_row table.rows ≡ rows)
rows-made table rows e = go (first_outside 1 table.rows) refl where
  go : (outside : Option RangeFault) → first_outside 1 table.rows ≡ outside → (first_outside 1 table.rows ≡ None) × (map feed_row table.rows ≡ rows)
  go None f =
      let made : feed_rows table ≡ Ok (map feed_row table.rows) = rw f refl in (f, ok-same (sym made ∙ e))
  go (Some fault) f =
      let made : feed_rows table ≡ Err fault = rw f refl in absurd (let g = sym made ∙ e in cc)

both-each : (rows : List FeedRow) → AllByRecursion (λ row. row.score < 2 ^ 32) rows → AllByRecursion (λ row. is_utf8 row.join ≡ true) rows → AreWritableRows rows
both-each [] scores texts = tt
both-each (row ∷ rows) scores texts = ((let score = scores.0 in omega (arith, score), texts.0), both-each rows scores.1 texts.1)

-- what a file gives that is a feed
pub record IsFeed (rows : List FeedRow) : Type 0 where
  pub scores : HaveScores rows
  pub writable : AreWritableRows rows

pub file-feed : (file : ℕ) (there : Option (List ℕ)) (rows : List FeedRow) → feed_file file there ≡ Ok rows → IsFeed rows
file-feed file there rows e =
    let bytes = bound (or_read file (fetched_bytes file_limit there)) (rows_in file) rows e in
    let table = bound (or_table file (table_of feed_columns bytes.0)) (λ table. or_range file (feed_rows table)) rows bytes.2 in
    let read = of-table (table_of feed_columns bytes.0) table.0 table.1 in
    let made = rows-made table.0 rows (of-range (feed_rows table.0) table.2) in
    let scores = subst HaveScores made.1 (all-scores 1 table.0.rows made.0) in
    let texts = subst (AllByRecursion (λ (row : FeedRow). is_utf8 row.join ≡ true)) made.1 (each-map (λ (row : FeedRow). is_utf8 row.join ≡ true) feed_row table.0.rows (table-text bytes.0 table.0 read)) in
    record { scores = scores; writable = both-each rows scores texts }
  where
    of-table : (result : Result Relation TableFault) (table : Relation) → or_table file result ≡ Ok table → result ≡ Ok table
    of-table (Ok t) table e = ap Ok (ok-same e)
    of-table (Err why) table e = absurd cc

    of-range : (result : Result (List FeedRow) RangeFault) → or_range file result ≡ Ok rows → result ≡ Ok rows
    of-range (Ok r) e = ap Ok (ok-same e)
    of-range (Err why) e = absurd cc
