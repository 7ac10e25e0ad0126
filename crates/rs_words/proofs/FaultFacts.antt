-- The faults that the definitions of the words end with: never that a put failed.
use Rattle.std.proofs.Common.{ℕ, zero, suc, nat_lt, Bool, true, false, cond, length, List, Option, Some, None, Result, Ok, Err, sym, subst}
use Rattle.rs_value.specs.Results.{◌>>=◌}
use Rattle.rs_outside.specs.declared.files.FetchFault.{FetchFault}
use Rattle.rs_outside.specs.declared.files.FetchFault.TheVariants as fetch
use Rattle.rs_table.specs.declared.fault.TableFault.{TableFault}
use Rattle.rs_table.specs.declared.fault.TableFault.TheVariants as table
use Rattle.rs_table.specs.Reading.{table_of}
use Rattle.rs_table.specs.Relation.{Relation}
use Rattle.rs_feed.specs.declared.feed_row.FeedRow.{FeedRow}
use Rattle.rs_table_feed.specs.declared.range_fault.RangeFault.{RangeFault}
use Rattle.rs_table_feed.specs.TableFeeds.{feed_rows}
use Rattle.rs_feed_join.specs.declared.fault.JoinFault.{JoinFault}
use Rattle.rs_feed_join.specs.declared.fault.JoinFault.TheVariants as join
use Rattle.rs_feed_join.specs.declared.feed_pair.FeedPair.{FeedPair}
use Rattle.rs_feed_join.specs.Answers.{next_answer}
use Rattle.rs_outside.specs.Files.{Finds}
use Rattle.rs_events.specs.Fetching.{fetched_bytes}
use Rattle.rs_events.specs.Run.{Run}
use Rattle.rs_words.specs.declared.fault.WordFault.{WordFault}
use Rattle.rs_words.specs.declared.fault.WordFault.TheVariants.{CertForm, CertTooLong, Memory, Order, Range, Read, Table, Write}
use Rattle.rs_words.specs.Faults.{or_range, or_read, or_table}
use Rattle.rs_words.specs.FeedFiles.{feed_columns, feed_file, file_limit, rows_in}
use Rattle.rs_cert.specs.declared.cert.Cert.{Cert}
use Rattle.rs_cert.specs.Records.{most_rows}
use Rattle.rs_cert.specs.Written.{written}
use Rattle.rs_words.specs.Certifying.{IsCertRun, bytes_of, bytes_run, certified, certified_after, certified_behind, few_rows, joined_bytes, joined_cert_run}
use Rattle.rs_words.specs.Checking.{IsCheckRun, IsCheckedRun, IsReadRun, judged, strange}
use Rattle.rs_words.specs.Feeding.{IsFeedRun, call_run, pairs_run, run_behind}
use Rattle.rs_words.specs.TwoFeeds.{FeedWords, IsTwoFeedsRun, JoinRun, LeftRun, right_run}
use Rattle.rs_words.specs.Joining.{join_fault}

abbrev pub IsNoPut : WordFault → Type 0
IsNoPut (Read file why) = Unit {0}
IsNoPut Write = ⊥
IsNoPut (Table file why) = Unit {0}
IsNoPut (Range file why) = Unit {0}
IsNoPut (Order side row before got) = Unit {0}
IsNoPut (CertTooLong file) = Unit {0}
IsNoPut (CertForm place) = Unit {0}
IsNoPut Memory = Unit {0}

abbrev pub EndsByNoPut : Option WordFault → Type 0
EndsByNoPut None = Unit {0}
EndsByNoPut (Some fault) = IsNoPut fault

-- of what a file gives
abbrev GivesNoPut : {A : Type 0} → Result A WordFault → Type 0
GivesNoPut (Ok a) = Unit {0}
GivesNoPut (Err fault) = IsNoPut fault

of-read : {A : Type 0} (file : ℕ) (result : Result A FetchFault) → GivesNoPut (or_read file result)
of-read file (Ok a) = tt
of-read file (Err fetch.Memory) = tt
of-read file (Err fetch.Missing) = tt
of-read file (Err fetch.TooLong) = tt
of-read file (Err fetch.Failed) = tt

of-table : (file : ℕ) (result : Result Relation TableFault) → GivesNoPut (or_table file result)
of-table file (Ok a) = tt
of-table file (Err table.NoHeader) = tt
of-table file (Err (table.HeaderDiffers column)) = tt
of-table file (Err (table.FieldCount row found)) = tt
of-table file (Err (table.NotUtf8 row column)) = tt
of-table file (Err (table.NotInt row column)) = tt
of-table file (Err table.TooManyRows) = tt
of-table file (Err table.Memory) = tt
of-table file (Err table.NoColumn) = tt
of-table file (Err (table.TooManyColumns found)) = tt

of-range : (file : ℕ) (result : Result (List FeedRow) RangeFault) → GivesNoPut (or_range file result)
of-range file (Ok a) = tt
of-range file (Err why) = tt

of-both : {A B : Type 0} (result : Result A WordFault) (next : A → Result B WordFault) → GivesNoPut result → ((a : A) → GivesNoPut (next a)) → GivesNoPut (result >>= next)
of-both (Ok a) next first more = more a
of-both (Err fault) next first more = first

of-file : (file : ℕ) (there : Option (List ℕ)) → GivesNoPut (feed_file file there)
of-file file there =
    of-both (or_read file (fetched_bytes file_limit there)) (rows_in file) (of-read file (fetched_bytes file_limit there))
    (λ bytes. of-both (or_table file (table_of feed_columns bytes)) (λ table. or_range file (feed_rows table)) (of-table file (table_of feed_columns bytes)) (λ table. of-range file (feed_rows table)))

-- of the join
of-join : (why : JoinFault) → IsNoPut (join_fault why)
of-join (join.OutOfOrder side row before got) = tt
of-join (join.TooLong side) = tt
of-join (join.Failed side) = tt
of-join join.Memory = tt
of-join join.Broken = tt

of-call : (lefts rights : List FeedRow) (n : ℕ) (answer : Result (Option FeedPair) JoinFault) (more : Run WordFault) → EndsByNoPut more.fault → EndsByNoPut (call_run lefts rights n answer more).fault
of-call lefts rights n (Ok (Some pair)) more own = own
of-call lefts rights n (Ok None) more own = tt
of-call lefts rights n (Err why) more own = of-join why

of-pairs : (lefts rights : List FeedRow) (n more : ℕ) → EndsByNoPut (run_behind lefts rights n more).fault
unfolding run_behind
of-pairs lefts rights n zero = tt
of-pairs lefts rights n (suc more) = of-call lefts rights n (next_answer lefts rights n) (run_behind lefts rights (suc n) more) (of-pairs lefts rights (suc n) more)

-- of the whole run of a word over two feeds
module _ (joined : JoinRun) (finds : Finds) (own_of : (lefts rights : List FeedRow) (count : ℕ) → EndsByNoPut (joined lefts rights count).fault) where
  of-right : (lefts : List FeedRow) (count : ℕ) (rights : Result (List FeedRow) WordFault) → GivesNoPut rights → EndsByNoPut (right_run joined lefts count rights).fault
  of-right lefts count (Err fault) own = own
  of-right lefts count (Ok rights) own = own_of lefts rights count

  of-left : (words : FeedWords) (lefts : Result (List FeedRow) WordFault) (more : Run WordFault) → GivesNoPut lefts → LeftRun joined finds words lefts more → EndsByNoPut more.fault
  of-left words (Err fault) more own is = subst (λ (run : Run WordFault). EndsByNoPut run.fault) (sym is) own
  of-left words (Ok lefts) more own is =
      subst (λ (run : Run WordFault). EndsByNoPut run.fault) (sym is.2) (of-right lefts words.count (feed_file 2 is.0) (of-file 2 is.0))

  of-run : (words : FeedWords) (run : Run WordFault) → IsTwoFeedsRun joined finds words run → EndsByNoPut run.fault
  of-run words run is =
      subst (λ (run : Run WordFault). EndsByNoPut run.fault) (sym is.4) (of-left words (feed_file 1 is.0) is.2 (of-file 1 is.0) is.3)

pub feed-no_put : (finds : Finds) (words : FeedWords) (run : Run WordFault) → IsFeedRun finds words run → EndsByNoPut run.fault
feed-no_put finds words run is = of-run pairs_run finds (λ lefts rights count. of-pairs lefts rights 0 count) words run is

-- of `cert`
of-certified : (lefts rights : List FeedRow) (count n : ℕ) (answer : Result (Option FeedPair) JoinFault) (more : Result Cert WordFault) → GivesNoPut more → GivesNoPut (certified_after lefts rights count n answer more)
of-certified lefts rights count n (Ok (Some pair)) more own = own
of-certified lefts rights count n (Ok None) more own = tt
of-certified lefts rights count n (Err why) more own = of-join why

of-behind : (lefts rights : List FeedRow) (count n more : ℕ) → GivesNoPut (certified_behind lefts rights count n more)
unfolding certified_behind
of-behind lefts rights count n zero = tt
of-behind lefts rights count n (suc more) =
    of-certified lefts rights count n (next_answer lefts rights n) (certified_behind lefts rights count (suc n) more) (of-behind lefts rights count (suc n) more)

of-few : (side rows : ℕ) → GivesNoPut (few_rows side rows)
of-few side rows = go (nat_lt most_rows rows) where
  go : (many : Bool) → GivesNoPut {A = Unit {0}} (cond many (Err (CertTooLong side)) (Ok tt))
  go true = tt
  go false = tt

of-bytes : (cert : Cert) → GivesNoPut (bytes_of cert)
of-bytes cert =
    of-both (few_rows 1 (length cert.left.rows)) (λ left. few_rows 2 (length cert.right.rows) >>= λ right. Ok (written cert)) (of-few 1 (length cert.left.rows))
    (λ left. of-both (few_rows 2 (length cert.right.rows)) (λ right. Ok (written cert)) (of-few 2 (length cert.right.rows)) (λ right. tt))

of-bytes_run : (bytes : Result (List ℕ) WordFault) → GivesNoPut bytes → EndsByNoPut (bytes_run bytes).fault
of-bytes_run (Ok bytes) own = tt
of-bytes_run (Err fault) own = own

pub cert-no_put : (finds : Finds) (words : FeedWords) (run : Run WordFault) → IsCertRun finds words run → EndsByNoPut run.fault
cert-no_put finds words run is =
    of-run joined_cert_run finds
    (λ lefts rights count. of-bytes_run (joined_bytes lefts rights count) (of-both (certified lefts rights count) bytes_of (of-behind lefts rights count 0 count) of-bytes))
    words run is

-- of `check`
of-checked : (bytes : List ℕ) (run : Run WordFault) → IsCheckedRun bytes run → EndsByNoPut run.fault
of-checked bytes _ (strange place form) = tt
of-checked bytes _ (judged cert verdict are is) = tt

of-read_run : (bytes : Result (List ℕ) WordFault) (run : Run WordFault) → GivesNoPut bytes → IsReadRun bytes run → EndsByNoPut run.fault
of-read_run (Err fault) run own is = subst (λ (run : Run WordFault). EndsByNoPut run.fault) (sym is) own
of-read_run (Ok bytes) run own is = of-checked bytes run is

pub check-no_put : (finds : Finds) (file : List ℕ) (run : Run WordFault) → IsCheckRun finds file run → EndsByNoPut run.fault
check-no_put finds file run is =
    subst (λ (run : Run WordFault). EndsByNoPut run.fault) (sym is.4)
    (of-read_run (or_read 1 (fetched_bytes file_limit is.0)) is.2 (of-read 1 (fetched_bytes file_limit is.0)) is.3)
