-- With which faults words end.
use Rattle.std.specs.Prelude.{ℕ, ◌≡◌, ◌⊎◌, List, Result, Ok, Err}
use Rattle.rs_outside.specs.declared.files.FetchFault.{FetchFault}
use Rattle.rs_outside.specs.declared.files.FetchFault.TheVariants as fetch
use Rattle.rs_table.specs.declared.fault.TableFault.{TableFault}
use Rattle.rs_table.specs.declared.fault.TableFault.TheVariants as table
use Rattle.rs_table_feed.specs.declared.range_fault.RangeFault.{RangeFault}
use Rattle.rs_cert.specs.declared.fault.CertFault.{CertFault}
use Rattle.rs_cert.specs.declared.fault.CertFault.TheVariants as cert
use Rattle.rs_expr.specs.declared.scorer.Call.{Call}
use Rattle.rs_events.specs.HaltFaults.{HaltFaults}
use Rattle.rs_words.specs.declared.fault.PutFault.{PutFault}
use Rattle.rs_words.specs.declared.fault.PutFault.TheVariants as put
use Rattle.rs_words.specs.declared.fault.WordFault.{WordFault}
use Rattle.rs_words.specs.declared.fault.WordFault.TheVariants.{CertForm, Memory, Range, Read, Table, Write}

-- with which faults the halts of puts are told. A word calls no scorer
abbrev pub put_faults : HaltFaults WordFault
put_faults = record {
  memory = Memory;
  write = Write;
  failed_call = λ (call : Call). Memory;
  IsFailedFetch = λ (name : List ℕ) (fault : WordFault). ⊥;
}

-- the same with two fetches: the fault of a failed one tells which of both files it was
abbrev pub feed_faults : List ℕ → List ℕ → HaltFaults WordFault
feed_faults left right = record {
  memory = Memory;
  write = Write;
  failed_call = λ (call : Call). Memory;
  IsFailedFetch = λ (name : List ℕ) (fault : WordFault). ((name ≡ left) × (fault ≡ Read 1 fetch.Failed)) ⊎ ((name ≡ right) × (fault ≡ Read 2 fetch.Failed));
}

-- the same with the fetch of one file
abbrev pub file_faults : List ℕ → HaltFaults WordFault
file_faults file = record {
  memory = Memory;
  write = Write;
  failed_call = λ (call : Call). Memory;
  IsFailedFetch = λ (name : List ℕ) (fault : WordFault). (name ≡ file) × (fault ≡ Read 1 fetch.Failed);
}

-- why the file of this number is no feed
abbrev pub read_fault : ℕ → FetchFault → WordFault
read_fault file fetch.Memory = Memory
read_fault file fetch.Missing = Read file fetch.Missing
read_fault file fetch.TooLong = Read file fetch.TooLong
read_fault file fetch.Failed = Read file fetch.Failed

abbrev pub table_fault : ℕ → TableFault → WordFault
table_fault file table.Memory = Memory
table_fault file why = Table file why

-- why the only file is no certificate
abbrev pub cert_fault : CertFault → WordFault
cert_fault (cert.Form place) = CertForm place
cert_fault cert.Memory = Memory

abbrev pub or_read : {A : Type 0} → ℕ → Result A FetchFault → Result A WordFault
or_read file (Ok a) = Ok a
or_read file (Err why) = Err (read_fault file why)

abbrev pub or_table : {A : Type 0} → ℕ → Result A TableFault → Result A WordFault
or_table file (Ok a) = Ok a
or_table file (Err why) = Err (table_fault file why)

abbrev pub or_range : {A : Type 0} → ℕ → Result A RangeFault → Result A WordFault
or_range file (Ok a) = Ok a
or_range file (Err why) = Err (Range file why)

-- how a word tells that a put didn't go well
abbrev pub put_fault : PutFault → WordFault
put_fault put.Write = Write
put_fault put.Memory = Memory
