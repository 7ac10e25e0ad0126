-- What is read of a file.
use Rattle.std.specs.Prelude.{ℕ, List, Option, Result, Ok, Err}
use Rattle.rs_outside.specs.declared.files.FetchFault.{FetchFault}
use Rattle.rs_table.specs.declared.fault.TableFault.{TableFault}
use Rattle.rs_events.specs.Fetching.{fetched_bytes}
use Rattle.rs_statement.specs.declared.fault.Fault.{Fault}
use Rattle.rs_statement.specs.declared.fault.Fault.TheVariants.{Read, Table}

-- that this file isn't read ends the run
abbrev pub or_read_fault : {A : Type 0} → List ℕ → Result A FetchFault → Result A Fault
or_read_fault name (Ok a) = Ok a
or_read_fault name (Err why) = Err (Read name why)

-- the bytes of a file, or why it is not read
abbrev pub content_of : ℕ → List ℕ → Option (List ℕ) → Result (List ℕ) Fault
content_of limit name there = or_read_fault name (fetched_bytes limit there)

-- the most bytes of a table's file
abbrev pub table_limit : ℕ
table_limit = 33554432

-- a fault of this file's table ends the run
abbrev pub or_table_fault : {A : Type 0} → List ℕ → Result A TableFault → Result A Fault
or_table_fault name (Ok a) = Ok a
or_table_fault name (Err why) = Err (Table name why)
