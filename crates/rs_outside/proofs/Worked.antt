-- The definitions, computed on examples.
use Rattle.std.proofs.Common.{◌≡◌, [], ◌∷◌, Some, None, Ok, Err, refl}
use Rattle.std.specs.Prelude.{codes}
use Rattle.std.specs.List.{concat}
use Rattle.rs_outside.specs.declared.files.FetchFault.TheVariants as fetch
use Rattle.rs_outside.specs.declared.sink.SinkFault.TheVariants as sink
use Rattle.rs_value.specs.Faults.{raised}
use Rattle.rs_outside.specs.Files.{Folder, file_named, with_file}
use Rattle.rs_outside.specs.MemFiles.{MemFilesState, no_files, after_add, after_fail_at, fetch_answer, after_fetch}
use Rattle.rs_outside.specs.MemSink.{MemSinkState, no_pieces, after_fail_put_at, put_answer, after_put}

-- two files, the first of them added twice
abbrev two_files : Folder
two_files = with_file (codes "a") (codes "new") (with_file (codes "b") (codes "x,y") (with_file (codes "a") (codes "old") []))

added_twice : two_files ≡ record { name = codes "a"; bytes = codes "new" } ∷ record { name = codes "b"; bytes = codes "x,y" } ∷ []
added_twice = refl

found : file_named (codes "b") two_files ≡ Some (codes "x,y")
found = refl

not_found : file_named (codes "c") two_files ≡ None
not_found = refl

-- a count rises by one, and stands still at its end
counted : raised 7 ≡ 8
counted = refl

counted_last : raised 18446744073709551614 ≡ 18446744073709551615
counted_last = refl

counted_no_more : raised 18446744073709551615 ≡ 18446744073709551615
counted_no_more = refl

-- a file of three bytes, with fetches 2 and 4 to fail
abbrev planned : MemFilesState
planned = after_fail_at 4 (after_fail_at 2 (after_add (codes "b") (codes "x,y") no_files))

first_fetch : fetch_answer (codes "b") 3 planned ≡ Ok tt
first_fetch = refl

too_long : fetch_answer (codes "b") 2 planned ≡ Err fetch.TooLong
too_long = refl

missing : fetch_answer (codes "c") 3 planned ≡ Err fetch.Missing
missing = refl

abbrev fetched_once : MemFilesState
fetched_once = after_fetch (codes "b") (Ok tt) planned

second_fetch : fetch_answer (codes "b") 3 fetched_once ≡ Err fetch.Failed
second_fetch = refl

abbrev fetched_twice : MemFilesState
fetched_twice = after_fetch (codes "b") (Err fetch.Failed) fetched_once

after_two : fetched_twice ≡ record {
  folder = record { name = codes "b"; bytes = codes "x,y" } ∷ [];
  fetched = codes "b" ∷ codes "b" ∷ [];
  failing = 2 ∷ 4 ∷ [];
  faults = 1;
}
after_two = refl

-- a fetch for which there is no memory is not counted
third_fetch : fetch_answer (codes "c") 3 (after_fetch (codes "c") (Err fetch.Memory) fetched_twice) ≡ Err fetch.Missing
third_fetch = refl

fourth_fetch : fetch_answer (codes "b") 3 (after_fetch (codes "c") (Err fetch.Missing) fetched_twice) ≡ Err fetch.Failed
fourth_fetch = refl

-- a sink whose second put takes two bytes and fails; of two failures for one put the first counts
abbrev planned_sink : MemSinkState
planned_sink = after_fail_put_at 2 9 (after_fail_put_at 2 2 no_pieces)

first_put : put_answer planned_sink ≡ Ok tt
first_put = refl

abbrev put_once : MemSinkState
put_once = after_put (codes "abc") (Ok tt) planned_sink

second_put : put_answer put_once ≡ Err sink.Failed
second_put = refl

abbrev put_thrice : MemSinkState
put_thrice = after_put (codes "g") (Ok tt) (after_put (codes "def") (Err sink.Failed) put_once)

pieces : put_thrice.pieces ≡ codes "abc" ∷ codes "de" ∷ codes "g" ∷ []
pieces = refl

bytes : concat put_thrice.pieces ≡ codes "abcdeg"
bytes = refl

faults : put_thrice.faults ≡ 1
faults = refl

third_put : put_answer put_thrice ≡ Ok tt
third_put = refl
