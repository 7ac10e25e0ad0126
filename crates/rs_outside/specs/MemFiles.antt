-- Files in memory: what they hold, and what each call does to it.
use Rattle.std.specs.Prelude.{ℕ, ◌+◌, ◌==◌, nat_le, Bool, true, List, [], ◌∷◌, ◌++◌, length, Option, Some, None, Result, Ok, Err, if◌then◌else◌}
use Rattle.std.specs.List.{list_any}
use Rattle.rs_outside.specs.declared.files.FetchFault.{FetchFault}
use Rattle.rs_outside.specs.declared.files.FetchFault.TheVariants.{Missing, TooLong, Failed, Memory}
use Rattle.rs_value.specs.Faults.{raised}
use Rattle.rs_outside.specs.Files.{FilesState, Folder, all_known, file_named, with_file}

-- the files, the names that were fetched, the numbers of the fetches that are to fail, and how many failed
pub record MemFilesState : Type 0 where
  pub folder : Folder
  pub fetched : List (List ℕ)
  pub failing : List ℕ
  pub faults : ℕ

-- no files, no fetch yet, no failure planned
abbrev pub no_files : MemFilesState
no_files = record { folder = []; fetched = []; failing = []; faults = 0 }

-- the state with these bytes under this name
abbrev pub after_add : List ℕ → List ℕ → MemFilesState → MemFilesState
after_add name bytes state = record state { folder = with_file name bytes state.folder }

-- the state with one more fetch that is to fail
abbrev pub after_fail_at : ℕ → MemFilesState → MemFilesState
after_fail_at call state = record state { failing = state.failing ++ call ∷ [] }

-- the next fetch is to fail: its number, counted from 1, is planned
abbrev pub is_fetch_planned : MemFilesState → Bool
is_fetch_planned state = list_any (λ call. call == length state.fetched + 1) state.failing

-- what a fetch answers where these bytes are there, or no file is
abbrev pub found_answer : Option (List ℕ) → ℕ → Result (Unit {0}) FetchFault
found_answer None limit = Err Missing
found_answer (Some bytes) limit = if nat_le (length bytes) limit then Ok tt else Err TooLong

-- what a fetch of this name answers, where there is memory
abbrev pub fetch_answer : List ℕ → ℕ → MemFilesState → Result (Unit {0}) FetchFault
fetch_answer name limit state =
    if is_fetch_planned state then Err Failed else found_answer (file_named name state.folder) limit

-- the state after a fetch of this name with this answer
abbrev pub after_fetch : List ℕ → Result (Unit {0}) FetchFault → MemFilesState → MemFilesState
after_fetch name (Err Memory) state = state
after_fetch name (Err Failed) state =
    record state { fetched = state.fetched ++ name ∷ []; faults = raised state.faults }
after_fetch name (Err Missing) state = record state { fetched = state.fetched ++ name ∷ [] }
after_fetch name (Err TooLong) state = record state { fetched = state.fetched ++ name ∷ [] }
after_fetch name (Ok done) state = record state { fetched = state.fetched ++ name ∷ [] }

-- what contracts see of files in memory: they tell all, and are steady where no fetch is to fail
abbrev pub files_state : MemFilesState → FilesState
files_state state = record {
  outside = record { told = Some state.fetched; faults = state.faults; steady = length state.failing == 0 };
  contents = all_known (λ name. file_named name state.folder);
  remembers = true;
}
