-- What calls did that fetch a file, whatever the type of faults.
use Rattle.std.specs.Prelude.{ℕ, nat_le, ◌≡◌, ◌⊎◌, List, [], ◌∷◌, length, Option, Some, None, IfOk, option_map, Result, Ok, Err, if◌then◌else◌}
use Rattle.rs_value.specs.Outside.{Faulted}
use Rattle.rs_outside.specs.Files.{FilesState, KeepsFiles, Remembers, finds_in}
use Rattle.rs_outside.specs.declared.files.FetchFault.{FetchFault}
use Rattle.rs_outside.specs.declared.files.FetchFault.TheVariants.{Missing, TooLong}
use Rattle.rs_events.specs.Halts.{fetched_more}

-- the bytes of a file, which are at most this many, or why it is not read
abbrev pub fetched_bytes : ℕ → Option (List ℕ) → Result (List ℕ) FetchFault
fetched_bytes limit None = Err Missing
fetched_bytes limit (Some bytes) = if nat_le (length bytes) limit then Ok bytes else Err TooLong

-- there was no memory for a fetch
pub record NotFetched {F A : Type 0} (memory : F) (result : Result A F) (old new : FilesState) : Type 0 where
  pub same : new.outside.told ≡ old.outside.told
  pub answers : result ≡ Err memory

-- the fetch of this file failed, and a fault tells it
pub record FetchFails {F A : Type 0} (memory : F) (Tells : F → Type 0) (file : List ℕ) (result : Result A F) (old new : FilesState) : Type 0 where
  pub fetched : new.outside.told ≡ option_map (fetched_more (file ∷ [])) old.outside.told
  pub faulted : Faulted old.outside new.outside
  pub answers : ((why : F) × Tells why × (result ≡ Err why)) ⊎ (result ≡ Err memory)

-- the file was fetched, or isn't there, and the result is one that it gives
pub record Fetched {F A : Type 0} (memory : F) (file : List ℕ) (gives : Result A F → Type 0) (result : Result A F) (old new : FilesState) : Type 0 where
  pub fetched : new.outside.told ≡ option_map (fetched_more (file ∷ [])) old.outside.told
  pub answers : gives result ⊎ (result ≡ Err memory)

-- what a call did that fetches a file: the bytes that are there under this name, or that there are none, give its result
pub record FetchesFile {F A : Type 0} (memory : F) (Tells : F → Type 0) (file : List ℕ) (result : Result A F) (gives : Option (List ℕ) → Result A F → Type 0) (old new : FilesState) : Type 0 where
  pub there : Option (List ℕ)
  pub is_found : finds_in new.contents file there
  pub learned : IfOk result (λ a. Remembers new file there)
  pub does : (NotFetched memory result old new ⊎ FetchFails memory Tells file result old new) ⊎ Fetched memory file (gives there) result old new
  pub keeps : KeepsFiles old new
