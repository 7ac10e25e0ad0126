-- Files by name, and what a fetch does.
use Rattle.std.specs.Prelude.{ℕ, ◌≡◌, ◌<◌, ◌≤◌, Bool, true, List, [], ◌∷◌, ◌++◌, length, Option, Some, None, IfSome, Result, Ok, Err, if◌then◌else◌}
use Rattle.std.specs.Str.{bytes_eq}
use Rattle.rs_value.specs.Outside.{Keeps, Outside}
use Rattle.rs_outside.specs.declared.files.FetchFault.{FetchFault}
use Rattle.rs_outside.specs.declared.files.FetchFault.TheVariants.{Missing, TooLong, Failed, Memory}

pub record File : Type 0 where
  pub name : List ℕ
  pub bytes : List ℕ

-- files; where two have one name, the first counts
abbrev pub Folder : Type 0
Folder = List File

-- the bytes of the file of this name
abbrev pub file_named : List ℕ → Folder → Option (List ℕ)
file_named name [] = None
file_named name (file ∷ rest) = if bytes_eq file.name name then Some file.bytes else file_named name rest

-- the folder with these bytes under this name: in place of those that are there, or else as a last file
abbrev pub with_file : List ℕ → List ℕ → Folder → Folder
with_file name bytes [] = record { name = name; bytes = bytes } ∷ []
with_file name bytes (file ∷ rest) =
    if bytes_eq file.name name then record { name = file.name; bytes = bytes } ∷ rest else file ∷ with_file name bytes rest

-- what is known of the file of each name: that these bytes are there, or that no file is; or nothing is known
abbrev pub Contents : Type 0
Contents = List ℕ → Option (Option (List ℕ))

-- all is known: this is there under each name
abbrev pub all_known : (List ℕ → Option (List ℕ)) → Contents
all_known there name = Some (there name)

-- what a fetch finds under a name: these bytes, or no file. A disk may change between two fetches
abbrev pub Finds : Type 1
Finds = List ℕ → Option (List ℕ) → Type 0

-- what a fetch finds where this is known of the files: what is known to be there, and anything where nothing is known
abbrev pub finds_in : Contents → Finds
finds_in contents name there = IfSome (contents name) (λ known. known ≡ there)

-- files that stay as they are: these bytes are under a name, or no file is
abbrev pub found_in : (List ℕ → Option (List ℕ)) → Finds
found_in there = finds_in (all_known there)

-- for as long as fetches go on, what is known stays known
abbrev pub StaysKnown : Contents → Contents → Type 0
StaysKnown old new = (name : List ℕ) (there : Option (List ℕ)) → old name ≡ Some there → new name ≡ Some there

-- what contracts see of files: the names that were fetched so far, where the object tells them, how many fetches failed, and
-- whether none will; what is known of each file; and whether what a fetch finds is known from then on
pub record FilesState : Type 0 where
  pub outside : Outside (List (List ℕ))
  pub contents : Contents
  pub remembers : Bool

-- for as long as fetches go on, the count of faults never falls, what is steady stays so, what is known stays known, and whether
-- what is found is known from then on stays
pub record KeepsFiles (old new : FilesState) : Type 0 where
  pub outside : Keeps old.outside new.outside
  pub contents : StaysKnown old.contents new.contents
  pub remembers : new.remembers ≡ old.remembers

-- this is known of the file of this name, where the files remember what is found
abbrev pub Remembers : FilesState → List ℕ → Option (List ℕ) → Type 0
Remembers files name there = files.remembers ≡ true → files.contents name ≡ Some there

-- what a fetch answers and appends, where these bytes are there under the name, or no file is. Ok: they are at most
-- `limit`, and are appended. Missing: no file is. TooLong: they are more. After each fault the buffer is as before
abbrev pub Fetches : Option (List ℕ) → ℕ → List ℕ → Result (Unit {0}) FetchFault → List ℕ → Type 0
Fetches there limit old (Ok done) new =
    (bytes : List ℕ) × (there ≡ Some bytes) × (length bytes ≤ limit) × (new ≡ old ++ bytes)
Fetches there limit old (Err Missing) new = (there ≡ None) × (new ≡ old)
Fetches there limit old (Err TooLong) new = (bytes : List ℕ) × (there ≡ Some bytes) × (limit < length bytes) × (new ≡ old)
Fetches there limit old (Err Failed) new = new ≡ old
Fetches there limit old (Err Memory) new = new ≡ old

-- the fetch told what is there: these bytes, or that no file is
abbrev pub TellsFile : Result (Unit {0}) FetchFault → Type 0
TellsFile (Ok done) = Unit {0}
TellsFile (Err Missing) = Unit {0}
TellsFile (Err TooLong) = ⊥
TellsFile (Err Failed) = ⊥
TellsFile (Err Memory) = ⊥

-- what a fetch of this name did to a buffer, behind which the files are these: some bytes are there, or no file is, and that is
-- remembered where the fetch told it
pub record FindsFile (name : List ℕ) (limit : ℕ) (result : Result (Unit {0}) FetchFault) (old new : List ℕ) (files : FilesState) : Type 0 where
  pub there : Option (List ℕ)
  pub is_found : finds_in files.contents name there
  pub fetches : Fetches there limit old result new
  pub learned : TellsFile result → Remembers files name there

-- what an object tells after a fetch of this name: each fetch is added, save one for which there was no memory
abbrev pub told_after : List ℕ → Result (Unit {0}) FetchFault → List (List ℕ) → List (List ℕ)
told_after name (Err Memory) told = told
told_after name (Err Missing) told = told ++ name ∷ []
told_after name (Err TooLong) told = told ++ name ∷ []
told_after name (Err Failed) told = told ++ name ∷ []
told_after name (Ok done) told = told ++ name ∷ []
