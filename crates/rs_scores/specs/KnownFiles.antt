-- Files of which each is fetched once: what was found of them, and what a fetch does to it.
use Rattle.std.specs.Prelude.{ℕ, ◌≡◌, ◌≢◌, ◌⊎◌, true, List, [], ◌∷◌, ◌++◌, find, Option, Some, None, IfErr, OnErr, OnOk, option_map, Result, Err}
use Rattle.std.specs.Str.{bytes_eq}
use Rattle.rs_value.specs.Outside.{Counts}
use Rattle.rs_outside.specs.Files.{Contents, Fetches, FilesState, StaysKnown, finds_in, told_after}
use Rattle.rs_outside.specs.declared.files.FetchFault.{FetchFault}
use Rattle.rs_outside.specs.declared.files.FetchFault.TheVariants.{Failed, Memory, Missing}

-- a name, and the bytes that were found under it, or that none are there
pub record Found : Type 0 where
  pub name : List ℕ
  pub there : Option (List ℕ)

-- the files below, and what was found of them
pub record KnownFilesState (F : Type 0) : Type 0 where
  pub files : F
  pub found : List Found

-- what was found under a name, if it was looked for
abbrev pub found_under : List ℕ → List Found → Option Found
found_under name found = find (λ file. bytes_eq file.name name) found

-- what was found, and this under a name
abbrev pub found_with : List ℕ → Option (List ℕ) → List Found → List Found
found_with name there found = found ++ record { name = name; there = there } ∷ []

-- what looking for a file did: the files below were asked once, and what they gave was added, or that no file is there; unless they failed, the file was too long, or there was no memory
pub record Looks (name : List ℕ) (limit : ℕ) (result : Result (Unit {0}) FetchFault) (old new : FilesState) (found more : List Found) : Type 0 where
  pub there : Option (List ℕ)
  pub is_found : finds_in new.contents name there
  pub stays_known : StaysKnown old.contents new.contents
  pub told : (new.outside.told ≡ option_map (told_after name result) old.outside.told) ⊎ (result ≡ Err Memory)
  pub counts : Counts (result ≡ Err Failed) old.outside new.outside
  pub added : OnOk result (more ≡ found_with name there found)
  pub same : OnErr result (more ≡ found)
  pub refused : IfErr result (λ fault. Fetches there limit [] (Err fault) [])
  pub missing_is_added : result ≢ Err Missing

-- what was found, or else what is known
abbrev pub there_or : Option Found → Option (Option (List ℕ)) → Option (Option (List ℕ))
there_or (Some file) known = Some file.there
there_or None known = known

-- what is known of them: what was found under a name, and where nothing was found what is known of the files below
abbrev pub known_contents : List Found → Contents → Contents
known_contents found below name = there_or (found_under name found) (below name)

-- what contracts see of them: they tell no names, fail where the files below do, and remember what is found
abbrev pub known_state : List Found → FilesState → FilesState
known_state found files = record {
  outside = record { told = None; faults = files.outside.faults; steady = files.outside.steady };
  contents = known_contents found files.contents;
  remembers = true;
}
