-- Names of which a script makes predicates.
use Rattle.std.specs.Prelude.{ℕ, ◌≡◌, ◌⊎◌, Bool, false, not, List, find, Option, None, Ok}
use Rattle.std.specs.List.{list_any}
use Rattle.std.specs.Str.{bytes_eq}
use Rattle.rs_value.specs.Outside.{Faulted}
use Rattle.rs_outside.specs.Files.{FilesState, Finds, Remembers, finds_in}
use Rattle.rs_syntax.specs.Syntax.{Command, CreatePredicate}
use Rattle.rs_statement.specs.Steps.{Run}
use Rattle.rs_run.specs.Plain.{HasStatements, ScriptRuns, as_it_is, source_of}

-- a statement makes a predicate of this name
abbrev pub makes_predicate : List ℕ → Command → Bool
makes_predicate name (CreatePredicate own params max cost formula) = bytes_eq own.text name
makes_predicate name _ = false

-- one of these statements does
abbrev pub has_predicate : List ℕ → List Command → Bool
has_predicate name commands = list_any (λ command. makes_predicate name command) commands

-- the first of these names of which the statements make no predicate
abbrev pub unmade_in : List (List ℕ) → List Command → Option (List ℕ)
unmade_in names commands = find (λ name. not (has_predicate name commands)) names

-- the script of this name is made of these statements, and files that remember what was found remember its text
pub record IsScript (files : FilesState) (script : List ℕ) (commands : List Command) : Type 0 where
  pub there : Option (List ℕ)
  pub text : List ℕ
  pub is_found : finds_in files.contents script there
  pub learned : Remembers files script there
  pub source : source_of script there ≡ Ok text
  pub made : HasStatements text commands

-- the script of this name has no statements: it has a run, whatever statements do
abbrev pub IsNoScript : Finds → List ℕ → Type 0
IsNoScript finds script = (run : Run) × ScriptRuns as_it_is finds (λ commands run. ⊥) script run

-- what a look for predicates of these names gives: the first one of which the statements of the script make none, or none where the script has no statements or the fetch of it failed
abbrev pub Looks : List ℕ → List (List ℕ) → Option (List ℕ) → FilesState → FilesState → Type 0
Looks script names name old new =
    ((commands : List Command) × IsScript new script commands × (name ≡ unmade_in names commands))
    ⊎ ((name ≡ None) × (IsNoScript (finds_in new.contents) script ⊎ Faulted old.outside new.outside))
