-- What the parts of a run do, with the faults of statements: its events up to a halt, steps with the states that they leave, and fetches.
use Rattle.std.specs.Prelude.{ℕ, ◌≡◌, List, Option, Result}
use Rattle.rs_value.specs.Results.{◌>>=◌}
use Rattle.rs_outside.specs.Files.{FilesState}
use Rattle.rs_table.specs.Column.{Column}
use Rattle.rs_table.specs.Reading.{table_of}
use Rattle.rs_table.specs.Relation.{Relation}
use Rattle.rs_syntax.specs.Syntax.{Command, CreatePredicate, CreateRankIndex}
use Rattle.rs_syntax.specs.declared.name.Name.{Name}
use Rattle.rs_events.specs.Environment.{Environment}
use Rattle.rs_events.specs.Fetching as fetching
use Rattle.rs_events.specs.Running as running
use Rattle.rs_statement.specs.declared.fault.Fault.{Fault}
use Rattle.rs_statement.specs.declared.fault.Fault.TheVariants.{Memory}
use Rattle.rs_statement.specs.Content.{content_of, or_table_fault, table_limit}
use Rattle.rs_statement.specs.Steps.{Run, Step, statement_faults}

abbrev pub Ran : Run → Result (Unit {0}) Fault → Environment → Environment → Type 0
Ran run result old new = running.Ran statement_faults run result old new

abbrev pub Runs : (Run → Type 0) → Result (Unit {0}) Fault → Environment → Environment → Type 0
Runs of result old new = running.Runs statement_faults of result old new

abbrev pub Stepped : {S : Type 0} → (Step S → Type 0) → S → Result (Unit {0}) Fault → Environment → Environment → Type 0
Stepped of left result old new = running.Stepped statement_faults of left result old new

abbrev pub Leaves : {S : Type 0} → Result S Fault → S → Result (Unit {0}) Fault → Type 0
Leaves outcome left result = running.Leaves Memory outcome left result

abbrev pub FetchesFile : {A : Type 0} → List ℕ → Result A Fault → (Option (List ℕ) → Result A Fault → Type 0) → FilesState → FilesState → Type 0
FetchesFile file result gives old new = fetching.FetchesFile Memory (statement_faults.IsFailedFetch file) file result gives old new

-- the table of the file, by these columns, or why there is none
abbrev pub IsReadTable : List ℕ → List Column → Option (List ℕ) → Result Relation Fault → Type 0
IsReadTable file columns there result = result ≡ (content_of table_limit file there >>= λ bytes. or_table_fault file (table_of columns bytes))

-- statements that make a predicate of this name, and a rank index of this name
abbrev pub IsPredicateNamed : Name → Command → Type 0
IsPredicateNamed name (CreatePredicate own params max cost formula) = name ≡ own
IsPredicateNamed name _ = ⊥

abbrev pub IsIndexNamed : Name → Command → Type 0
IsIndexNamed name (CreateRankIndex own table predicate args at) = name ≡ own
IsIndexNamed name _ = ⊥
