-- The statements that a script is read into.
use Rattle.std.specs.Prelude.{List, refl, ℕ, ◌≡◌}
use Rattle.std.specs.Coded.{Coded, code_by, coded×, coded_list, coded_ℕ}
use Rattle.rs_syntax.specs.Syntax.{commands_of}
use Rattle.rs_syntax.specs.Written.{AreWritten}
use Rattle.rs_syntax.specs.contracts.statement.Statement as statement
use Rattle.rs_syntax.specs.declared.statement.Statement.{Statement}
use Rattle.rs_statement.specs.declared.fault.Fault.{Fault}
use Rattle.rs_statement.specs.declared.fault.Fault.TheVariants.{Memory}
use Rattle.rs_statement.specs.Steps.{statement_faults}
use Rattle.rs_events.specs.HaltFaults.{HaltFaults}
use Rattle.rs_events.specs.Run.{fails}
use Rattle.rs_run.specs.Plain.{HasStatements, TextRuns, as_it_is}

-- a text, and the statements that it is made of
pub record ScriptRead : Type 0 where
  pub text : List ℕ
  pub statements : List Statement

-- a text is made of these statements
pub record IsScriptRead (read : ScriptRead) : Type 0 where
  pub made : HasStatements read.text (commands_of read.statements)
  pub written : AreWritten (commands_of read.statements)

-- a text is refused with this fault, whatever statements do
abbrev pub IsRefused : List ℕ → Fault → Type 0
IsRefused text fault = TextRuns as_it_is (λ commands run. ⊥) text (fails fault)

-- with which faults a script is run: those of statements, told so
pub record TellScript {F : Type 0} (told : Fault → F) (faults : HaltFaults F) : Type 0 where
  pub memory : told Memory ≡ faults.memory
  pub failed_fetch : (name : List ℕ) (fault : Fault) → statement_faults.IsFailedFetch name fault → faults.IsFailedFetch name (told fault)

-- how the logic stores it: as the tuple of its fields
abbrev pub script_code : Coded ScriptRead
script_code =
    code_by (List ℕ × List Statement) (coded× (coded_list coded_ℕ) (coded_list statement.the_row.coded))
    (λ r. (r.text, r.statements)) (λ t. record { text = t.0; statements = t.1 }) (λ _. refl)
