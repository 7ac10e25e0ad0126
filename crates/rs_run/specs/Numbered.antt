-- The statements of a script one after another, each by its number and over what the earlier ones left, whatever a word makes of one.
use Rattle.std.specs.Prelude.{ℕ, suc, ◌≡◌, List, Result, Ok, Err}
use Rattle.rs_syntax.specs.Syntax.{Command}
use Rattle.rs_expr.specs.Scoring.{Answering}
use Rattle.rs_outside.specs.Files.{Contents, Finds, StaysKnown, finds_in}
use Rattle.rs_events.specs.Run.{Run}
use Rattle.rs_events.specs.Sequence.{RunOf, Step}

-- the number of the next statement, and what is kept so far
pub record Numbered (K : Type 0) : Type 0 where
  pub number : ℕ
  pub kept : K

-- a script starts with its first statement
abbrev pub first_statement : {K : Type 0} → K → Numbered K
first_statement kept = record { number = 1; kept = kept }

-- what a step leaves, before the statement of the next number
abbrev pub numbered_step : {F K : Type 0} → ℕ → Step F K → Step F (Numbered K)
numbered_step {F} {K} number step = record { events = step.events; outcome = of step.outcome } where
  of : Result K F → Result (Numbered K) F
  of (Ok kept) = Ok (record { number = suc number; kept = kept })
  of (Err fault) = Err fault

-- what the next statement does, by its number
abbrev pub DoesNext : {F K : Type 0} → (ℕ → K → Command → Step F K → Type 0) → Numbered K → Command → Step F (Numbered K) → Type 0
DoesNext {F} {K} does state command step = (own : Step F K) × does state.number state.kept command own × (step ≡ numbered_step state.number own)

-- what holds of all that a word makes of statements: each does something, and no less where less is known of the files
pub record IsDialect {F K : Type 0} (does : Finds → Answering → ℕ → K → Command → Step F K → Type 0) : Type 0 where
  pub some : (contents : Contents) (answer : Answering) (number : ℕ) (kept : K) (command : Command) → (step : Step F K) × does (finds_in contents) answer number kept command step
  pub less : (old new : Contents) → StaysKnown old new → (answer : Answering) (number : ℕ) (kept : K) (command : Command) (step : Step F K)
      → does (finds_in new) answer number kept command step → does (finds_in old) answer number kept command step

-- the run of statements, the first of which has this number
abbrev pub NumberedRun : {F K : Type 0} → (ℕ → K → Command → Step F K → Type 0) → Numbered K → List Command → Run F → Type 0
NumberedRun does state commands run = RunOf (DoesNext does) state commands run
