-- What a script becomes behind some of its statements.
use Rattle.std.specs.Prelude.{◌≡◌, List, [], ◌∷◌, Ok}
use Rattle.rs_expr.specs.Scoring.{Answering}
use Rattle.rs_syntax.specs.Syntax.{Command}
use Rattle.rs_outside.specs.Files.{Finds}
use Rattle.rs_events.specs.Sequence.{Step}
use Rattle.rs_statement.specs.Session.{DoesInSession, State}
use Rattle.rs_statement.specs.declared.evaluating.Evaluating.{Evaluating}

-- these commands, each of which ends without a fault, lead from one state to another
abbrev pub Leads : {F S C : Type 0} → (S → C → Step F S → Type 0) → S → List C → S → Type 0
Leads does state [] later = later ≡ state
Leads {F} {S} does state (command ∷ rest) later =
    (next : S) × (step : Step F S) × does state command step × (step.outcome ≡ Ok next) × Leads does next rest later

-- the same of statements under `run` and `plain`
abbrev pub LeadsTo : Finds → Answering → Evaluating → State → List Command → State → Type 0
LeadsTo finds answer evaluating state commands later = Leads (DoesInSession finds answer evaluating) state commands later
