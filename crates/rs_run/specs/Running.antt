-- The run of the words of a command line.
use Rattle.std.specs.Prelude.{ℕ, ◌≡◌, List, Option, Some, None, Ok}
use Rattle.std.specs.List.{AllByRecursion}
use Rattle.rs_gen.specs.Files.{script_name}
use Rattle.rs_run.specs.Generated.{finds_generated, unfetched}
use Rattle.rs_statement.specs.declared.evaluating.Evaluating.{Evaluating}
use Rattle.rs_statement.specs.declared.evaluating.Evaluating.TheVariants.{Planned}
use Rattle.rs_statement.specs.declared.sampling.Sampling.TheVariants.{ByScores}
use Rattle.rs_syntax.specs.Syntax.{Command}
use Rattle.rs_run.specs.Faults.{WordsRun}
use Rattle.rs_run.specs.declared.fault.RunFault.TheVariants.{Statement, Usage}
use Rattle.rs_words.specs.declared.fault.WordFault.{WordFault}
use Rattle.rs_words.specs.Certifying.{IsCertRun}
use Rattle.rs_words.specs.Checking.{IsCheckRun}
use Rattle.rs_words.specs.Feeding.{IsFeedRun}
use Rattle.rs_run.specs.FeedTold.{word_fault}
use Rattle.rs_run.specs.Words.{Certify, Check, Feed, Form, RunGenerated, RunScript, Threshold, Top, Views, form_of}
use Rattle.rs_run.specs.Top.{top_lines}
use Rattle.rs_run.specs.Plain.{HasStatements, ScriptRuns, as_it_is, source_of}
use Rattle.rs_run.specs.Threshold.{ScansRun}
use Rattle.rs_run.specs.Viewing.{ViewsRun}
use Rattle.rs_expr.specs.Scoring.{Answering}
use Rattle.rs_outside.specs.Files.{Finds}
use Rattle.rs_statement.specs.Steps.{Run}
use Rattle.rs_events.specs.Run as events
use Rattle.rs_events.specs.Run.{fails, fetch_then, with_fault}
use Rattle.rs_statement.specs.Session.{StatementsRun}
use Rattle.rs_statement.specs.Statements.{IsNoExplain}

-- the run of the script of this name, whose queries are evaluated so
abbrev pub IsScriptRun : Finds → Answering → List ℕ → Evaluating → Run → Type 0
IsScriptRun finds answer name evaluating run = ScriptRuns as_it_is finds (StatementsRun finds answer evaluating) name run

-- the run of the generated script: what the word `run` does over the generated files with the number as its seed, without its fetches
abbrev pub IsGeneratedRun : Answering → ℕ → ℕ → Run → Type 0
IsGeneratedRun answer number rows run =
    (whole : Run) × IsScriptRun (finds_generated number rows) answer script_name (Planned (ByScores number)) whole × (run ≡ unfetched whole)

-- the run of a form whose faults are those of statements; no other form has such a run
abbrev pub IsRunOf : Finds → Answering → Form → Run → Type 0
IsRunOf finds answer (Top top) run = (there : Option (List ℕ)) × finds top.file there × (run ≡ fetch_then top.file (top_lines top there))
IsRunOf finds answer (RunScript name evaluating) run = IsScriptRun finds answer name evaluating run
IsRunOf finds answer (RunGenerated number rows) run = IsGeneratedRun answer number rows run
IsRunOf finds answer _ run = ⊥

-- the run of a form: one with faults of its own, or one whose faults are those of statements
abbrev pub IsFormRun : Finds → Answering → Form → WordsRun → Type 0
IsFormRun finds answer (Threshold name) run = ScriptRuns Statement finds (ScansRun finds answer) name run
IsFormRun finds answer (Feed words) run = (own : events.Run WordFault) × IsFeedRun finds words own × (run ≡ with_fault (word_fault words.left words.right) own)
IsFormRun finds answer (Certify words) run = (own : events.Run WordFault) × IsCertRun finds words own × (run ≡ with_fault (word_fault words.left words.right) own)
IsFormRun finds answer (Check file) run = (own : events.Run WordFault) × IsCheckRun finds file own × (run ≡ with_fault (word_fault file file) own)
IsFormRun finds answer (Views name) run = ScriptRuns Statement finds (ViewsRun finds answer) name run
IsFormRun finds answer form run = (own : Run) × IsRunOf finds answer form own × (run ≡ with_fault Statement own)

-- the run of words of this form; where they are of none, it ends at once
abbrev pub OfForm : Finds → Answering → Option Form → WordsRun → Type 0
OfForm finds answer None run = run ≡ fails Usage
OfForm finds answer (Some form) run = IsFormRun finds answer form run

-- the run of these words. Of `top` it is one fetch, and then a put for each line, or a fault before any put. Of `plain` and `run` it is what the script does. Of
-- `gen` it is what the generated script does under `run`, over the generated files and with the number as the seed, without the fetches. Of `ta` and `view` it is
-- what the script does under that word. Of `feed`, `cert` and `check` it is the run of the word over its files. Of words of no form it is no event, and Usage
abbrev pub IsRun : Finds → Answering → List (List ℕ) → WordsRun → Type 0
IsRun finds answer words run = OfForm finds answer (form_of words) run

-- the script under a name has no statement that is EXPLAIN or EXPLAIN ANALYZE
abbrev pub HasNoExplain : Finds → List ℕ → Type 0
HasNoExplain finds name = (there : Option (List ℕ)) (script : List ℕ) (commands : List Command) → finds name there → source_of name there ≡ Ok script
    → HasStatements script commands → AllByRecursion IsNoExplain commands
