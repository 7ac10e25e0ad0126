-- One run over the scores that are known.
use Rattle.std.specs.Prelude.{ℕ, ℤ, ◌≡◌, ◌++◌, Bool, true, false, List, Option, Some, None}
use Rattle.rs_value.specs.Outside.{Outside}
use Rattle.rs_outside.specs.Files.{FilesState, KeepsFiles}
use Rattle.rs_outside.specs.MemSink.{no_pieces, sink_state}
use Rattle.rs_events.specs.Environment.{environment}
use Rattle.rs_run.specs.Outcome.{FormRunsTo}
use Rattle.rs_events.specs.Status.{exit_status_of}
use Rattle.rs_events.specs.declared.status.Status.{Status}
use Rattle.rs_events.specs.declared.status.Status.TheVariants as status
use Rattle.rs_run.specs.Words.{Form}
use Rattle.rs_scores.specs.Known.{Known, score_of}
use Rattle.rs_scores.specs.TableScorer.{TableScorerState, missing_last, new_scorer, table_state}
use Rattle.rs_ask.specs.declared.pass.Pass.{Pass}

-- a question whose score isn't known
abbrev pub unless_known : Known → List (List ℕ) → Option (List (List ℕ))
unless_known known question = unless (score_of question known) where
  unless : Option ℤ → Option (List (List ℕ))
  unless (Some score) = None
  unless None = Some question

-- the question that a run with this status missed
abbrev pub missing_in : Known → Status → Option (List (List ℕ)) → Option (List (List ℕ))
missing_in known status.Probe (Some question) = unless_known known question
missing_in known _ _ = None

-- whether this is the status of want of memory
abbrev pub is_memory : Status → Bool
is_memory status.Memory = true
is_memory _ = false

-- one run of what words of this form ask for over what is known, also of the files, whose rows go to this sink: what was known of the files stays known; its status, its line, how many calls it made, and the question of its last call, where that one failed and its score isn't known, with the greatest score of its predicate
pub record IsPass (form : Form) (known : Known) (pass : Pass) (old new : FilesState) (rows puts : Outside (List (List ℕ))) : Type 0 where
  pub status : Status
  pub scorer : TableScorerState
  pub number : pass.status ≡ exit_status_of status
  pub lacked : pass.lacked_memory ≡ is_memory status
  pub ran : FormRunsTo (Some form) status
      (environment old (table_state (new_scorer known)) rows (sink_state no_pieces))
      (environment new (table_state scorer) puts (sink_state pass.err))
  pub kept : KeepsFiles old new
  pub calls : pass.calls ≡ scorer.count
  pub missing : pass.missing ≡ missing_in known status (missing_last known scorer.calls)
  pub most : pass.most ≡ scorer.most
